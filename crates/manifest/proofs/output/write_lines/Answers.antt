-- `manifest::output::write_lines` meets its contract: what is written is the beginning of the text. Assumes nothing.
use Rattle.std.proofs.Common.{arith, length}
use Rattle.manifest.proofs.Written.{fits, turn, end}
use Rattle.manifest.proofs.output.write_lines.Goals as goal

pub put_line-at-requires : goal.put_line-at-requires
put_line-at-requires c =
    fits c.args.lines.now c.loop-line.line-index (length c.args.out.now) c.loop-line.out c.loop-line.at c.loop-line.auto.out c.loop-line.invariant c.requires (omega arith)

pub loop-line-preserved : goal.loop-line-preserved
loop-line-preserved c =
    turn c.args.lines.now c.loop-line.line-index (length c.args.out.now) c.loop-line.out c.loop-line.at c.loop-line.auto.out c.loop-line.invariant (omega arith)
    c.put_line-at.ensures.value c.put_line-at.ensures.within c.put_line-at.ensures.out_after

pub returns : goal.returns
returns c = end c.args.lines.now c.loop-line.line-index (length c.args.out.now) c.loop-line.out c.loop-line.at c.loop-line.auto.out c.loop-line.invariant (omega arith)
