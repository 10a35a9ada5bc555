-- `manifest::output::put_line` meets its contract: the line's bytes, and the newline where there is room. Assumes nothing.
use Rattle.std.proofs.Common.{◌++◌, ◌∷◌, [], List, ℕ, refl, ap, sym, arith, length, drop}
use lib.ListN.{length-append}
use Rattle.manifest.proofs.Lines.{piece-whole, piece-full, put-newline}
use Rattle.manifest.proofs.output.put_line.Goals as goal

pub returns-then-line-out-clause-value : goal.returns-then-line-out-clause-value
returns-then-line-out-clause-value c = rw (piece-whole c.args.line.now (length c.args.out.now) (omega arith)) (sym (length-append c.args.line.now (10 ∷ [])))

pub returns-then-line-out-clause-out_after : goal.returns-then-line-out-clause-out_after
returns-then-line-out-clause-out_after c =
    rw (piece-whole c.args.line.now (length c.args.out.now) (omega arith)) (put-newline c.args.line.now c.args.out.now c.copy_from_slice.ensures.after (omega arith))

pub returns-clause-value : goal.returns-clause-value
returns-clause-value c = rw (piece-full c.args.line.now (length c.args.out.now) (omega arith)) refl

pub returns-clause-out_after : goal.returns-clause-out_after
returns-clause-out_after c =
    rw (piece-full c.args.line.now (length c.args.out.now) (omega arith)) (ap (λ (z : List ℕ). z ++ drop (length c.args.line.now) c.args.out.now) c.copy_from_slice.ensures.after)
