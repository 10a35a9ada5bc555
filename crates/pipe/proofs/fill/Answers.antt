use Rattle.std.proofs.Common.{rules}
use Rattle.pipe.proofs.Behind.{behind}
use Rattle.pipe.proofs.fill.Goals as goal

pub loop-held-preserved : goal.loop-held-preserved
loop-held-preserved g c =
    (search rules, search rules, behind _ _ _ c.loop-held.held c.in-Ok.more c.loop-held.block c.read.new.buf (search rules) c.in-Ok.ensures.bound.0 c.loop-held.invariant.2 c.in-Ok.ensures.bytes.0)
