use Rattle.std.proofs.Common.{arith}
use Rattle.std.specs.Float.{nan}
use Rattle.laws.specs.Loops.{over2-none, over2-next, over2-end}
use Rattle.tau_filter.specs.Filter.{added}
use Rattle.tau_filter.proofs.filter.multiply_add.Goals as goal

pub loop-k-init : goal.loop-k-init
unfolding added
loop-k-init c = over2-none nan _ _ _

pub loop-k-preserved : goal.loop-k-preserved
unfolding added
loop-k-preserved c = over2-next nan _ _ _ _ c.loop-k.invariant (rw (c.put.ensures, c.add-z.ensures, c.mul.ensures, c.get-in-loop-k-2.ensures, c.get-in-loop-k.ensures, c.get.ensures))

pub returns : goal.returns
unfolding added
returns c = over2-end nan _ _ _ _ _ c.loop-k.invariant (omega arith) (omega arith)
