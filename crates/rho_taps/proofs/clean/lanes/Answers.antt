use Rattle.std.proofs.Common.{refl, arith}
use Rattle.std.specs.Float.{nan}
use Rattle.laws.specs.Loops.{over_none, over-turn, over-passed}
use Rattle.rho_taps.proofs.clean.lanes.Goals as goal

pub loop-k-init : goal.loop-k-init
loop-k-init c = over_none _ _

pub loop-k-preserved : goal.loop-k-preserved
loop-k-preserved c = over-turn _ _ _ c.loop-k.invariant refl

pub returns : goal.returns
returns c = over-passed nan c.loop-k.k 8 _ _ refl (omega arith) c.loop-k.invariant
