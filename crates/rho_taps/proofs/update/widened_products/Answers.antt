use Rattle.std.proofs.Common.{refl, arith}
use Rattle.std.specs.Float.{nan}
use Rattle.laws.specs.Loops.{over_none, over-turn, over-passed}
use Rattle.rho_taps.proofs.update.widened_products.Goals as goal

pub loop-k-init : goal.loop-k-init
loop-k-init g c = over_none _ _

pub loop-k-preserved : goal.loop-k-preserved
loop-k-preserved g c = over-turn _ _ _ c.loop-k.invariant (rw (c.widen-x.ensures, c.requires.samples_len))

pub returns : goal.returns
returns g c = over-passed nan c.loop-k.k 32 _ _ refl (omega arith) c.loop-k.invariant
