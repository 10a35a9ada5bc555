use Rattle.laws.specs.Loops.{iter-none, iter-next}
use Rattle.rho_taps.proofs.ring.Sums.add.Goals as goal

pub loop-k-init : goal.loop-k-init
loop-k-init g c = record { estimate = iter-none _ _; energy = iter-none _ _ }

pub loop-k-preserved : goal.loop-k-preserved
loop-k-preserved g c = record {
  estimate = iter-next _ _ _ c.loop-k.invariant.estimate (rw (c.widen-weight.ensures, c.widen-x.ensures));
  energy = iter-next _ _ _ c.loop-k.invariant.energy (rw c.widen-x.ensures);
}
