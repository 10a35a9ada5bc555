use Rattle.tau_update.specs.Update.{gradient_at}
use mathlib.Core.Path.{◌≡◌}
use lib.Ieee.{nan}
use lib.ListN.{length}
use Rattle.laws.specs.Loops.{over2}
use Rattle.tau_update.proofs.update.gradient.Given as goal

abbrev pub invariant-loop-k : goal.invariant-loop-k
invariant-loop-k l = (length l.g ≡ 514) × (l.g ≡ over2 nan l.k (λ j re im. (gradient_at l.x l.e l.rates j).re) (λ j re im. (gradient_at l.x l.e l.rates j).im) l.initial.g)
