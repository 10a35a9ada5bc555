use Rattle.tau_update.specs.Update.{finite_to}
use mathlib.Core.Path.{◌≡◌}
use Rattle.tau_update.proofs.update.all_finite.Given as goal

abbrev pub invariant-loop-k : goal.invariant-loop-k
invariant-loop-k l = l.good ≡ finite_to l.w l.k
