use Rattle.tau_suppressor.specs.Suppressor.{sum_from}
use mathlib.Core.Path.{◌≡◌}
use Rattle.tau_suppressor.proofs.suppressor.sum_from.Given as goal

abbrev pub invariant-loop-k : goal.invariant-loop-k
invariant-loop-k l = l.t ≡ sum_from l.g l.lo l.k
