use Rattle.std.proofs.Common.{◌≡◌, length, get_or}
use Rattle.std.specs.Float.{nan}
use Rattle.laws.specs.Loops.{over}
use Rattle.tau_clears.proofs.weights.copy.Given as goal

abbrev pub invariant-loop-k : goal.invariant-loop-k
invariant-loop-k l = (length l.weights ≡ length l.initial.weights) × (l.weights ≡ over l.k (λ j y. get_or l.others j nan) l.initial.weights)
