use Rattle.std.proofs.Common.{◌≡◌}
use Rattle.std.specs.Float.{binary64}
use Rattle.std.specs.Float.Ieee.{mul}
use Rattle.laws.specs.Loops.{over}
use Rattle.tau_state.specs.Constants.{f0·5}
use Rattle.tau_clears.proofs.weights.halve.Given as goal

abbrev pub invariant-loop-weight : goal.invariant-loop-weight
invariant-loop-weight l = l.weights ≡ over l.weight-index (λ k x. mul binary64 x f0·5) l.initial.weights
