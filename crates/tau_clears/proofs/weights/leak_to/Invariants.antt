use Rattle.std.proofs.Common.{◌≡◌, get_or}
use Rattle.std.specs.Float.{nan, binary64}
use Rattle.std.specs.Float.Ieee.{add, sub, mul}
use Rattle.laws.specs.Loops.{over}
use Rattle.tau_clears.proofs.weights.leak_to.Given as goal

abbrev pub invariant-loop-k : goal.invariant-loop-k
invariant-loop-k l = l.weights ≡ over l.k (λ k w. add binary64 w (mul binary64 l.leak (sub binary64 (get_or l.others k nan) w))) l.initial.weights
