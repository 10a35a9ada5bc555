use Rattle.std.proofs.Common.{◌≡◌}
use Rattle.tau_state.specs.Sums.{cross_of}
use Rattle.tau_state.proofs.sums.cross.Given as goal

abbrev pub invariant-loop-k : goal.invariant-loop-k
invariant-loop-k l = l.sum ≡ cross_of l.a l.b l.k
