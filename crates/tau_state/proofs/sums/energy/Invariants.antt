use Rattle.std.proofs.Common.{◌≡◌}
use Rattle.tau_state.specs.Sums.{energy_of}
use Rattle.tau_state.proofs.sums.energy.Given as goal

abbrev pub invariant-loop-k : goal.invariant-loop-k
invariant-loop-k l = l.sum ≡ energy_of l.samples l.k
