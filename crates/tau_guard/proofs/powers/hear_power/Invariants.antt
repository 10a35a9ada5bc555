use Rattle.std.proofs.Common.{◌≡◌}
use Rattle.tau_guard.specs.Powers.{followed}
use Rattle.tau_guard.proofs.powers.hear_power.Given as goal

abbrev pub invariant-loop-i : goal.invariant-loop-i
invariant-loop-i l = l.acc ≡ followed l.samples l.i l.initial.acc
