use Rattle.std.proofs.Common.{◌≡◌}
use Rattle.tau_spectra.specs.Powers.{kept_power_to}
use Rattle.tau_spectra.proofs.powers.far_power_of.Given as goal

abbrev pub invariant-loop-slot : goal.invariant-loop-slot
invariant-loop-slot l = l.sum ≡ kept_power_to l.powers l.slot
