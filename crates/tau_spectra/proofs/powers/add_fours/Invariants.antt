use Rattle.std.proofs.Common.{◌≡◌, ◌*◌}
use Rattle.tau_spectra.specs.Powers.{kept_power_to}
use Rattle.tau_spectra.proofs.powers.add_fours.Given as goal

abbrev pub invariant-loop-four : goal.invariant-loop-four
invariant-loop-four l = l.sum ≡ kept_power_to l.powers (4 * l.four)
