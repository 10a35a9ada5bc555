-- Settings, and the states of creation and reset. Definitions only.
use Rattle.std.specs.Prelude.{ℕ, ◌-◌, ◌*◌, ◌/◌, ltb}
use Rattle.std.specs.Float.{binary64}
use Rattle.std.specs.Float.Ieee.{of_bits}
use Rattle.laws.specs.Choice.{pick}
use Rattle.rho_state.specs.declared.state.RhoCanceller.{RhoCanceller}
use Rattle.rho_state.specs.declared.state.Report.{Report}

-- "taps = floor(tail*rate/1000), at least 1"
unfoldable pub taps_of : ℕ → ℕ → ℕ
taps_of rate tail = let taps = rate * tail / 1000 in pick (ltb taps 1) 1 taps

-- "Hangover H = floor(15*rate/1000)"
unfoldable pub hangover_of : ℕ → ℕ
hangover_of rate = 15 * rate / 1000

-- the fresh state: the first pair then goes to place 0
abbrev pub fresh_of : ℕ → ℕ → ℕ → RhoCanceller
fresh_of taps hangover resets =
    record {
      taps = taps;
      pos = taps - 1;
      hangover_samples = hangover;
      hangover_remaining = 0;
      near_power = of_bits binary64 0;
      residual_power = of_bits binary64 0;
      divergence_resets = resets;
    }

-- "Creation has no state to give back: its state is then all zero."
abbrev pub empty_of : RhoCanceller
empty_of =
    record {
      taps = 0;
      pos = 0;
      hangover_samples = 0;
      hangover_remaining = 0;
      near_power = of_bits binary64 0;
      residual_power = of_bits binary64 0;
      divergence_resets = 0;
    }

-- "Rho returns its resets and whether any freeze is left."
abbrev pub report_of : RhoCanceller → Report
report_of s = record { divergence_resets = s.divergence_resets; double_talk = ltb 0 s.hangover_remaining }
