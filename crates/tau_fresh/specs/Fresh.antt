-- The states that creation and reset give. Definitions only.
use Rattle.std.specs.Prelude.{Bool, false, ℕ, ◌-◌, replicate, Float}
use Rattle.tau_state.specs.Constants.{zero32, zero64, one}
use Rattle.tau_state.specs.declared.state.TauCanceller.{TauCanceller}
use Rattle.tau_state.specs.declared.state.Mic.{Mic}

-- a microphone's part: every number 0 but for the step scale and the gains, and the two counters as they are kept
unfoldable pub fresh_mic : Float → ℕ → ℕ → Mic
fresh_mic unit transfers resets = record {
  detector = record {
    double_talk = false;
    dtd_collapsed = false;
    protect_output = false;
    dtd_blocks = 0;
    dtd_baseline = zero64;
    dtd_deviation = zero64;
    coherence_smooth = zero64;
    step_scale = unit;
  };
  paths = record { shadow_error_power = zero64; output_error_power = zero64; quiet_streak = 0; rescue_streak = 0 };
  far_power_mean = replicate 257 zero64;
  suppressor = record {
    echo_power = replicate 257 zero64;
    error_power = replicate 257 zero64;
    gain = replicate 257 unit;
    error_window = replicate 512 zero32;
  };
  guard = record { divergence_near_power = zero64; divergence_out_power = zero64 };
  powers = record { near_power = zero64; residual_power = zero64 };
  transfers = transfers;
  divergence_resets = resets;
}

abbrev pub fresh_state_of : ℕ → Bool → ℕ → Mic → TauCanceller
fresh_state_of parts flag head m = record {
  partitions = parts;
  suppress = flag;
  carried = 0;
  near_carry = replicate 256 zero32;
  far_carry = replicate 256 zero32;
  far = record { window = replicate 512 zero32; head = head; far_active = false; far_energy_peak = zero64 };
  mic = m;
}

-- the fresh state: the first block then stands in slot 0 of the ring, and nothing is suppressed or slowed
unfoldable pub fresh_of : ℕ → Bool → ℕ → ℕ → TauCanceller
fresh_of parts flag transfers resets = fresh_state_of parts flag (parts - 1) (fresh_mic one transfers resets)

-- "Creation has no state to give back: its state is then all zero."
unfoldable pub empty_of : TauCanceller
empty_of = fresh_state_of 0 false 0 (fresh_mic zero64 0 0)
