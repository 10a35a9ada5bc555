-- The three clears, each with all that it touches: the weights, the error powers and the rescue streak, and the count of resets.
-- Document 01 names the weights; the rest is the Rust's. Definitions only.
use Rattle.std.specs.Prelude.{List, ℕ, replicate, Float}
use Rattle.laws.specs.Counting.{one_more}
use Rattle.tau_state.specs.Constants.{zero64, one}
use Rattle.tau_state.specs.declared.state.Paths.{Paths}
use Rattle.tau_state.specs.declared.state.Suppressor.{Suppressor}
use Rattle.tau_clears.specs.Weights.{cleared, halved}

-- the suppressor's powers 0 and its gains 1, the window kept
unfoldable pub released : Suppressor → Suppressor
released suppressor = record {
  echo_power = replicate 257 zero64;
  error_power = replicate 257 zero64;
  gain = replicate 257 one;
  error_window = suppressor.error_window;
}

pub record ShadowClear : Type 0 where
  pub paths : Paths
  pub resets : ℕ
  pub shadow : List Float

-- `diverge_shadow`: the shadow's error power is then the output's, and no rescue is near
unfoldable pub diverge_shadow : Paths → ℕ → List Float → ShadowClear
diverge_shadow paths resets shadow = record {
  paths = record {
    shadow_error_power = paths.output_error_power;
    output_error_power = paths.output_error_power;
    quiet_streak = paths.quiet_streak;
    rescue_streak = 0;
  };
  resets = one_more resets;
  shadow = cleared shadow;
}

pub record BothClear : Type 0 where
  pub paths : Paths
  pub suppressor : Suppressor
  pub resets : ℕ
  pub shadow : List Float
  pub output : List Float

-- `diverge`: both error powers are 0
unfoldable pub diverge_of : Paths → Suppressor → ℕ → List Float → List Float → BothClear
diverge_of paths suppressor resets shadow output = record {
  paths = record { shadow_error_power = zero64; output_error_power = zero64; quiet_streak = paths.quiet_streak; rescue_streak = 0 };
  suppressor = released suppressor;
  resets = one_more resets;
  shadow = cleared shadow;
  output = cleared output;
}

pub record OutputHalved : Type 0 where
  pub paths : Paths
  pub suppressor : Suppressor
  pub resets : ℕ
  pub output : List Float

-- `retire_output`: "halves the output weights"; the output's error power is then the guard's smoothed near power
unfoldable pub retire_output : Float → Paths → Suppressor → ℕ → List Float → OutputHalved
retire_output near_power paths suppressor resets output = record {
  paths = record {
    shadow_error_power = paths.shadow_error_power;
    output_error_power = near_power;
    quiet_streak = paths.quiet_streak;
    rescue_streak = 0;
  };
  suppressor = released suppressor;
  resets = one_more resets;
  output = halved output;
}
