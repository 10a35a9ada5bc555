-- Step 9, "The two smoothed powers for the host": 0.999, sample by sample over the valid ones, the delivered block's after the guard.
use Rattle.std.specs.Prelude.{List, ℕ, get_or, Float}
use Rattle.std.specs.Float.{nan, binary64}
use Rattle.std.specs.Float.Ieee.{mul}
use Rattle.laws.specs.Loops.{iter}
use Rattle.tau_state.specs.Constants.{f0·999, smooth_by}
use Rattle.tau_state.specs.declared.state.Powers.{Powers}

unfoldable pub followed : List Float → ℕ → Float → Float
followed samples valid power = iter (λ k a. smooth_by f0·999 a (mul binary64 (get_or samples k nan) (get_or samples k nan))) power valid

unfoldable pub hosted : List Float → List Float → ℕ → Powers → Powers
hosted near block valid powers = record {
  near_power = followed near valid powers.near_power;
  residual_power = followed block valid powers.residual_power;
}
