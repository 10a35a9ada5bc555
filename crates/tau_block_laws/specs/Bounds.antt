-- The bounds of the update's step factor and of the suppressor's target, as kinds of numbers. Proved in proofs/Bounds.antt.
use Rattle.std.specs.Prelude.{T, Float}
use Rattle.std.specs.Float.Ieee.{le}
use Rattle.tau_state.specs.Constants.{one, f0·02, f0·1}

-- "the step factor in 6 is 0.02 to 1"
pub record Factor (r : Float) : Type 0 where
  pub low : T (le f0·02 r)
  pub high : T (le r one)

-- "the suppressor's target is 0.1 to 1 .."
pub record Target (r : Float) : Type 0 where
  pub low : T (le f0·1 r)
  pub high : T (le r one)
