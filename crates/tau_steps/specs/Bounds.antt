-- The bound of what a block decides, as a kind of number. Proved in proofs/Bounds.antt.
use Rattle.std.specs.Prelude.{T, Float}
use Rattle.std.specs.Float.Ieee.{lt, le}
use Rattle.tau_state.specs.Constants.{zero64, f0·75}

-- "the leak is above 0 and at most 0.75"
pub record Leak (r : Float) : Type 0 where
  pub low : T (lt zero64 r)
  pub high : T (le r f0·75)
