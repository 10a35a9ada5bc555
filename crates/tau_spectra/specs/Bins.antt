-- Where a number lies in a lent buffer: partition p (the ring's slot p, of the spectra) is `part 514 p`, and bin k of it `get_c .. k`,
-- real part then imaginary. Definitions only.
use Rattle.std.specs.Prelude.{List, ℕ, Float}
use Rattle.std.specs.Float.{binary64}
use Rattle.std.specs.Float.Ieee.{add, mul}
use Rattle.complex.specs.Complexes.{get_c}

-- re * re + im * im of bin k
unfoldable pub power_at : List Float → ℕ → Float
power_at s k = let z = get_c s k in add binary64 (mul binary64 z.re z.re) (mul binary64 z.im z.im)
