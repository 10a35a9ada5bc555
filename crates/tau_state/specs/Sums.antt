-- Sums over the first n samples, in f64, in ascending order from +0.0.
use Rattle.std.specs.Prelude.{List, ℕ, get_or, Float}
use Rattle.std.specs.Float.{nan, binary64}
use Rattle.std.specs.Float.Ieee.{add, mul}
use Rattle.laws.specs.Loops.{iter}
use Rattle.tau_state.specs.Constants.{zero64}

unfoldable pub energy_of : List Float → ℕ → Float
energy_of s n = iter (λ k acc. add binary64 acc (mul binary64 (get_or s k nan) (get_or s k nan))) zero64 n

unfoldable pub cross_of : List Float → List Float → ℕ → Float
cross_of a b n = iter (λ k acc. add binary64 acc (mul binary64 (get_or a k nan) (get_or b k nan))) zero64 n
