-- A number of n hex digits is below 16 ^ n, so that one of fewer than 16 digits has room for one more. Assumes nothing.
use mathlib.Core.Path.{◌≡◌}
use mathlib.Core.List.{List}
use Prim.Native.Nat.{ℕ, zero, suc, ◌<◌, ◌^◌}
use native.Mathlib.Nat.{pow-le-pow_right}
use native.Mathlib.Omega.{arith}
use Rattle.laws.specs.Loops.{iter}
use Rattle.cases.specs.Line.{number_at}

below : (s : List ℕ) (at n : ℕ) → number_at s at n < 16 ^ n
unfolding number_at iter
below s at zero = omega arith
below s at (suc n) = let h = below s at n in omega arith

pub room : (s : List ℕ) (at : ℕ) {n v : ℕ} → v ≡ number_at s at n → n < 16 → v < 16 ^ 15
room s at {n} e h =
    let l = below s at n in
    let g = pow-le-pow_right {n = 16} (omega arith) {i = n} {j = 15} (omega arith) in
    omega arith
