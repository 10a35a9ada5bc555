-- The bounds that every span shares, where half * stride is 128. Assumes nothing.
--     place     a twiddle's place in the table
--     room      a block ends within the 256 points
--     halves      the eight spans have such a half and stride
use mathlib.Core.Path.{◌≡◌}
use Prim.Native.Nat.{ℕ, zero, suc, ◌+◌, ◌*◌, ◌/◌, ◌^◌, ◌<◌, ◌≤◌}
use native.Mathlib.Nat.{mul-le-mul_right, suc-mul, mul-zero, mul_comm, mul_assoc}
use native.Mathlib.Omega.{arith}
use lib.Dec.{eqb, eqb→eq}
use Rattle.laws.specs.Tables.{at-below}

pub place : (j half stride : ℕ) → j < half → half * stride ≡ 128 → j * stride < 128
place j half zero h e = omega (arith, mul-zero half, e)
place j half (suc p) h e = omega (arith, mul-le-mul_right (suc p) h, suc-mul j (suc p), e)

pub room : (b half stride : ℕ) → b < stride → half * stride ≡ 128 → b * (2 * half) + 2 * half ≤ 256
room b half stride h e =
    omega (arith, mul-le-mul_right (2 * half) h, suc-mul b (2 * half), mul_comm stride (2 * half), mul_assoc 2 half stride, e)

pub halves : (k : ℕ) → k < 8 → 2 ^ k * (128 / 2 ^ k) ≡ 128
halves k h = eqb→eq (2 ^ k * (128 / 2 ^ k)) 128 (at-below (λ j. eqb (2 ^ j * (128 / 2 ^ j)) 128) 8 k tt h)
