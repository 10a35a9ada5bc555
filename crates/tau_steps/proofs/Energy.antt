-- The energy of f32 samples is 0 exactly where each sample is a zero, of either sign. Assumes nothing.
--     energy-zeros    the two directions; so a single NaN, infinity or least f32 among the samples makes the energy another than 0
--     energy-none     the energy of zeros is +0.0
--     zero64-is       f64's 0.0 is +0.0
use mathlib.Core.Path.{◌≡◌, refl, sym, subst}
use mathlib.Core.List.{List}
use mathlib.Core.Logic.{inl, inr}
use Prim.Native.Nat.{ℕ, zero, suc, ◌<◌}
use native.Mathlib.Nat.{not-suc-le-zero, le_of_suc-le-suc, le_refl, eq-or-lt_of_le}
use native.Mathlib.Omega.{arith}
use lib.Dec.{T}
use lib.ListN.{get_or}
use lib.Ieee.{Float, nan, binary32, binary64, add, mul, eq, fits, of_bits}
use lib.Ieee.Bits.{is_true}
use lib.Ieee.Fits.{add-fits, mul-fits}
use Rattle.laws.specs.Kinds.{iter-keeps}
use Rattle.laws.specs.Loops.{iter}
use Rattle.numbers.specs.Finite.{plus}
use Rattle.numbers.specs.Ranges.{Power}
use Rattle.numbers.specs.Zeros.{Zero, Plus}
use Rattle.numbers.proofs.Zeros.{plus-zero, plus-add, zero-of-eq, zero-square}
use Rattle.numbers.proofs.Ranged.{power-square, power-add}
use Rattle.numbers.proofs.Squares.{zero-of-left, zero-of-right, zero-of-square}
use Rattle.tau_state.specs.Constants.{zero64}
use Rattle.tau_state.specs.Sums.{energy_of}

pub zero64-is : zero64 ≡ plus
unfolding of_bits
zero64-is = refl

module _ (s : List Float) where
  -- the square that turn k adds
  abbrev square : ℕ → Float
  square k = mul binary64 (get_or s k nan) (get_or s k nan)

  abbrev turn : ℕ → Float → Float
  turn k a = add binary64 a (square k)

  energy-more : (n : ℕ) → energy_of s (suc n) ≡ add binary64 (energy_of s n) (square n)
  unfolding energy_of iter
  energy-more n = refl

  -- an energy is an f64, and a power
  energy-fits : (n : ℕ) → T (fits binary64 (energy_of s n))
  unfolding energy_of
  energy-fits n = iter-keeps (λ a. T (fits binary64 a)) turn zero64 n (unfold fits of_bits in tt) (λ k a _ _. add-fits binary64 a (square k))

  energy-power : (n : ℕ) → Power (energy_of s n)
  unfolding energy_of
  energy-power n = iter-keeps Power turn zero64 n (unfold of_bits in record { power = tt }) (λ k a _ p. power-add binary64 p (power-square binary64 (get_or s k nan)))

  -- of zeros it is +0.0
  pub energy-none : (n : ℕ) → ((k : ℕ) → k < n → Zero (get_or s k nan)) → Plus (energy_of s n)
  unfolding energy_of
  energy-none n h = iter-keeps Plus turn zero64 n (record { is = zero64-is }) (λ k a i p. plus-add binary64 p (plus-zero (zero-square binary64 (h k i))))

  -- where it is a zero, so is what the last turn squared, and what it added the square to
  last-zero : (n : ℕ) → T (fits binary32 (get_or s n nan)) → Zero (energy_of s (suc n)) → Zero (get_or s n nan)
  last-zero n f z =
      let x = get_or s n nan in
      zero-of-square f (zero-of-right binary64 (mul-fits binary64 x x) (energy-power n) (power-square binary64 x) (subst Zero (energy-more n) z))

  rest-zero : (n : ℕ) → Zero (energy_of s (suc n)) → Zero (energy_of s n)
  rest-zero n z = zero-of-left binary64 (energy-fits n) (energy-power n) (power-square binary64 (get_or s n nan)) (subst Zero (energy-more n) z)

  all-zero : (n : ℕ) → ((k : ℕ) → k < n → T (fits binary32 (get_or s k nan))) → Zero (energy_of s n) → (k : ℕ) → k < n → Zero (get_or s k nan)
  all-zero zero f z k h = absurd (not-suc-le-zero h)
  all-zero (suc n) f z k h =
      elim (eq-or-lt_of_le (le_of_suc-le-suc h)) [
        | inl e ↦ subst (λ (i : ℕ). Zero (get_or s i nan)) (sym e) (last-zero n (f n (le_refl (suc n))) z)
        | inr l ↦ all-zero n (λ i b. f i (omega arith)) (rest-zero n z) k l
      ]

-- what equals 0.0 is a zero, and +0.0 equals it
equal-zero : (x : Float) → T (eq x zero64) → Zero x
equal-zero x h = zero-of-eq x (is_true (eq x plus) (subst (λ (z : Float). T (eq x z)) zero64-is h))

plus-equal : (x : Float) → Plus x → T (eq x zero64)
unfolding eq of_bits
plus-equal x h = subst (λ (z : Float). T (eq z zero64)) (sym h.is) tt

-- Only where all are zeros, and wherever they are.
pub energy-zeros : (s : List Float) (n : ℕ) → ((k : ℕ) → k < n → T (fits binary32 (get_or s k nan)))
    → (T (eq (energy_of s n) zero64) → (k : ℕ) → k < n → Zero (get_or s k nan)) × (((k : ℕ) → k < n → Zero (get_or s k nan)) → T (eq (energy_of s n) zero64))
energy-zeros s n f = (λ h. all-zero s n f (equal-zero (energy_of s n) h), λ h. plus-equal (energy_of s n) (energy-none s n h))
