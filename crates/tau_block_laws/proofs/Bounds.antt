-- The bounds of the update's step factor and of the suppressor's target. Assumes nothing.
--     factor-low       the step factor is 0.02 or more, of any mean and power
--     factor-bounds    and at most 1 where the power is not below 0, or a NaN
--     far-powers       as every far power is, whatever the spectra hold
--     step-factor      so the step factor of each bin of every block is 0.02 to 1
--     target-bounds    the target is 0.1 to 1 where the error power is finite and the echo power no NaN
use mathlib.Core.Path.{◌≡◌, refl, sym, ap, subst}
use mathlib.Core.Bool.{Bool, true, false, not, ◌&&◌, cond, beq, true≢false}
use mathlib.Core.List.{List}
use Prim.Native.Nat.{ℕ, ◌+◌, ◌-◌, ◌*◌, ◌<◌}
use native.Mathlib.Nat.{mul-one, zero-mul}
use native.Mathlib.Omega.{arith}
use lib.Dec.{T, ltb, ltb→lt, lt→ltb}
use lib.ListN.{get_or, replicate}
use borrow.Author.Tests.{ltb-true, ne_eqb}
use lib.Ieee.{Float, nan, inf, fin, binary64, unlike, up, down, round, sum, add, mul, div, lt, le, is_nan, of_bits}
use lib.Ieee.Positive.{positive, above, first_pos}
use Rattle.laws.specs.Choice.{pick-if}
use Rattle.laws.specs.Kinds.{All, all-get-or, all_replicate, all-over, iter-keeps}
use Rattle.numbers.specs.Finite.{is_finite}
use Rattle.numbers.specs.Order.{min_of, max_of, clamp_of}
use Rattle.numbers.specs.Ranges.{Unit, Power}
use Rattle.numbers.specs.Zeros.{Finite}
use Rattle.numbers.proofs.Ordered.{total, max-right, clamp-low, clamp-high}
use Rattle.numbers.proofs.Ranged.{unit-mul, unit-min, power-square, power-add, power_div, number-div}
use Rattle.numbers.proofs.Tests.{round-no-nan}
use Rattle.complex.specs.Complexes.{get_c}
use Rattle.tau_state.specs.Constants.{zero64, one, f0·0003, f0·02, f0·1}
use Rattle.tau_block_laws.specs.Bounds.{Factor, Target}
use Rattle.tau_spectra.specs.Bins.{power_at}
use Rattle.tau_spectra.specs.Powers.{far_power_to}
use Rattle.tau_update.specs.Update.{factor_of}
use Rattle.tau_suppressor.specs.Suppressor.{target_of}

-- what is tested to be above 0
lt_above : (x : Float) → lt zero64 x ≡ true → T (above x)
unfolding lt of_bits
lt_above nan h = absurd (true≢false (sym h))
lt_above (inf true) h = absurd (true≢false (sym h))
lt_above (inf false) h = tt
lt_above (fin true m e) h = absurd (true≢false (sym h))
lt_above (fin false m e) h = lt→ltb 0 m (first_pos m (up e) (rw (zero-mul, mul-one) at (ltb-true (0 * down e) (m * up e * 1) h)))

-- ---- the step factor

-- a number between 0 and 1, held to 0.02 or more
raised : {x : Float} → Unit x → T (le (max_of x f0·02) one)
unfolding max_of le of_bits
raised {x} u = pick-if (λ r. T (le r one)) (is_nan x) (λ _. tt) (λ _. pick-if (λ r. T (le r one)) (lt x f0·02) (λ _. tt) (λ _. u.high))

-- 0.02 or more of any numbers,
pub factor-low : (mean power : Float) → T (le f0·02 (factor_of mean power))
unfolding factor_of le of_bits is_nan
factor-low mean power =
    let share = min_of (div binary64 power mean) one in
    pick-if (λ r. T (le f0·02 r)) (lt zero64 mean) (λ _. max-right (mul binary64 share share) f0·02 tt) (λ _. tt)

-- and at most 1 of a power that is not below 0, or a NaN. (Of the power -2.0 and the mean 1.0 it is 4.0.)
pub factor-bounds : (mean power : Float) → Power power → Factor (factor_of mean power)
unfolding factor_of le of_bits
factor-bounds mean power h = record {
  low = factor-low mean power;
  high = pick-if (λ r. T (le r one)) (lt zero64 mean)
      (λ l. let u = unit-min (power_div binary64 mean h (lt_above mean l)) in raised (unit-mul binary64 u u)) (λ _. tt);
}

-- a bin's power is a sum of squares
bin-power : (s : List Float) (k : ℕ) → Power (power_at s k)
unfolding power_at
bin-power s k = power-add binary64 (power-square binary64 (get_c s k).re) (power-square binary64 (get_c s k).im)

-- Every far power is not below 0, or a NaN.
pub far-powers : (xs : List Float) (n : ℕ) → All Power (far_power_to xs n)
unfolding far_power_to of_bits
far-powers xs n =
    iter-keeps (All Power) _ (replicate 257 zero64) n (all_replicate 257 zero64 (record { power = tt }))
    (λ p acc _ h. all-over 257 _ h (λ k a _ g. power-add binary64 g (bin-power _ k)))

-- So of every bin, whatever the spectra and the means hold.
pub step-factor : (xs means : List Float) (parts k : ℕ) → Factor (factor_of (get_or means k nan) (get_or (far_power_to xs parts) k nan))
step-factor xs means parts k =
    factor-bounds (get_or means k nan) (get_or (far_power_to xs parts) k nan) (all-get-or k (far-powers xs parts) (record { power = tt }))

-- ---- the suppressor's target

one-target : Target one
unfolding le of_bits
one-target = record { low = tt; high = tt }

number : (x : Float) → is_nan x ≡ false → T (not (is_nan x))
number x n = subst (λ (b : Bool). T (not b)) (sym n) tt

clamped : (x : Float) → is_nan x ≡ false → Target (clamp_of x f0·1 one)
unfolding le of_bits is_nan
clamped x n = record { low = clamp-low x f0·1 one (number x n) tt tt tt; high = clamp-high x f0·1 one (number x n) tt tt tt }

-- a sum of two finite numbers
sum_number : (s : Bool) (a : ℕ) (t : Bool) (b c : ℕ) → is_nan (sum binary64 s a t b c) ≡ false
unfolding sum
sum_number s a t b c = go (beq s t) (ltb a b)
  where
    go : (u v : Bool) → is_nan (cond u (round binary64 s (a + b) c) (cond v (round binary64 t (b - a) c) (round binary64 (s && ltb b a) (a - b) c))) ≡ false
    go true v = round-no-nan binary64 s (a + b) c
    go false true = round-no-nan binary64 t (b - a) c
    go false false = round-no-nan binary64 (s && ltb b a) (a - b) c

-- a finite number and what is no NaN, added; and multiplied, where the finite one is above 0
number-add : (x y : Float) → Finite x → is_nan y ≡ false → is_nan (add binary64 x y) ≡ false
unfolding add is_finite
number-add nan y h k = absurd h.finite
number-add (inf s) y h k = absurd h.finite
number-add (fin s m e) nan h k = k
number-add (fin s m e) (inf t) h k = k
number-add (fin s m e) (fin t n d) h k = sum_number s (m * up e * down d) t (n * up d * down e) (down e * down d)

number-mul : (x y : Float) → T (positive x) → is_nan y ≡ false → is_nan (mul binary64 x y) ≡ false
unfolding mul is_nan
number-mul nan y p k = absurd p
number-mul (inf s) y p k = absurd p
number-mul (fin true m e) y p k = absurd p
number-mul (fin false m e) nan p k = k
number-mul (fin false m e) (inf t) p k =
    let l : 0 < m = ltb→lt 0 m p in
    ap (λ (b : Bool). is_nan (cond b nan (inf (unlike false t)))) (ne_eqb m 0 (λ z. omega arith))
number-mul (fin false m e) (fin t n d) p k = round-no-nan binary64 (unlike false t) (m * up e * (n * up d)) (down e * down d)

-- what is no NaN and not at most 0 is above it
above-rest : (x : Float) → T (not (is_nan x)) → le x zero64 ≡ false → T (above x)
above-rest x n h = go (lt zero64 x) refl
  where
    go : (b : Bool) → lt zero64 x ≡ b → T (above x)
    go true l = lt_above x l
    go false l = absurd (subst T h (total zero64 x (unfold of_bits is_nan in tt) n l))

-- The target, 0.1 to 1.
pub target-bounds : (protect : Bool) (echo err : Float) → Finite err → is_nan echo ≡ false → Target (target_of protect echo err)
unfolding target_of
target-bounds protect echo err h k =
    let s = add binary64 err (mul binary64 f0·0003 echo) in
    let n : is_nan s ≡ false = number-add err (mul binary64 f0·0003 echo) h (number-mul f0·0003 echo (unfold of_bits in tt) k) in
    pick-if Target protect (λ _. one-target)
    (λ _. pick-if Target (le s zero64) (λ _. one-target)
    (λ l. clamped (div binary64 err s) (number-div binary64 s h (above-rest s (number s n) l))))
