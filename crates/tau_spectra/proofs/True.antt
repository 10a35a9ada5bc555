-- Kept powers that are true (K10). Assumes nothing.
--     fresh-true      where spectra and powers are all +0.0
--     heard-slot      a slot after a block, which writes one slot of both
--     kept-sum        and then the sum of the kept powers is that of the spectra's squares
use mathlib.Core.Path.{◌≡◌, refl, sym, ap, subst, ◌∙◌}
use mathlib.Core.Bool.{Bool, true, false}
use mathlib.Core.List.{List}
use mathlib.Core.Logic.{◌⊎◌, inl, inr}
use Prim.Native.Nat.{ℕ, ◌+◌, ◌*◌, ◌≤◌, ◌<◌}
use native.Mathlib.Nat.{mul-suc, mul-le-mul_left}
use native.Mathlib.Omega.{arith}
use lib.Dec.{eqb}
use borrow.Author.Tests.{eqb-true, eqb-false}
use lib.Ieee.{Float, nan, binary64, add, mul, of_bits}
use lib.ListN.{length, get_or, replicate, length-replicate, get_or-replicate}
use lib.Seq.{ext_get_or}
use Rattle.laws.specs.Choice.{lt-or-ge}
use Rattle.laws.specs.Parts.{part, with_part, length_part, get-part, part-with, part-beside}
use Rattle.laws.specs.Readings.{iter-cong, over-cong}
use Rattle.laws.specs.Tables.{length-table, table_at}
use Rattle.tau_state.specs.Constants.{zero64}
use Rattle.tau_spectra.specs.Bins.{power_at}
use Rattle.tau_spectra.specs.Powers.{powers_of, kept_power_to, far_power_to, TrueSlot, TruePowers}

pub powers-257 : (spectrum : List Float) → length (powers_of spectrum) ≡ 257
unfolding powers_of
powers-257 spectrum = length-table 257 (power_at spectrum)

-- ---- the sum

pub kept-sum : (n : ℕ) (spectra powers : List Float) → TruePowers n spectra powers → kept_power_to powers n ≡ far_power_to spectra n
unfolding kept_power_to far_power_to powers_of
kept-sum n spectra powers t =
    iter-cong _ _ (replicate 257 zero64) n
    (λ p sum l. over-cong _ _ sum 257
    (λ k a h. ap (add binary64 a) (ap (λ (s : List Float). get_or s k nan) (t.each p l) ∙ table_at 257 (power_at (part 514 p spectra)) k nan h)))

-- ---- a block

apart : (p q : ℕ) → (q ≡ p → ⊥) → (q < p) ⊎ (p < q)
apart p q n = go (lt-or-ge q p)
  where
    go : (q < p) ⊎ (p ≤ q) → (q < p) ⊎ (p < q)
    go (inl h) = inl h
    go (inr h) = inr (omega arith)

next-below : (m p q : ℕ) → p < q → m * p + m ≤ m * q
next-below m p q h = subst (λ (k : ℕ). k ≤ m * q) (mul-suc m p) (mul-le-mul_left m h)

module _ (n head : ℕ) (spectra powers spectrum : List Float) (b : head < n) (ex : length spectra ≡ 514 * n) (ep : length powers ≡ 257 * n) (es : length spectrum ≡ 514) where
  abbrev new_spectra : List Float
  new_spectra = with_part 514 head spectra spectrum

  abbrev new_powers : List Float
  new_powers = with_part 257 head powers (powers_of spectrum)

  -- the slot that is written
  there : TrueSlot head new_spectra new_powers
  there =
      part-with 257 head powers (powers_of spectrum) nan (omega arith) (powers-257 spectrum)
      ∙ ap powers_of (sym (part-with 514 head spectra spectrum nan (omega arith) es))

  -- any other
  beside : (slot : ℕ) → slot < n → (slot < head) ⊎ (head < slot) → TrueSlot slot spectra powers → TrueSlot slot new_spectra new_powers
  beside slot l o t =
      part-beside 257 head powers (powers_of spectrum) nan (omega arith) (powers-257 spectrum) slot (omega arith) (sides 257 o)
      ∙ t
      ∙ ap powers_of (sym (part-beside 514 head spectra spectrum nan (omega arith) es slot (omega arith) (sides 514 o)))
    where
      sides : (m : ℕ) → (slot < head) ⊎ (head < slot) → (m * slot + m ≤ m * head) ⊎ (m * head + m ≤ m * slot)
      sides m (inl h) = inl (next-below m slot head h)
      sides m (inr h) = inr (next-below m head slot h)

  pub heard-slot : (slot : ℕ) → slot < n → ((slot ≡ head → ⊥) → TrueSlot slot spectra powers) → TrueSlot slot new_spectra new_powers
  heard-slot slot l t = go (eqb slot head) refl
    where
      go : (d : Bool) → eqb slot head ≡ d → TrueSlot slot new_spectra new_powers
      go true d = subst (λ (q : ℕ). TrueSlot q new_spectra new_powers) (sym (eqb-true slot head d)) there
      go false d = let other = eqb-false slot head d in beside slot l (apart head slot other) (t other)

-- ---- creation and reset

square : add binary64 (mul binary64 zero64 zero64) (mul binary64 zero64 zero64) ≡ zero64
unfolding add mul of_bits
square = refl

zeros-part : (m n p : ℕ) → m * p + m ≤ m * n → part m p (replicate (m * n) zero64) ≡ replicate m zero64
zeros-part m n p b =
    let zeros = replicate (m * n) zero64 in
    let long : length (part m p zeros) ≡ m = length_part m p zeros (omega (arith, b, length-replicate (m * n) zero64)) in
    ext_get_or nan (part m p zeros) (replicate m zero64) (long ∙ sym (length-replicate m zero64))
    (λ i h. let k : i < m = omega (arith, h, long) in
    get-part m p zeros i nan k ∙ get_or-replicate (m * n) (m * p + i) zero64 nan (omega (arith, k, b)) ∙ sym (get_or-replicate m i zero64 nan k))

zeros-powers : powers_of (replicate 514 zero64) ≡ replicate 257 zero64
unfolding powers_of power_at
zeros-powers =
    let zeros = replicate 514 zero64 in
    ext_get_or nan (powers_of zeros) (replicate 257 zero64) (powers-257 zeros ∙ sym (length-replicate 257 zero64))
    (λ i h. let k : i < 257 = omega (arith, h, powers-257 zeros) in
    let re = get_or-replicate 514 (2 * i) zero64 nan (omega arith) in
    let im = get_or-replicate 514 (2 * i + 1) zero64 nan (omega arith) in
    table_at 257 (power_at zeros) i nan k ∙ rw (re, im) square ∙ sym (get_or-replicate 257 i zero64 nan k))

pub fresh-true : (n : ℕ) → TruePowers n (replicate (514 * n) zero64) (replicate (257 * n) zero64)
fresh-true n = record {
  each = λ p l. zeros-part 257 n p (omega arith) ∙ sym zeros-powers ∙ ap powers_of (sym (zeros-part 514 n p (omega arith)));
}
