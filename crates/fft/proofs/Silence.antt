-- The real transform in silence: zeros have a spectrum of zeros, a spectrum of +0.0 has samples of +0.0, and zeros or NaNs stay so both ways. Assumes nothing.
use mathlib.Core.Path.{◌≡◌, refl, ap, ◌∙◌}
use mathlib.Core.Bool.{true, false}
use mathlib.Core.List.{List, map}
use Prim.Native.Nat.{ℕ, ◌-◌, ◌*◌, ◌%◌, ◌<◌}
use native.Mathlib.Omega.{arith}
use lib.IntN.{negsuc}
use lib.ListN.{replicate, length-map}
use lib.Ieee.{Float, fin, binary64, add, sub, mul, neg, of_bits}
use Rattle.complex.specs.declared.Complex.{Complex}
use Rattle.complex.specs.Complexes.{get_c, add_c, sub_c, mul_c, conj_c, scale_c}
use Rattle.complex_fft.specs.ComplexFft.{run_of}
use Rattle.fft.specs.RealFft.{half, bin_from, bin_of, bins_of, half_of, halves_of, spectrum_with, samples_with}
use Rattle.complex_fft.specs.Reversal.{reversal_table}
use Rattle.fft.specs.Calls.{spectrum_of, samples_of}
use Rattle.laws.specs.Tables.{table2, length-table2}
use Rattle.trig.specs.Tables.{recombination}
use Rattle.trig.proofs.Entries.{recombination-finite, length-recombination}
use Rattle.complex_fft.proofs.Reversing.{at_entry}
use Rattle.numbers.specs.Finite.{plus, is_finite}
use Rattle.numbers.specs.Narrowing.{narrow_of}
use Rattle.numbers.specs.Zeros.{Zero, Faint, Plus, Finite}
use Rattle.numbers.proofs.Zeros.{zeros, faints, pluses, faint-narrow, plus-narrow, plus-mul, zero-mul-left, finite-neg}
use Rattle.laws.specs.Kinds.{Kept, all-table2, all_map, all-weaken, all_same}
use Rattle.complex_fft.proofs.Keeps.{Parts, Steady, Places, get-parts, run-keeps}

-- ---- a list written pair by pair
pairs-keep : {P : Float → Type 0} (f : ℕ → Complex) (n : ℕ) → ((i : ℕ) → i < n → Parts P (f i)) → Kept P (2 * n) (table2 n (λ k. (f k).re) (λ k. (f k).im))
pairs-keep f n h = record {
  long = length-table2 n (λ k. (f k).re) (λ k. (f k).im);
  all = all-table2 n (λ k. (f k).re) (λ k. (f k).im) (λ k b. ((h k b).real, (h k b).imag));
}

-- ---- the constants
half_is : half ≡ fin false 1 (negsuc 0)
unfolding of_bits
half_is = refl

small_is : of_bits binary64 0x3f70_0000_0000_0000 ≡ fin false 1 (negsuc 7)
unfolding of_bits
small_is = refl

half-finite : Finite half
unfolding of_bits is_finite
half-finite = record { finite = tt }

minus-half-finite : Finite (neg half)
minus-half-finite = finite-neg half-finite

small-finite : Finite (of_bits binary64 0x3f70_0000_0000_0000)
unfolding of_bits is_finite
small-finite = record { finite = tt }

-- ---- the three kinds
pub zero-steady : Steady Zero
zero-steady = record {
  upper = λ u v w pu pv pw. record { real = search zeros; imag = search zeros };
  lower = λ u v w pu pv pw. record { real = search zeros; imag = search zeros };
  small = λ z pz. record { real = zero-mul-left binary64 pz.real small-finite; imag = zero-mul-left binary64 pz.imag small-finite };
}

pub faint-steady : Steady Faint
faint-steady = record {
  upper = λ u v w pu pv pw. record { real = search faints; imag = search faints };
  lower = λ u v w pu pv pw. record { real = search faints; imag = search faints };
  small = λ z pz. record { real = search faints; imag = search faints };
}

pub plus-steady : Steady Plus
plus-steady = record {
  upper = λ u v w pu pv pw. record { real = search pluses; imag = search pluses };
  lower = λ u v w pu pv pw. record { real = search pluses; imag = search pluses };
  small = λ z pz. record { real = plus-mul binary64 _ 1 (negsuc 7) small_is pz.real; imag = plus-mul binary64 _ 1 (negsuc 7) small_is pz.imag };
}

-- ---- one bin, and one number of the half-length spectrum
zero-bin : (a b r : Complex) → Parts Zero a → Parts Zero b → Parts Finite r → Parts Zero (add_c (scale_c (add_c a (conj_c b)) half) (mul_c r (record { re = mul binary64 half (sub_c a (conj_c b)).im; im = mul binary64 (neg half) (sub_c a (conj_c b)).re })))
zero-bin a b r pa pb pr = record { real = search (zeros, half-finite, minus-half-finite) depth 8; imag = search (zeros, half-finite, minus-half-finite) depth 8 }

faint-bin : (a b r : Complex) → Parts Faint a → Parts Faint b → Parts Faint (add_c (scale_c (add_c a (conj_c b)) half) (mul_c r (record { re = mul binary64 half (sub_c a (conj_c b)).im; im = mul binary64 (neg half) (sub_c a (conj_c b)).re })))
faint-bin a b r pa pb = record { real = search faints depth 8; imag = search faints depth 8 }

abbrev half_bin : Complex → Complex → Complex → Complex
half_bin a b r =
    let even = scale_c (add_c a (conj_c b)) half in
    let odd = scale_c (mul_c (conj_c r) (sub_c a (conj_c b))) half in
    record { re = sub binary64 even.re odd.im; im = add binary64 even.im odd.re }

faint-half : (a b r : Complex) → Parts Faint a → Parts Faint b → Parts Faint (half_bin a b r)
faint-half a b r pa pb = record { real = search faints depth 8; imag = search faints depth 8 }

plus-half : (a b r : Complex) → Parts Plus a → Parts Plus b → Parts Finite r → Parts Plus (half_bin a b r)
plus-half a b r pa pb pr = record { real = search (pluses, plus-half-mul, half-finite) depth 8; imag = search (pluses, plus-half-mul, half-finite) depth 8 }
  where
    plus-half-mul : {x : Float} → Plus x → Plus (mul binary64 x half)
    plus-half-mul h = plus-mul binary64 half 1 (negsuc 0) half_is h

-- ---- the real transform, over any table of finite numbers and any table of places
narrowed-keeps : {P : Float → Type 0} {l : List Float} → ((x : Float) → P x → P (narrow_of x)) → Kept P 512 l → Kept P 512 (map narrow_of l)
narrowed-keeps {l = l} n h = record { long = length-map l narrow_of ∙ h.long; all = all_map narrow_of n h.all }

module _ (t : List Float) (F : Kept Finite 514 t) (r : List ℕ) (R : Places r) where
  pub spectrum-zero : (x : List Float) → Kept Zero 512 x → Kept Zero 514 (spectrum_with t r x)
  unfolding spectrum_with bins_of bin_of bin_from
  spectrum-zero x h =
      let z = run_of t r false x in
      let g : Kept Zero 512 z = run-keeps zero-steady t F r R false x h in
      pairs-keep (bin_of t z) 257
      (λ k b. zero-bin (get_c z (k % 256)) (get_c z ((256 - k) % 256)) (get_c t k) (get-parts (k % 256) g (omega arith)) (get-parts ((256 - k) % 256) g (omega arith)) (get-parts k F (omega arith)))

  pub spectrum-faint : (x : List Float) → Kept Faint 512 x → Kept Faint 514 (spectrum_with t r x)
  unfolding spectrum_with bins_of bin_of bin_from
  spectrum-faint x h =
      let z = run_of t r false x in
      let g : Kept Faint 512 z = run-keeps faint-steady t F r R false x h in
      pairs-keep (bin_of t z) 257
      (λ k b. faint-bin (get_c z (k % 256)) (get_c z ((256 - k) % 256)) (get_c t k) (get-parts (k % 256) g (omega arith)) (get-parts ((256 - k) % 256) g (omega arith)))

  pub samples-faint : (x : List Float) → Kept Faint 514 x → Kept Faint 512 (samples_with t r x)
  unfolding samples_with halves_of half_of
  samples-faint x h =
      let z = table2 256 (λ k. (half_of t x k).re) (λ k. (half_of t x k).im) in
      let g : Kept Faint 512 z = pairs-keep (half_of t x) 256
      (λ k b. faint-half (get_c x k) (get_c x (256 - k)) (get_c t k) (get-parts k h (omega arith)) (get-parts (256 - k) h (omega arith))) in
      narrowed-keeps (λ x p. faint-narrow p) (run-keeps faint-steady t F r R true z g)

  pub samples-plus : (x : List Float) → Kept Plus 514 x → Kept Plus 512 (samples_with t r x)
  unfolding samples_with halves_of half_of
  samples-plus x h =
      let z = table2 256 (λ k. (half_of t x k).re) (λ k. (half_of t x k).im) in
      let g : Kept Plus 512 z = pairs-keep (half_of t x) 256
      (λ k b. plus-half (get_c x k) (get_c x (256 - k)) (get_c t k) (get-parts k h (omega arith)) (get-parts (256 - k) h (omega arith)) (get-parts k F (omega arith))) in
      narrowed-keeps (λ x p. plus-narrow p) (run-keeps plus-steady t F r R true z g)

-- ---- at the two tables themselves
finite-table : Kept Finite 514 recombination
finite-table = record { long = length-recombination; all = recombination-finite }

places-table : Places reversal_table
places-table = record { below = λ i h. (at_entry i h).small }

-- a window of zeros, of either sign, has a spectrum of zeros
pub silent-spectrum : (x : List Float) → Kept Zero 512 x → Kept Zero 514 (spectrum_of x)
unfolding spectrum_of
silent-spectrum x h = spectrum-zero recombination finite-table reversal_table places-table x h

-- entries that are zeros or NaNs stay so, both ways
pub faint-spectrum : (x : List Float) → Kept Faint 512 x → Kept Faint 514 (spectrum_of x)
unfolding spectrum_of
faint-spectrum x h = spectrum-faint recombination finite-table reversal_table places-table x h

pub faint-samples : (x : List Float) → Kept Faint 514 x → Kept Faint 512 (samples_of x)
unfolding samples_of
faint-samples x h = samples-faint recombination finite-table reversal_table places-table x h

-- n times +0.0, as a list
pub plus-list : {n : ℕ} {l : List Float} → Kept Plus n l → l ≡ replicate n plus
plus-list {n} {l} h = all_same (all-weaken (λ x p. p.is) h.all) ∙ ap (λ (k : ℕ). replicate k plus) h.long

-- a spectrum of +0.0 gives 512 samples of exactly +0.0
pub silent-samples : (x : List Float) → Kept Plus 514 x → samples_of x ≡ replicate 512 plus
unfolding samples_of
silent-samples x h = plus-list (samples-plus recombination finite-table reversal_table places-table x h)
