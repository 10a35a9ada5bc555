-- Bin k of a stored partition: its parts are at k and at 257 + k. Assumes nothing.
use mathlib.Core.Path.{◌≡◌, refl, sym, ap, ◌∙◌}
use mathlib.Core.Bool.{Bool, true, false}
use mathlib.Core.List.{List}
use Prim.Native.Nat.{ℕ, ◌+◌, ◌*◌, ◌%◌, ◌<◌}
use native.Mathlib.Omega.{arith}
use lib.Dec.{eqb}
use borrow.Author.Tests.{eqb-true, eqb-false}
use lib.ListN.{length, get_or, set, length-set}
use lib.Seq.{ext_get_or, get_or-set_same, get_or-set_other}
use lib.Ieee.{Float, nan}
use Rattle.complex.specs.declared.Complex.{Complex}
use Rattle.complex.specs.Complexes.{new_c, get_c, put_c}
use Rattle.layout.specs.Layout.{place, back, paired}
use Rattle.layout.proofs.Places.{back-place, place-below, real-place, imaginary-place}
use Rattle.layout.proofs.Moved.{length-paired, paired_at}

pub bin-one : (s : List Float) (k : ℕ) → length s ≡ 514 → k < 257 → get_c (paired s) k ≡ new_c (get_or s k nan) (get_or s (257 + k) nan)
bin-one s k e h =
    let z : length s % 514 ≡ 0 = omega arith in
    let re : get_or (paired s) (2 * k) nan ≡ get_or s k nan = paired_at s (2 * k) z (omega arith) ∙ ap (λ (j : ℕ). get_or s j nan) (real-place k h) in
    let im : get_or (paired s) (2 * k + 1) nan ≡ get_or s (257 + k) nan = paired_at s (2 * k + 1) z (omega arith) ∙ ap (λ (j : ℕ). get_or s j nan) (imaginary-place k h) in
    rw (re, im)

-- another number at i
set-paired : (s : List Float) (i : ℕ) (x : Float) → length s % 514 ≡ 0 → i < length s → paired (set s (place i) x) ≡ set (paired s) i x
set-paired s i x e h =
    let n : length (set s (place i) x) ≡ length s = length-set s (place i) x in
    let m : length (set (paired s) i x) ≡ length s = length-set (paired s) i x ∙ length-paired s in
    ext_get_or nan (paired (set s (place i) x)) (set (paired s) i x) (length-paired (set s (place i) x) ∙ n ∙ sym m)
    (λ j b. let l : j < length s = omega (arith, b, length-paired (set s (place i) x), n) in
    paired_at (set s (place i) x) j (rw n e) (rw n l) ∙ at j l)
  where
    apart : (j : ℕ) → (j ≡ i → ⊥) → place j ≡ place i → ⊥
    apart j o p = o (sym (back-place j) ∙ ap back p ∙ back-place i)

    at : (j : ℕ) → j < length s → get_or (set s (place i) x) (place j) nan ≡ get_or (set (paired s) i x) j nan
    at j l = go (eqb j i) refl
      where
        go : (t : Bool) → eqb j i ≡ t → get_or (set s (place i) x) (place j) nan ≡ get_or (set (paired s) i x) j nan
        go true t =
            let o : j ≡ i = eqb-true j i t in
            ap (λ (k : ℕ). get_or (set s (place i) x) (place k) nan) o
            ∙ get_or-set_same s (place i) x nan (place-below (length s) i e h)
            ∙ sym (ap (λ (k : ℕ). get_or (set (paired s) i x) k nan) o ∙ get_or-set_same (paired s) i x nan (rw (length-paired s) h))
        go false t =
            let o = eqb-false j i t in
            get_or-set_other s (place i) (place j) x nan (apart j o)
            ∙ sym (get_or-set_other (paired s) i j x nan o ∙ paired_at s j e l)

pub put_one : (s : List Float) (k : ℕ) (z : Complex) → length s ≡ 514 → k < 257 → paired (set (set s k z.re) (257 + k) z.im) ≡ put_c (paired s) k z
put_one s k z e h =
    let m : length (set s k z.re) ≡ 514 = length-set s k z.re ∙ e in
    let a : length s % 514 ≡ 0 = omega arith in
    let b : length (set s k z.re) % 514 ≡ 0 = omega arith in
    ap (λ (j : ℕ). paired (set (set s k z.re) j z.im)) (sym (imaginary-place k h))
    ∙ set-paired (set s k z.re) (2 * k + 1) z.im b (omega arith)
    ∙ ap (λ (j : ℕ). set (paired (set s j z.re)) (2 * k + 1) z.im) (sym (real-place k h))
    ∙ ap (λ (l : List Float). set l (2 * k + 1) z.im) (set-paired s (2 * k) z.re a (omega arith))
