-- A partition of a stored buffer in pairs is the buffer's in pairs; and so with another in its place. Assumes nothing.
use mathlib.Core.Path.{◌≡◌, refl, sym, ap, ◌∙◌}
use mathlib.Core.Bool.{Bool, true, false}
use mathlib.Core.List.{List}
use mathlib.Core.Logic.{◌⊎◌, inl, inr}
use Prim.Native.Nat.{ℕ, ◌+◌, ◌*◌, ◌/◌, ◌%◌, ◌≤◌, ◌<◌}
use native.Mathlib.Omega.{arith}
use lib.Dec.{eqb}
use borrow.Author.Tests.{eqb-true, eqb-false}
use lib.ListN.{length, get_or}
use lib.Seq.{ext_get_or}
use lib.Ieee.{Float, nan}
use Rattle.laws.specs.Choice.{lt-or-ge}
use Rattle.laws.specs.Parts.{part, with_part, length_part, length-with, get-part, part-with, part-beside}
use Rattle.layout.specs.Layout.{place, paired}
use Rattle.layout.proofs.Places.{place-below, place-shift}
use Rattle.layout.proofs.Moved.{length-paired, paired_at}

pub part-paired : (n p : ℕ) (w : List Float) → length w ≡ 514 * n → p < n → part 514 p (paired w) ≡ paired (part 514 p w)
part-paired n p w e b =
    let m : length w % 514 ≡ 0 = omega arith in
    let l : length (part 514 p w) ≡ 514 = length_part 514 p w (omega arith) in
    let l' : length (part 514 p (paired w)) ≡ 514 = length_part 514 p (paired w) (omega (arith, length-paired w, e, b)) in
    let q : length (part 514 p w) % 514 ≡ 0 = omega arith in
    ext_get_or nan (part 514 p (paired w)) (paired (part 514 p w)) (l' ∙ sym (length-paired (part 514 p w) ∙ l))
    (λ i h. let k : i < 514 = omega (arith, h, l') in
    get-part 514 p (paired w) i nan k
    ∙ paired_at w (514 * p + i) m (omega arith)
    ∙ ap (λ (j : ℕ). get_or w j nan) (place-shift p i k)
    ∙ sym (paired_at (part 514 p w) i q (omega (arith, l, k)) ∙ get-part 514 p w (place i) nan (place-below 514 i (omega arith) k)))

-- two buffers of n partitions that have the same ones are the same
same_parts : (n : ℕ) (v w : List Float) → length v ≡ 514 * n → length w ≡ 514 * n → ((q : ℕ) → q < n → part 514 q v ≡ part 514 q w) → v ≡ w
same_parts n v w ev ew h =
    ext_get_or nan v w (ev ∙ sym ew)
    (λ i b. let q = i / 514 in
    let r = i % 514 in
    let s : i ≡ 514 * q + r = omega arith in
    let k : r < 514 = omega arith in
    ap (λ (j : ℕ). get_or v j nan) s
    ∙ sym (get-part 514 q v r nan k)
    ∙ ap (λ (l : List Float). get_or l r nan) (h q (omega (arith, b, ev)))
    ∙ get-part 514 q w r nan k
    ∙ ap (λ (j : ℕ). get_or w j nan) (sym s))

pub with-paired : (n p : ℕ) (w v : List Float) → length w ≡ 514 * n → p < n → length v ≡ 514
    → paired (with_part 514 p w v) ≡ with_part 514 p (paired w) (paired v)
with-paired n p w v e b l =
    let fit : 514 * p + 514 ≤ length w = omega arith in
    let lw : length (paired w) ≡ 514 * n = length-paired w ∙ e in
    let lv : length (paired v) ≡ 514 = length-paired v ∙ l in
    let fit' : 514 * p + 514 ≤ length (paired w) = omega arith in
    let m : length (with_part 514 p w v) ≡ 514 * n = length-with 514 p w v fit l ∙ e in
    let m' : length (with_part 514 p (paired w) (paired v)) ≡ 514 * n = length-with 514 p (paired w) (paired v) fit' lv ∙ lw in
    same_parts n (paired (with_part 514 p w v)) (with_part 514 p (paired w) (paired v)) (length-paired (with_part 514 p w v) ∙ m) m'
    (λ q c. part-paired n q (with_part 514 p w v) m c ∙ at fit fit' lw lv q c)
  where
    side : (q : ℕ) → (q ≡ p → ⊥) → (514 * q + 514 ≤ 514 * p) ⊎ (514 * p + 514 ≤ 514 * q)
    side q o = go (lt-or-ge q p)
      where
        go : (q < p) ⊎ (p ≤ q) → (514 * q + 514 ≤ 514 * p) ⊎ (514 * p + 514 ≤ 514 * q)
        go (inl h) = inl (omega arith)
        go (inr h) = inr (omega arith)

    at : 514 * p + 514 ≤ length w → 514 * p + 514 ≤ length (paired w) → length (paired w) ≡ 514 * n → length (paired v) ≡ 514
        → (q : ℕ) → q < n → paired (part 514 q (with_part 514 p w v)) ≡ part 514 q (with_part 514 p (paired w) (paired v))
    at fit fit' lw lv q c = go (eqb q p) refl
      where
        go : (t : Bool) → eqb q p ≡ t → paired (part 514 q (with_part 514 p w v)) ≡ part 514 q (with_part 514 p (paired w) (paired v))
        go true t =
            let o : q ≡ p = eqb-true q p t in
            ap (λ (j : ℕ). paired (part 514 j (with_part 514 p w v))) o
            ∙ ap paired (part-with 514 p w v nan fit l)
            ∙ sym (ap (λ (j : ℕ). part 514 j (with_part 514 p (paired w) (paired v))) o ∙ part-with 514 p (paired w) (paired v) nan fit' lv)
        go false t =
            let o = side q (eqb-false q p t) in
            ap paired (part-beside 514 p w v nan fit l q (omega arith) o)
            ∙ sym (part-beside 514 p (paired w) (paired v) nan fit' lv q (omega arith) o ∙ part-paired n q w e c)
