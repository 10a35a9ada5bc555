-- A moved list number by number: it goes back to what it was, and what is done to each number is done to the moved list alike. Assumes
-- nothing.
use mathlib.Core.Path.{◌≡◌, refl, sym, ap, ◌∙◌}
use mathlib.Core.Bool.{Bool, true, false}
use mathlib.Core.List.{List}
use Prim.Native.Nat.{ℕ, ◌%◌, ◌<◌}
use native.Mathlib.Omega.{arith}
use lib.Dec.{eqb}
use borrow.Author.Tests.{eqb-true, eq-eqb}
use lib.ListN.{length, get_or}
use lib.Seq.{ext_get_or}
use lib.Ieee.{Float, nan}
use Rattle.laws.specs.Choice.{pick-if, pick_yes, pick_no}
use Rattle.laws.specs.Tables.{length-table, table_at}
use Rattle.layout.specs.Layout.{place, back, moved, paired, stored}
use Rattle.layout.proofs.Places.{back-place, place-back, place-below, back_below}

length_moved : (f : ℕ → ℕ) (w : List Float) → length (moved f w) ≡ length w
unfolding moved
length_moved f w = pick-if (λ (r : List Float). length r ≡ length w) (eqb (length w % 514) 0) (λ _. length-table (length w) _) (λ _. refl)

pub length-paired : (w : List Float) → length (paired w) ≡ length w
length-paired w = length_moved place w

-- of whole partitions, and of any other length
moved_at : (f : ℕ → ℕ) (w : List Float) (i : ℕ) → length w % 514 ≡ 0 → i < length w → get_or (moved f w) i nan ≡ get_or w (f i) nan
unfolding moved
moved_at f w i e h =
    ap (λ (l : List Float). get_or l i nan) (sym (pick_yes (eqb (length w % 514) 0) _ w (eq-eqb _ _ e) refl))
    ∙ table_at (length w) (λ j. get_or w (f j) nan) i nan h

odd : (f : ℕ → ℕ) (w : List Float) → eqb (length w % 514) 0 ≡ false → moved f w ≡ w
unfolding moved
odd f w e = sym (pick_no (eqb (length w % 514) 0) _ w e refl)

pub paired_at : (w : List Float) (i : ℕ) → length w % 514 ≡ 0 → i < length w → get_or (paired w) i nan ≡ get_or w (place i) nan
paired_at w i e h = moved_at place w i e h

-- there and back
module _ (f g : ℕ → ℕ) (below : (n i : ℕ) → n % 514 ≡ 0 → i < n → g i < n) (round : (i : ℕ) → f (g i) ≡ i) where
  there_back : (w : List Float) → moved g (moved f w) ≡ w
  there_back w = go (eqb (length w % 514) 0) refl
    where
      whole : length w % 514 ≡ 0 → moved g (moved f w) ≡ w
      whole e =
          let n : length (moved f w) ≡ length w = length_moved f w in
          ext_get_or nan (moved g (moved f w)) w (length_moved g (moved f w) ∙ n)
          (λ i h. let l : i < length w = omega (arith, h, length_moved g (moved f w), n) in
          moved_at g (moved f w) i (rw n e) (rw n l) ∙ moved_at f w (g i) e (below (length w) i e l) ∙ ap (λ (j : ℕ). get_or w j nan) (round i))

      go : (b : Bool) → eqb (length w % 514) 0 ≡ b → moved g (moved f w) ≡ w
      go true e = whole (eqb-true (length w % 514) 0 e)
      go false e = ap (moved g) (odd f w e) ∙ odd g w e

pub stored-paired : (w : List Float) → stored (paired w) ≡ w
stored-paired w = there_back place back back_below place-back w

pub paired-stored : (w : List Float) → paired (stored w) ≡ w
paired-stored w = there_back back place place-below back-place w

-- two buffers that are the same in pairs are the same
pub paired-one : (v w : List Float) → paired v ≡ paired w → v ≡ w
paired-one v w e = sym (stored-paired v) ∙ ap stored e ∙ stored-paired w

-- the place of number i, in a list of any length
spot : (w : List Float) (i : ℕ) → i < length w → (j : ℕ) × (j < length w) × ((v : List Float) → length v ≡ length w → get_or (paired v) i nan ≡ get_or v j nan)
spot w i h = go (eqb (length w % 514) 0) refl
  where
    go : (b : Bool) → eqb (length w % 514) 0 ≡ b → (j : ℕ) × (j < length w) × ((v : List Float) → length v ≡ length w → get_or (paired v) i nan ≡ get_or v j nan)
    go true e =
        let z = eqb-true (length w % 514) 0 e in
        (place i, place-below (length w) i z h, λ v l. moved_at place v i (rw l z) (rw l h))
    go false e = (i, h, λ v l. ap (λ (x : List Float). get_or x i nan) (odd place v (rw l e)))

-- u is d by s, number by number, and t is d in pairs by s in pairs: then t is u in pairs
pub by_number : (F : Float → Float → Float) (u s d t : List Float) → length s ≡ length u → length d ≡ length u → length t ≡ length u
    → ((i : ℕ) → i < length u → get_or u i nan ≡ F (get_or d i nan) (get_or s i nan))
    → ((i : ℕ) → i < length u → get_or t i nan ≡ F (get_or (paired d) i nan) (get_or (paired s) i nan))
    → paired u ≡ t
by_number F u s d t es ed et h k =
    ext_get_or nan (paired u) t (length-paired u ∙ sym et)
    (λ i b. let l : i < length u = omega (arith, b, length-paired u) in
    let j = spot u i l in
    j.2 u refl
    ∙ h j.0 j.1
    ∙ sym (k i l ∙ ap (λ (x : Float). F x (get_or (paired s) i nan)) (j.2 d ed) ∙ ap (λ (x : Float). F (get_or d j.0 nan) x) (j.2 s es)))
