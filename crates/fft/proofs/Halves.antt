-- The points of an inverse in the core's scratch, in parts: the overs of a part that nobody narrows, counted where it stands, the real parts
-- first and the imaginary ones 256 places on; and the two halves. Assumes nothing.
use mathlib.Core.Path.{◌≡◌, refl, sym, ap, ◌∙◌, subst}
use mathlib.Core.Bool.{Bool, true, false}
use mathlib.Core.List.{List, ◌∷◌, map}
use Prim.Native.Nat.{ℕ, zero, suc, ◌+◌, ◌-◌, ◌*◌, ◌≤◌}
use native.Mathlib.Nat.{zero-add, suc-add}
use native.Mathlib.Omega.{arith}
use lib.ListN.{length, get_or, take, drop, length-drop, take-append-drop, length-map}
use lib.Seq.{get_or-take, get_or-drop, length-take-le, take_all}
use lib.Ieee.{Float, nan, binary64, mul, of_bits}
use Rattle.laws.specs.Choice.{pick_yes, pick_no}
use Rattle.laws.specs.Tables.{table, table2, table-cong, table2-cong, length-table2}
use Rattle.numbers.specs.Narrowing.{narrow_of}
use Rattle.narrow_list.specs.Overs.{over_count, scaled_by}
use Rattle.narrow_list.proofs.OverCounts.{overs-app, overs-few, overs-table, overs-pairs, table-map}
use Rattle.self_sorting.specs.Passes.{small_of}
use Rattle.fft.specs.Calls.{half_of_samples}
use Rattle.fft.specs.Scratch.{points_in}

-- ---- parts of a table by pairs

double : (m : ℕ) → 2 * suc m ≡ suc (suc (2 * m))
double m = omega arith

drop-table : (m n : ℕ) (f g : ℕ → Float) → drop (2 * m) (table2 (m + n) f g) ≡ table2 n (λ i. f (m + i)) (λ i. g (m + i))
unfolding table2
drop-table zero n f g = ap (λ (k : ℕ). table2 k f g) (zero-add n) ∙ table2-cong n _ _ _ _ (λ k l. ap f (sym (zero-add k))) (λ k l. ap g (sym (zero-add k)))
drop-table (suc m) n f g =
    ap (λ (k : ℕ). drop k (table2 (suc m + n) f g)) (double m)
    ∙ ap (λ (k : ℕ). drop (suc (suc (2 * m))) (table2 k f g)) (suc-add m n)
    ∙ drop-table m n (λ k. f (suc k)) (λ k. g (suc k))
    ∙ table2-cong n _ _ _ _ (λ k l. ap f (sym (suc-add m k))) (λ k l. ap g (sym (suc-add m k)))

take-table : (m n : ℕ) (f g : ℕ → Float) → take (2 * m) (table2 (m + n) f g) ≡ table2 m f g
unfolding table2
take-table zero n f g = refl
take-table (suc m) n f g =
    ap (λ (k : ℕ). take k (table2 (suc m + n) f g)) (double m)
    ∙ ap (λ (k : ℕ). take (suc (suc (2 * m))) (table2 k f g)) (suc-add m n)
    ∙ ap (λ (l : List Float). f 0 ∷ g 0 ∷ l) (take-table m n (λ k. f (suc k)) (λ k. g (suc k)))

abbrev small : Float
small = of_bits binary64 0x3f70_0000_0000_0000

module _ (z : List Float) (ez : length z ≡ 1024) (first n : ℕ) (inside : first + n ≤ 256) where
  abbrev re : ℕ → Float
  re i = mul binary64 (get_or z (first + i) nan) small

  abbrev im : ℕ → Float
  im i = mul binary64 (get_or z (first + i + 256) nan) small

  part-is : take (2 * n) (drop (2 * first) (points_in z)) ≡ table2 n re im
  part-is =
      let rest = 256 - first - n in
      let e : first + (n + rest) ≡ 256 = omega arith in
      ap (λ (k : ℕ). take (2 * n) (drop (2 * first) (table2 k (λ i. (small_of z i).re) (λ i. (small_of z i).im)))) (sym e)
      ∙ ap (take (2 * n)) (drop-table first (n + rest) (λ i. (small_of z i).re) (λ i. (small_of z i).im))
      ∙ take-table n rest re im

  -- n numbers of the scratch from `at` on, each times 1/256
  slice_is : (at : ℕ) (xs : List Float) → at + n ≤ 1024 → xs ≡ take n (drop at z) → over_count (scaled_by small xs) ≡ over_count (table n (λ i. mul binary64 (get_or z (at + i) nan) small))
  slice_is at xs h e =
      let long : length (take n (drop at z)) ≡ n = length-take-le n (drop at z) (omega (arith, length-drop at z, ez)) in
      let f : ℕ → Float = λ i. mul binary64 (get_or (take n (drop at z)) i nan) small in
      ap (λ (l : List Float). over_count (scaled_by small l)) e
      ∙ ap over_count
      (sym (table-map (λ x. mul binary64 x small) (take n (drop at z)))
      ∙ ap (λ (k : ℕ). table k f) long
      ∙ table-cong n f (λ i. mul binary64 (get_or z (at + i) nan) small) (λ k l. ap (λ (x : Float). mul binary64 x small) (get_or-take n (drop at z) k nan l ∙ get_or-drop at z k nan)))

  pub slice-few : (at : ℕ) (xs : List Float) → at + n ≤ 1024 → xs ≡ take n (drop at z) → over_count (scaled_by small xs) ≤ n
  slice-few at xs h e = subst (λ (k : ℕ). k ≤ n) (sym (slice_is at xs h e)) (overs-table n _)

  pub dropped-count : (xs ys : List Float) → xs ≡ take n (drop first z) → ys ≡ take n (drop (256 + first) z)
      → over_count (scaled_by small xs) + over_count (scaled_by small ys) ≡ over_count (take (2 * n) (drop (2 * first) (points_in z)))
  dropped-count xs ys ex ey =
      let a = slice_is first xs (omega arith) ex in
      let b = slice_is (256 + first) ys (omega arith) ey in
      let c : over_count (table n (λ i. mul binary64 (get_or z (256 + first + i) nan) small)) ≡ over_count (table n im) =
      ap over_count (table-cong n _ _ (λ k l. let e : 256 + first + k ≡ first + k + 256 = omega arith in ap (λ (i : ℕ). mul binary64 (get_or z i nan) small) e)) in
      rw (a, b, c) (sym (ap over_count part-is ∙ overs-pairs n re im))

-- ---- the two halves of an inverse's points, and all of them

module _ (z : List Float) where
  abbrev points : List Float
  points = points_in z

  points-long : length points ≡ 512
  points-long = length-table2 256 _ _

  samples-long : length (map narrow_of points) ≡ 512
  samples-long = length-map points narrow_of ∙ points-long

  pub points-few : over_count points ≤ 512
  points-few = omega (arith, overs-few points, points-long)

  -- 512 from the first on
  pub all-points : take 512 (drop 0 points) ≡ points
  all-points = take_all 512 points (omega (arith, points-long))

  pub all-samples : take 512 (drop 0 (map narrow_of points)) ≡ map narrow_of points
  all-samples = take_all 512 (map narrow_of points) (omega (arith, samples-long))

  pub both_halves : over_count (take 256 (drop 0 points)) + over_count (take 256 (drop 256 points)) ≡ over_count points
  both_halves =
      let later : take 256 (drop 256 points) ≡ drop 256 points = take_all 256 (drop 256 points) (omega (arith, length-drop 256 points, points-long)) in
      ap (λ (l : List Float). over_count (take 256 points) + over_count l) later ∙ sym (overs-app (take 256 points) (drop 256 points)) ∙ ap over_count (take-append-drop 256 points)

  pub later-half : (later : Bool) → later ≡ true → take 256 (drop 256 (map narrow_of points)) ≡ half_of_samples later (map narrow_of points)
  unfolding half_of_samples
  later-half later e =
      let l = map narrow_of points in
      pick_yes _ _ _ e (take_all 256 (drop 256 l) (omega (arith, length-drop 256 l, samples-long)))

  pub first-half : (later : Bool) → later ≡ false → take 256 (drop 0 (map narrow_of points)) ≡ half_of_samples later (map narrow_of points)
  unfolding half_of_samples
  first-half later e = pick_no _ _ _ e refl
