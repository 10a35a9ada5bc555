-- The inverse's last steps in the core's scratch: the scaled points at its numbers 256, 257, .. are those that stand in it, from any one on;
-- narrowed they are that part of the samples (`narrowed-part`), with its count (`counted-part`).
-- Assumes nothing.
use mathlib.Core.Path.{◌≡◌, ◌∙◌, refl, sym, ap}
use mathlib.Core.List.{List, [], ◌∷◌, map}
use mathlib.Core.Logic.{⊎_elim}
use Prim.Native.Nat.{ℕ, zero, suc, ◌+◌, ◌*◌, ◌<◌, ◌≤◌}
use native.Mathlib.Nat.{le_of_eq}
use native.Mathlib.Omega.{arith}
use lib.ListN.{length, get_or, set, take, drop, length-drop}
use lib.Seq.{get_or-set_other, get_or-take, get_or-drop, length-take-le, take_all, ext_get_or}
use lib.Ieee.{Float, nan, binary64, of_bits}
use Rattle.laws.specs.Loops.{iter, over}
use Rattle.laws.specs.Readings.{over-mapped}
use Rattle.laws.specs.Tables.{table2-at, length-table2}
use Rattle.numbers.specs.Narrowing.{narrow_of}
use Rattle.complex.specs.declared.Complex.{Complex}
use Rattle.complex.specs.Complexes.{get_c, put_c, scale_c}
use Rattle.complex.proofs.Stores.{length-put, get-put-same, get-put-other}
use Rattle.complex_fft.proofs.Stages.{last}
use Rattle.self_sorting.specs.Quads.{get_s}
use Rattle.self_sorting.specs.Passes.{small_of}
use Rattle.self_sorting.proofs.Sorting.{parity}
use Rattle.narrow_list.specs.Overs.{over_count}
use Rattle.fft.specs.Scratch.{scaled_from, points_in}

-- ---- a part of a list, each number by itself
map-drop : {A B : Type 0} (f : A → B) (k : ℕ) (l : List A) → map f (drop k l) ≡ drop k (map f l)
map-drop f zero l = refl
map-drop f (suc k) [] = refl
map-drop f (suc k) (x ∷ l) = map-drop f k l

map-take : {A B : Type 0} (f : A → B) (k : ℕ) (l : List A) → map f (take k l) ≡ take k (map f l)
map-take f zero l = refl
map-take f (suc k) [] = refl
map-take {A} {B} f (suc k) (x ∷ l) = ap (λ (r : List B). f x ∷ r) (map-take f k l)

part-narrowed : {A B : Type 0} (f : A → B) (n k : ℕ) (l : List A) → map f (take n (drop k l)) ≡ take n (drop k (map f l))
part-narrowed f n k l = map-take f n (drop k l) ∙ ap (take n) (map-drop f k l)

-- ---- the scratch

-- m is z after n points
record Scaled (first n : ℕ) (z m : List Float) : Type 0 where
  long : length m ≡ 1024
  done : (i : ℕ) → i < n → get_c m (256 + i) ≡ small_of z (first + i)
  still : (i : ℕ) → i < 256 → get_s m i ≡ get_s z i

-- a number of the first half, after one is put into the second
split-still : (m : List Float) (k i : ℕ) (c : Complex) → i < 256 → get_s (put_c m (256 + k) c) i ≡ get_s m i
split-still m k i c h =
    let p = 2 * (256 + k) in
    let a = get_or-set_other (set m p c.re) (p + 1) i c.im nan (omega arith) in
    let b = get_or-set_other m p i c.re nan (omega arith) in
    let d = get_or-set_other (set m p c.re) (p + 1) (i + 256) c.im nan (omega arith) in
    let e = get_or-set_other m p (i + 256) c.re nan (omega arith) in
    rw (a, b, d, e)

scaling : (first : ℕ) (z : List Float) → length z ≡ 1024 → (n : ℕ) → first + n ≤ 256
    → Scaled first n z (iter (λ i m. put_c m (256 + i) (small_of m (first + i))) z n)
unfolding iter
scaling first z e zero h = record { long = e; done = λ i u. absurd (omega arith); still = λ i u. refl }
scaling first z e (suc n) h =
    let a = scaling first z e n (omega arith) in
    let m = iter (λ i m. put_c m (256 + i) (small_of m (first + i))) z n in
    let c = small_of m (first + n) in
    let s : c ≡ small_of z (first + n) = ap (λ (x : Complex). scale_c x (of_bits binary64 0x3f70_0000_0000_0000)) (a.still (first + n) (omega arith)) in
    record {
      long = length-put m (256 + n) c ∙ a.long;
      done = λ i u.
          ⊎_elim (λ (g : i ≡ n). rw g (get-put-same m (256 + n) c (omega (arith, a.long)) ∙ s))
          (λ (g : i < n). get-put-other m (256 + n) (256 + i) c (omega arith) ∙ a.done i g) (last u);
      still = λ i u. split-still m n i c u ∙ a.still i u;
    }

module _ (z : List Float) (ez : length z ≡ 1024) (first n : ℕ) (inside : first + n ≤ 256) where
  abbrev points : List Float
  points = points_in z

  points-at : (i : ℕ) → i < 256 → get_c points i ≡ small_of z i
  points-at i h = let a = table2-at 256 (λ i. (small_of z i).re) (λ i. (small_of z i).im) i nan h in rw (a.0, a.1)

  pub part-long : length (take (2 * n) (drop (2 * first) points)) ≡ 2 * n
  part-long =
      let long : length points ≡ 512 = length-table2 256 _ _ in
      length-take-le (2 * n) (drop (2 * first) points) (omega (arith, length-drop (2 * first) points, long))

  scaled-points : take (2 * n) (drop 512 (scaled_from first n z)) ≡ take (2 * n) (drop (2 * first) points)
  unfolding scaled_from
  scaled-points =
      let m = scaled_from first n z in
      let s = scaling first z ez n inside in
      let lm : length (take (2 * n) (drop 512 m)) ≡ 2 * n = length-take-le (2 * n) (drop 512 m) (omega (arith, length-drop 512 m, s.long)) in
      let same : (i : ℕ) → i < n → get_c m (256 + i) ≡ get_c points (first + i) = λ i h. s.done i h ∙ sym (points-at (first + i) (omega arith)) in
      let at : (k : ℕ) → k < 2 * n → get_or m (512 + k) nan ≡ get_or points (2 * first + k) nan = λ k h.
      let c = parity k in
      ⊎_elim
      (λ (e : k ≡ 2 * c.0). let f : 512 + k ≡ 2 * (256 + c.0) = omega arith in let g : 2 * first + k ≡ 2 * (first + c.0) = omega arith in rw (f, g) (ap (λ (x : Complex). x.re) (same c.0 (omega arith))))
      (λ (e : k ≡ 2 * c.0 + 1). let f : 512 + k ≡ 2 * (256 + c.0) + 1 = omega arith in let g : 2 * first + k ≡ 2 * (first + c.0) + 1 = omega arith in rw (f, g) (ap (λ (x : Complex). x.im) (same c.0 (omega arith))))
      c.1 in
      ext_get_or nan _ _ (lm ∙ sym part-long) (λ k u.
      let h : k < 2 * n = omega (arith, lm) in
      get_or-take (2 * n) (drop 512 m) k nan h ∙ get_or-drop 512 m k nan ∙ at k h
      ∙ sym (get_or-take (2 * n) (drop (2 * first) points) k nan h ∙ get_or-drop (2 * first) points k nan))

  module _ (m xs out : List Float) (em : m ≡ scaled_from first n z) (ex : xs ≡ take (2 * n) (drop 512 m)) (eo : length out ≡ 2 * n) where
    part : xs ≡ take (2 * n) (drop (2 * first) points)
    part = ex ∙ ap (λ (k : List Float). take (2 * n) (drop 512 k)) em ∙ scaled-points

    long : length xs ≡ length out
    long = ap length part ∙ part-long ∙ sym eo

    -- narrowing them writes that part of the inverse's samples, and counts those that go over
    pub narrowed-part : over (length xs) (λ k x. narrow_of (get_or xs k nan)) out ≡ take (2 * n) (drop (2 * first) (map narrow_of points))
    narrowed-part = rw long (over-mapped nan narrow_of xs out long) ∙ ap (map narrow_of) part ∙ part-narrowed narrow_of (2 * n) (2 * first) points

    pub counted-part : over_count (take (length out) xs) ≡ over_count (take (2 * n) (drop (2 * first) points))
    counted-part = ap over_count (take_all (length out) xs (le_of_eq long) ∙ part)
