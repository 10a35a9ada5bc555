-- A run goes in parts: the terms of a part are those of the run at its places, and what is known of the parts so far and of the next one
-- is known of both. Assumes nothing.
--     newest-is                       the sample at k from a list's end down is one of another list
--     part-newest, part-weight        the samples and the weights of a part, as those of the run
--     next-estimate, next-energy      the sums after a part more
--     next-weights, next-sound        the weights after a part more, and whether all of them are finite
--     one-sound, last-sound           the verdict after one weight more, and after the last part
use Rattle.std.proofs.Common.{◌≡◌, ℕ, ◌+◌, ◌-◌, ◌≤◌, ◌<◌, List, Float, Bool, true, false, ◌&&◌, [], ◌∷◌, ◌++◌, length, get_or, set, take, drop, sym, ap, ◌∙◌, refl, arith}
use Rattle.std.specs.List.{slice_range, list_all}
use Rattle.std.specs.Float.{nan, binary64}
use Rattle.std.specs.Float.Ieee.{add, mul}
use Rattle.std.proofs.lemmas.List.Edits.{get_or-between, length-between}
use Rattle.std.proofs.lemmas.List.Folds.{list_all-append}
use Rattle.std.proofs.lemmas.List.{take_more_set, length-take-le, get_or-take, length-drop, nil_from_length}
use Rattle.std.proofs.lemmas.Slice.{take-put_mid}
use borrow.Rule.Slice.PartMut.{put_mid}
use Rattle.laws.specs.Loops.{iter, over, over_at}
use Rattle.laws.specs.Readings.{iter-cong, iter-split, over-cong, over-split, over-front, over_at-back}
use Rattle.numbers.specs.Finite.{is_finite}
use Rattle.rho_taps.specs.Update.{nudge_of}
use Rattle.rho_taps.specs.Runs.{newest, estimate_from, energy_from, nudged_by}

pub newest-is : (xs ys : List Float) (m i k : ℕ) → length xs ≡ m → get_or xs (m - 1 - k) nan ≡ get_or ys i nan → newest xs k ≡ get_or ys i nan
newest-is xs ys m i k e h = rw e h

pub part-newest : (xs : List Float) (at i j k : ℕ) → at + j ≡ length xs → k < j - i → newest (slice_range xs i j) k ≡ newest xs (at + k)
part-newest xs at i j k e l =
    let p : i + (j - i - 1 - k) ≡ length xs - 1 - (at + k) = omega arith in
    newest-is (slice_range xs i j) xs (j - i) (length xs - 1 - (at + k)) k (length-between xs i j (omega arith))
    (get_or-between xs i j (j - i - 1 - k) nan (omega arith) ∙ ap (λ (n : ℕ). get_or xs n nan) p)

pub part-weight : (ws : List Float) (at j k : ℕ) → k < j - at → get_or (slice_range ws at j) k nan ≡ get_or ws (at + k) nan
part-weight ws at j k l = get_or-between ws at j k nan (omega arith)

-- a group of 32, and what the groups leave
group-long : (xs : List Float) (at : ℕ) → at + 32 ≤ length xs → length (slice_range xs (length xs - at - 32) (length xs - at)) ≡ 32
group-long xs at h = let e : length xs - at - (length xs - at - 32) ≡ 32 = omega arith in length-between xs (length xs - at - 32) (length xs - at) (omega arith) ∙ e

group-newest : (xs : List Float) (at k : ℕ) → at + 32 ≤ length xs → k < 32 → newest (slice_range xs (length xs - at - 32) (length xs - at)) k ≡ newest xs (at + k)
group-newest xs at k h l = part-newest xs at (length xs - at - 32) (length xs - at) k (omega arith) (omega arith)

rest-newest : (xs : List Float) (rest k : ℕ) → rest ≤ length xs → k < rest → newest (take rest xs) k ≡ newest xs (length xs - rest + k)
rest-newest xs rest k h l =
    let p : rest - 1 - k ≡ length xs - 1 - (length xs - rest + k) = omega arith in
    newest-is (take rest xs) xs rest (length xs - 1 - (length xs - rest + k)) k (length-take-le rest xs h)
    (get_or-take rest xs (rest - 1 - k) nan (omega arith) ∙ ap (λ (n : ℕ). get_or xs n nan) p)

-- ---- the sums
module _ (ws xs part others : List Float) (at m : ℕ) (long : length others ≡ m) (there : (k : ℕ) → k < m → newest others k ≡ newest xs (at + k)) where
  abbrev pub term : ℕ → Float → Float
  term k sum = add binary64 sum (mul binary64 (get_or ws k nan) (newest xs k))

  abbrev pub square : ℕ → Float → Float
  square k sum = add binary64 sum (mul binary64 (newest xs k) (newest xs k))

  pub next-estimate : (a : Float) {e r : Float} → ((k : ℕ) → k < m → get_or part k nan ≡ get_or ws (at + k) nan) → e ≡ iter term a at → r ≡ estimate_from e part others → r ≡ iter term a (at + m)
  next-estimate a {e} here p q =
      q
      ∙ ap (iter (λ k sum. add binary64 sum (mul binary64 (get_or part k nan) (newest others k))) e) long
      ∙ iter-cong (λ k sum. add binary64 sum (mul binary64 (get_or part k nan) (newest others k))) (λ k. term (at + k)) e m (λ k x l. rw (here k l, there k l) refl)
      ∙ ap (λ (z : Float). iter (λ k. term (at + k)) z m) p
      ∙ sym (iter-split term a at m)

  pub next-energy : (a : Float) {e r : Float} → e ≡ iter square a at → r ≡ energy_from e others → r ≡ iter square a (at + m)
  next-energy a {e} p q =
      q
      ∙ ap (iter (λ k sum. add binary64 sum (mul binary64 (newest others k) (newest others k))) e) long
      ∙ iter-cong (λ k sum. add binary64 sum (mul binary64 (newest others k) (newest others k))) (λ k. square (at + k)) e m (λ k x l. rw (there k l) refl)
      ∙ ap (λ (z : Float). iter (λ k. square (at + k)) z m) p
      ∙ sym (iter-split square a at m)

module _ (ws xs : List Float) (a : Float) where
  module _ (at : ℕ) (h : at + 32 ≤ length xs) where
    pub group-estimate : {e r : Float} → e ≡ iter (λ k sum. add binary64 sum (mul binary64 (get_or ws k nan) (newest xs k))) a at
        → r ≡ estimate_from e (slice_range ws at (at + 32)) (slice_range xs (length xs - at - 32) (length xs - at))
        → r ≡ iter (λ k sum. add binary64 sum (mul binary64 (get_or ws k nan) (newest xs k))) a (at + 32)
    group-estimate p q =
        next-estimate ws xs (slice_range ws at (at + 32)) (slice_range xs (length xs - at - 32) (length xs - at)) at 32 (group-long xs at h) (λ k l. group-newest xs at k h l) a
        (λ k l. part-weight ws at (at + 32) k (omega arith)) p q

    pub group-energy : {e r : Float} → e ≡ iter (λ k sum. add binary64 sum (mul binary64 (newest xs k) (newest xs k))) a at
        → r ≡ energy_from e (slice_range xs (length xs - at - 32) (length xs - at))
        → r ≡ iter (λ k sum. add binary64 sum (mul binary64 (newest xs k) (newest xs k))) a (at + 32)
    group-energy p q =
        next-energy ws xs ws (slice_range xs (length xs - at - 32) (length xs - at)) at 32 (group-long xs at h) (λ k l. group-newest xs at k h l) a p q

  module _ (rest : ℕ) (h : rest ≤ length xs) where
    whole : length xs - rest + rest ≡ length xs
    whole = omega arith

    pub rest-estimate : {e r : Float} → length xs ≡ length ws → e ≡ iter (λ k sum. add binary64 sum (mul binary64 (get_or ws k nan) (newest xs k))) a (length xs - rest)
        → r ≡ estimate_from e (slice_range ws (length xs - rest) (length ws)) (take rest xs)
        → r ≡ estimate_from a ws xs
    rest-estimate s p q =
        next-estimate ws xs (slice_range ws (length xs - rest) (length ws)) (take rest xs) (length xs - rest) rest (length-take-le rest xs h) (λ k l. rest-newest xs rest k h l) a
        (λ k l. part-weight ws (length xs - rest) (length ws) k (omega arith)) p q
        ∙ ap (iter (λ k sum. add binary64 sum (mul binary64 (get_or ws k nan) (newest xs k))) a) whole

    pub rest-energy : {e r : Float} → e ≡ iter (λ k sum. add binary64 sum (mul binary64 (newest xs k) (newest xs k))) a (length xs - rest)
        → r ≡ energy_from e (take rest xs)
        → r ≡ energy_from a xs
    rest-energy p q =
        next-energy ws xs ws (take rest xs) (length xs - rest) rest (length-take-le rest xs h) (λ k l. rest-newest xs rest k h l) a p q
        ∙ ap (iter (λ k sum. add binary64 sum (mul binary64 (newest xs k) (newest xs k))) a) whole

-- ---- the weights: `put_mid at m l r` is the list l whose part of m places from `at` on is r
module _ (scale : Float) (xs others : List Float) (at m : ℕ) (long : length others ≡ m) (there : (k : ℕ) → k < m → newest others k ≡ newest xs (at + k)) where
  abbrev pub stepped : ℕ → Float → Float
  stepped k weight = nudge_of scale (newest xs k) weight

  part-over : (l r : List Float) → r ≡ over m (λ k. stepped (at + k)) (take m (drop at l)) → put_mid at m l r ≡ over_at at m (λ k. stepped (at + k)) l
  part-over l r e =
      ap (λ (z : List Float). take at l ++ (z ++ drop m (drop at l))) e
      ∙ ap (λ (z : List Float). take at l ++ z) (sym (over-front m (λ k. stepped (at + k)) (drop at l)))
      ∙ sym (over_at-back at m (λ k. stepped (at + k)) l)

  pub next-weights : (w : List Float) {l r : List Float} → l ≡ over at stepped w → r ≡ nudged_by scale others (take m (drop at l)) → put_mid at m l r ≡ over (at + m) stepped w
  next-weights w {l} {r} p q =
      part-over l r
      (q
      ∙ ap (λ (n : ℕ). over n (λ k x. nudge_of scale (newest others k) x) (take m (drop at l))) long
      ∙ over-cong (λ k x. nudge_of scale (newest others k) x) (λ k. stepped (at + k)) (take m (drop at l)) m (λ k x b. ap (λ (y : Float). nudge_of scale y x) (there k b)))
      ∙ ap (over_at at m (λ k. stepped (at + k))) p
      ∙ sym (over-split stepped w at m)

pub next-sound : (at m n : ℕ) (l r : List Float) {s t : Bool} → n ≡ at + length r → at ≤ length l → s ≡ list_all is_finite (take at l) → t ≡ list_all is_finite r
    → (s && t) ≡ list_all is_finite (take n (put_mid at m l r))
next-sound at m n l r {s} {t} e b p q = rw (take-put_mid at m l r n e b, list_all-append is_finite (take at l) r, ← p, ← q) refl

and-true : (b : Bool) → b ≡ (b && true)
and-true true = refl
and-true false = refl

-- where the part is the last
pub last-sound : (at m : ℕ) (l r : List Float) {s t : Bool} → length l ≤ at + m → s ≡ list_all is_finite (take at l) → t ≡ list_all is_finite r
    → (s && t) ≡ list_all is_finite (put_mid at m l r)
last-sound at m l r {s} {t} h p q =
    let none : drop m (drop at l) ≡ [] = nil_from_length (drop m (drop at l)) (omega (arith, length-drop m (drop at l), length-drop at l)) in
    rw (none, list_all-append is_finite (take at l) (r ++ []), list_all-append is_finite r [], ← p, ← q) (ap (λ (b : Bool). s && b) (and-true t))

-- one weight more
pub one-sound : (l : List Float) (k : ℕ) (v : Float) {s t : Bool} → k < length l → s ≡ list_all is_finite (take k l) → t ≡ is_finite v
    → (s && t) ≡ list_all is_finite (take (k + 1) (set l k v))
one-sound l k v {s} {t} h p q = rw (take_more_set l k v h, list_all-append is_finite (take k l) (v ∷ []), ← p, ← q) (ap (λ (b : Bool). s && b) (and-true t))

-- a group more, and then what the groups leave
module _ (scale : Float) (xs w : List Float) where
  pub group-weights : (at m n : ℕ) → m ≡ 32 → at + 32 ≡ n → n ≤ length xs → {l r : List Float} → l ≡ over at (λ k weight. nudge_of scale (newest xs k) weight) w
      → r ≡ nudged_by scale (slice_range xs (length xs - at - 32) (length xs - at)) (take m (drop at l))
      → put_mid at m l r ≡ over n (λ k weight. nudge_of scale (newest xs k) weight) w
  group-weights at m n e i h p q =
      next-weights scale xs (slice_range xs (length xs - at - 32) (length xs - at)) at m (group-long xs at (omega arith) ∙ sym e) (λ k l. group-newest xs at k (omega arith) (omega arith)) w p q
      ∙ ap (λ (j : ℕ). over j (λ k weight. nudge_of scale (newest xs k) weight) w) (count e i)
    where
      count : m ≡ 32 → at + 32 ≡ n → at + m ≡ n
      count e i = omega arith

  pub rest-weights : (rest m : ℕ) → m ≡ rest → rest ≤ length xs → {l r : List Float} → l ≡ over (length xs - rest) (λ k weight. nudge_of scale (newest xs k) weight) w
      → r ≡ nudged_by scale (take rest xs) (take m (drop (length xs - rest) l))
      → put_mid (length xs - rest) m l r ≡ nudged_by scale xs w
  rest-weights rest m i h p q =
      let e : length xs - rest + m ≡ length xs = omega arith in
      next-weights scale xs (take rest xs) (length xs - rest) m (length-take-le rest xs h ∙ sym i) (λ k l. rest-newest xs rest k h (omega arith)) w p q
      ∙ ap (λ (n : ℕ). over n (λ k weight. nudge_of scale (newest xs k) weight) w) e
