-- The peak does not depend on the order: around the ring, straight over the list, and in sixteen lanes it is the same number, since
-- each way finds the top of the ranks of the sizes (Greatest). Assumes nothing.
--     peak-ring      newest first around the ring, as the definition has it, is straight over the list
--     peak-lanes     the way that the code goes is straight over the list
--     onward-part    a running maximum over the end of a list
use mathlib.Core.Path.{◌≡◌, refl, sym, ap, ◌∙◌, subst}
use mathlib.Core.Logic.{inl, inr}
use mathlib.Core.Bool.{true, false}
use mathlib.Core.List.{List}
use Prim.Native.Nat.{ℕ, zero, suc, ◌+◌, ◌-◌, ◌*◌, ◌≤◌, ◌<◌, zero-le, max}
use native.Mathlib.Nat.{zero-add, zero-max, zero-mul, zero-lt-suc, mul-pos}
use native.Mathlib.Omega.{arith}
use lib.Dec.{T, leb}
use lib.IntN.{ℤ}
use lib.Ieee.{Float, nan, inf, fin, binary32, up, down, fits, neg, lt}
use lib.Ieee.Fits.{nan-fits, up_pos, down_pos}
use lib.ListN.{length, drop, get_or, get_or-replicate, get_or-eq_default}
use borrow.Author.Tests.{lt-ltb, le-ltb, le-leb, lt-leb}
use Rattle.laws.specs.Choice.{pick, pick_yes, pick_no, lt-or-ge}
use Rattle.laws.specs.Loops.{iter, length_over, over-at}
use Rattle.laws.specs.Readings.{iter-cong}
use Rattle.std.proofs.lemmas.List.{length-drop, get_or-drop}
use Rattle.numbers.specs.Finite.{plus}
use Rattle.numbers.specs.Order.{abs_of, max_of}
use Rattle.rho_taps.specs.Peak.{peak_up, greater_of, with_size, onward_of, lanes_of}
use Rattle.rho_taps.specs.Ring.{lag_slot_of, peak_of}
use Rattle.rho_taps.proofs.Greatest.{Number, infinite, finite, Found, rank, top, number_fits, size-abs, abs-number, found-same, found-pick, found-max, found-iter, top-same, top-turned, top-parts, top-lanes}

-- what is known of a slice of f32: each sample fits (and past the end is a NaN, which fits too)
abbrev Fits : List Float → Type 0
Fits xs = (i : ℕ) → T (fits binary32 (get_or xs i nan))

abbrev rank_at : List Float → ℕ → ℕ
rank_at xs k = rank binary32 (abs_of (get_or xs k nan))

-- where each way starts
found-plus : Found binary32 0 plus
unfolding rank fits
found-plus = record { number = finite tt; is = refl }

-- ---- straight over the list

found_up : (xs : List Float) → Fits xs → Found binary32 (top (rank_at xs) (length xs)) (peak_up xs)
unfolding peak_up
found_up xs h =
    rw zero-max at
    (found-iter (λ k a. max_of a (abs_of (get_or xs k nan))) (rank_at xs) (λ k n a q. found-max q (size-abs binary32 (get_or xs k nan) (h k))) found-plus (length xs))

-- ---- around the ring

slot-low : (pos n k : ℕ) → k ≤ pos → lag_slot_of pos n k ≡ pos - k
unfolding lag_slot_of
slot-low pos n k h = sym (pick_yes (leb k pos) (pos - k) (pos + n - k) (le-leb k pos h) refl)

slot-high : (pos n k : ℕ) → pos < k → lag_slot_of pos n k ≡ pos + n - k
unfolding lag_slot_of
slot-high pos n k h = sym (pick_no (leb k pos) (pos - k) (pos + n - k) (lt-leb k pos h) refl)

-- the slots of the lags are the places of the list, and the slot of the slot is the lag
module _ (pos n : ℕ) (inside : pos < n) (k : ℕ) (h : k < n) where
  slot-below : lag_slot_of pos n k < n
  slot-below = elim (lt-or-ge pos k) [ inl a ↦ rw (slot-high pos n k a) (omega arith) | inr a ↦ rw (slot-low pos n k a) (omega arith) ]

  slot-back : lag_slot_of pos n (lag_slot_of pos n k) ≡ k
  slot-back =
      elim (lt-or-ge pos k) [
        | inl a ↦ rw (slot-high pos n k a, slot-high pos n (pos + n - k) (omega arith)) (omega arith)
        | inr a ↦ rw (slot-low pos n k a, slot-low pos n (pos - k) (omega arith)) (omega arith)
      ]

found-ring : (xs : List Float) (pos n : ℕ) → Fits xs → Found binary32 (top (λ k. rank_at xs (lag_slot_of pos n k)) n) (peak_of xs pos n)
unfolding peak_of
found-ring xs pos n h =
    rw zero-max at
    (found-iter (λ k a. max_of a (abs_of (get_or xs (lag_slot_of pos n k) nan))) (λ k. rank_at xs (lag_slot_of pos n k))
    (λ k m a q. found-max q (size-abs binary32 (get_or xs (lag_slot_of pos n k) nan) (h (lag_slot_of pos n k)))) found-plus n)

pub peak-ring : (xs : List Float) (pos : ℕ) → pos < length xs → ((i : ℕ) → T (fits binary32 (get_or xs i nan))) → peak_of xs pos (length xs) ≡ peak_up xs
peak-ring xs pos p h =
    let n = length xs in
    found-same (rw (top-turned (rank_at xs) (lag_slot_of pos n) n (slot-below pos n p) (slot-back pos n p)) at (found-ring xs pos n h)) (found_up xs h)

-- ---- the code's step: the size by a test of x and -x, and one more test

-- nothing negative is above a number, -0.0 included, nor is +0.0
none_above : (p : Float) (m : ℕ) (e : ℤ) → Number binary32 p → lt p (fin true m e) ≡ false
unfolding lt
none_above p m e infinite = refl
none_above p m e (finite h) = refl

zero-above : (p : Float) (e : ℤ) → Number binary32 p → lt p (fin false 0 e) ≡ false
unfolding lt
zero-above p e infinite = refl
zero-above p e (finite {m = n} {e = d} h) = le-ltb (n * up d * down e) (0 * up e * down d) (simp zero-mul zero-le)

-- -0.0 is not below +0.0, and what is below 0.0 is below its opposite
zero-lt : (e : ℤ) → lt (fin true 0 e) (fin false 0 e) ≡ false
unfolding lt
zero-lt e = simp zero-mul

some-lt : (m : ℕ) (e : ℤ) → lt (fin true (suc m) e) (fin false (suc m) e) ≡ true
unfolding lt
some-lt m e =
    let h : 0 < suc m * up e * down e = mul-pos (mul-pos (zero-lt-suc m) (up_pos e)) (down_pos e) in
    lt-ltb 0 (suc m * up e * down e + suc m * up e * down e) (omega arith)

with_abs : (p x : Float) → Number binary32 p → with_size p x ≡ pick (lt p (abs_of x)) (abs_of x) p
unfolding with_size greater_of abs_of neg pick
with_abs p nan h = unfold lt in refl
with_abs p (inf true) h = unfold lt in refl
with_abs p (inf false) h = unfold lt in refl
with_abs p (fin false m e) h = unfold lt in refl
with_abs p (fin true zero e) h = rw (zero-lt e, none_above p 0 e h, zero-above p e h)
with_abs p (fin true (suc m) e) h = rw (some-lt m e)

found-step : {n : ℕ} {p : Float} (x : Float) → T (fits binary32 x) → Found binary32 n p → Found binary32 (max n (rank binary32 (abs_of x))) (with_size p x)
found-step {n} {p} x h q = rw (with_abs p x q.number) (found-pick q (size-abs binary32 x h))

-- ---- the code's loops

found-onward : (xs : List Float) (start : ℕ) {m : ℕ} {p : Float} → Fits xs → Found binary32 m p
    → Found binary32 (max m (top (λ k. rank_at xs (start + k)) (length xs - start))) (onward_of xs start p)
unfolding onward_of
found-onward xs start h q =
    found-iter (λ k a. with_size a (get_or xs (start + k) nan)) (λ k. rank_at xs (start + k)) (λ k n a r. found-step (get_or xs (start + k) nan) (h (start + k)) r) q
    (length xs - start)

pub onward-part : (xs : List Float) (at : ℕ) (p : Float) → onward_of (drop at xs) 0 p ≡ onward_of xs at p
unfolding onward_of
onward-part xs at p =
    let e : length (drop at xs) - 0 ≡ length xs - at = omega (arith, length-drop at xs) in
    ap (iter (λ k a. with_size a (get_or (drop at xs) (0 + k) nan)) p) e
    ∙ iter-cong (λ k a. with_size a (get_or (drop at xs) (0 + k) nan)) (λ k a. with_size a (get_or xs (at + k) nan)) p (length xs - at)
    (λ k a l. ap (λ (x : Float). with_size a x) (ap (λ (n : ℕ). get_or (drop at xs) n nan) (zero-add k) ∙ get_or-drop at xs k nan))

length-lanes : (xs : List Float) (n : ℕ) → length (lanes_of xs n) ≡ 16
unfolding lanes_of iter
length-lanes xs zero = refl
length-lanes xs (suc n) = length_over 16 (λ q a. with_size a (get_or xs (16 * n + q) nan)) (lanes_of xs n) ∙ length-lanes xs n

-- one lane is a running maximum by itself
found-lane : (xs : List Float) (n q : ℕ) → Fits xs → q < 16 → Found binary32 (top (λ b. rank_at xs (16 * b + q)) n) (get_or (lanes_of xs n) q nan)
unfolding lanes_of iter top
found-lane xs zero q h l = rw (get_or-replicate 16 q plus nan l) found-plus
found-lane xs (suc n) q h l =
    rw (over-at nan 16 q (λ i a. with_size a (get_or xs (16 * n + i) nan)) (lanes_of xs n) l (rw length-lanes l))
    (found-step (get_or xs (16 * n + q) nan) (h (16 * n + q)) (found-lane xs n q h l))

-- so the lanes are a list of f32 too, and the rank of each is a top
fits-lanes : (xs : List Float) (n : ℕ) → Fits xs → Fits (lanes_of xs n)
fits-lanes xs n h i =
    elim (lt-or-ge i 16) [
      | inl l ↦ number_fits binary32 (get_or (lanes_of xs n) i nan) (found-lane xs n i h l).number
      | inr l ↦ rw (get_or-eq_default (lanes_of xs n) nan {n = i} (rw length-lanes l)) (nan-fits binary32)
    ]

rank-lane : (xs : List Float) (n q : ℕ) → Fits xs → q < 16 → rank_at (lanes_of xs n) q ≡ top (λ b. rank_at xs (16 * b + q)) n
rank-lane xs n q h l =
    let i = found-lane xs n q h l in
    ap (rank binary32) (abs-number binary32 (get_or (lanes_of xs n) q nan) i.number) ∙ i.is

-- the greatest of the sixteen
found-joined : (xs : List Float) (n : ℕ) → Fits xs → Found binary32 (top (rank_at xs) (16 * n)) (onward_of (lanes_of xs n) 0 plus)
found-joined xs n h =
    let r : ℕ → ℕ = λ k. rank_at (lanes_of xs n) (0 + k) in
    subst (λ (k : ℕ). Found binary32 k (onward_of (lanes_of xs n) 0 plus))
    (zero-max _
    ∙ ap (λ (j : ℕ). top r (j - 0)) (length-lanes xs n)
    ∙ top-same r (λ q. top (λ b. rank_at xs (16 * b + q)) n) 16 (λ q l. rw zero-add (rank-lane xs n q h l))
    ∙ top-lanes (rank_at xs) n)
    (found-onward (lanes_of xs n) 0 (fits-lanes xs n h) found-plus)

pub peak-lanes : (xs : List Float) (n : ℕ) → 16 * n ≤ length xs → ((i : ℕ) → T (fits binary32 (get_or xs i nan)))
    → onward_of xs (16 * n) (onward_of (lanes_of xs n) 0 plus) ≡ peak_up xs
peak-lanes xs n l h = found-same (rw (top-parts (rank_at xs) (16 * n) (length xs) l) at (found-onward xs (16 * n) h (found-joined xs n h))) (found_up xs h)
