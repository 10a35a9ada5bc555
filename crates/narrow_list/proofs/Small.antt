-- Numbers that are small for certain, by their squares, and a scale that makes none larger: nothing goes over. Assumes nothing.
--     small-more        a group more, by the sum of its squares
--     shrunk-none       of numbers below 2^127, each times a scale above 0 and at most 1, none goes over
use mathlib.Core.Path.{◌≡◌, sym, ap, ◌∙◌, subst}
use mathlib.Core.Bool.{Bool, true, false, ◌&&◌, true≢false}
use mathlib.Core.Logic.{◌⊎◌, inl, inr}
use mathlib.Core.List.{List}
use Prim.Native.Nat.{ℕ, ◌+◌, ◌-◌, ◌*◌, ◌≤◌, ◌<◌}
use native.Mathlib.Nat.{mul-one, one-mul}
use native.Mathlib.Omega.{arith}
use lib.Dec.{T, lt→ltb, ltb→lt}
use lib.IntN.{pos}
use lib.Ieee.{Float, nan, inf, fin, binary64, up, down, add, mul, lt, le, fits}
use lib.Ieee.Positive.{num, den, den_pos, positive, own_value, first_pos, le→cross}
use lib.ListN.{length, get_or}
use Rattle.laws.specs.Choice.{both, lt-or-ge}
use Rattle.numbers.specs.Finite.{plus}
use Rattle.numbers.specs.Narrowing.{high_square}
use Rattle.numbers.specs.Ranges.{one}
use Rattle.numbers.proofs.Overs.{small-stays}
use Rattle.numbers.proofs.Ranged.{power-square}
use Rattle.narrow_list.specs.Lanes.{lane, tree}
use Rattle.narrow_list.specs.Overs.{over_count, scaled_by}
use Rattle.narrow_list.specs.Short.{square_of}
use Rattle.narrow_list.proofs.Fits.{each_below}
use Rattle.narrow_list.proofs.OverCounts.{overs-none, table-map}

abbrev pub Small : List Float → ℕ → Type 0
Small xs n = (k : ℕ) → k < n → lt (square_of (get_or xs k nan)) high_square ≡ true

pub small-more : (xs : List Float) (s : ℕ → Float) (at : ℕ) (small : Bool) (total : Float) → (small ≡ true → Small xs at)
    → ((k : ℕ) → k < 8 → s k ≡ lane (add binary64) (λ j. square_of (get_or xs (at + j) nan)) k) → total ≡ tree (add binary64) s → (small && lt total high_square) ≡ true → Small xs (at + 32)
small-more xs s at small total before lanes sum h k l = go (lt-or-ge k at)
  where
    below : lt (tree (add binary64) s) high_square ≡ true
    below = subst (λ (x : Float). lt x high_square ≡ true) sum (both small (lt total high_square) h).1

    go : (k < at) ⊎ (at ≤ k) → lt (square_of (get_or xs k nan)) high_square ≡ true
    go (inl b) = before (both small (lt total high_square) h).0 k b
    go (inr b) =
        let e : at + (k - at) ≡ k = omega arith in
        subst (λ (i : ℕ). lt (square_of (get_or xs i nan)) high_square ≡ true) e
        (each_below (λ j. square_of (get_or xs (at + j) nan)) s (λ k l. power-square binary64 _) lanes below (k - at) (omega arith))

-- ---- a scale

some : (a b : ℕ) → a < b → 0 < b
some a b h = omega arith

scale-positive : (x : Float) → lt plus x ≡ true → le x one ≡ true → T (positive x)
unfolding lt le
scale-positive nan h k = absurd (true≢false (sym h))
scale-positive (inf true) h k = absurd (true≢false (sym h))
scale-positive (inf false) h k = absurd (true≢false (sym k))
scale-positive (fin true m e) h k = absurd (true≢false (sym h))
scale-positive (fin false m e) h k = lt→ltb 0 m (first_pos m (up e) (first_pos (m * up e) 1 (some _ (m * up e * 1) (ltb→lt (0 * up (pos 0) * down e) (m * up e * 1) (subst T (sym h) tt)))))

at_most_one : (x : Float) → T (positive x) → le x one ≡ true → num x ≤ den x
at_most_one x p h =
    let c = le→cross x one p tt (subst T (sym h) tt) in
    subst (λ (n : ℕ). n ≤ den x) (mul-one (num x)) (subst (λ (n : ℕ). num x * 1 ≤ n) (one-mul (den x)) c)

pub shrunk-none : (xs : List Float) (scale : Float) → ((k : ℕ) → T (fits binary64 (get_or xs k nan))) → Small xs (length xs) → lt plus scale ≡ true → le scale one ≡ true
    → 0 ≡ over_count (scaled_by scale xs)
shrunk-none xs scale fit small h k =
    let p = scale-positive scale h k in
    sym (overs-none (length xs) (λ i. mul binary64 (get_or xs i nan) scale)
    (λ i l. small-stays (get_or xs i nan) scale (num scale) (den scale) (fit i) (small i l) (own_value scale p) (den_pos scale) (at_most_one scale p k)))
    ∙ ap over_count (table-map (λ x. mul binary64 x scale) xs)
