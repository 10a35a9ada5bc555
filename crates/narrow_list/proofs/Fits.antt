-- What goes the short way: it is rounded to the narrowed number, and its square tells it. Assumes nothing.
--     fit-rounded, fit-number         what is rounded is the narrowed number, and no NaN
--     fit-finite                      it goes over nowhere: the narrowed number is finite
--     fit-square                      by its square
--     each_below                      32 squares by their sum
--     each-plain                      and by their least
use mathlib.Core.Path.{◌≡◌, refl, sym, ap, ◌∙◌, subst}
use mathlib.Core.Bool.{true, not}
use mathlib.Core.List.{List}
use Prim.Native.Nat.{ℕ, zero, suc, ◌*◌, ◌^◌, ◌≤◌, ◌<◌}
use native.Mathlib.Nat.{le_trans, le_of_eq, zero-mul}
use native.Mathlib.Omega.{arith}
use lib.Dec.{T}
use lib.Ieee.{Float, nan, inf, fin, binary64, up, down, add, lt, le, fits, is_nan}
use lib.Ieee.Bits.{is_true}
use lib.Ieee.Fits.{and_i, and_l, and_r}
use lib.ListN.{get_or}
use Rattle.laws.specs.Choice.{pick-if}
use Rattle.numbers.specs.Finite.{is_finite}
use Rattle.numbers.specs.Narrowing.{narrow_of, low_square, high_square, plain_squares, rounded_of}
use Rattle.numbers.specs.Ranges.{Power}
use Rattle.numbers.specs.Zeros.{Zero}
use Rattle.numbers.proofs.NarrowedLaws.{narrow-small}
use Rattle.numbers.proofs.Plain.{plain-is, plain-rounded, plain-number, plain-finite, zero-rounded}
use Rattle.numbers.proofs.Ordered.{lesser-above, lt-number}
use Rattle.numbers.proofs.Ranged.{power-add}
use Rattle.numbers.proofs.Squares.{sum_below}
use Rattle.narrow_list.specs.Lanes.{lesser_of, lane, tree, lane_of, gathered}
use Rattle.narrow_list.specs.Short.{Fit, square_of}
use Rattle.narrow_list.proofs.Lanes.{all}

zero_number : (x : Float) → Zero x → T (not (is_nan x))
unfolding is_nan
zero_number nan z = absurd z.zero
zero_number (inf s) z = absurd z.zero
zero_number (fin s m e) z = tt

nothing : (u p d : ℕ) → 0 * u * p ≤ d
nothing u p d = le_trans (le_of_eq (ap (λ (k : ℕ). k * p) (zero-mul u) ∙ zero-mul p)) (omega arith)

zero-finite : (x : Float) → Zero x → is_finite (narrow_of x) ≡ true
unfolding is_finite
zero-finite nan z = absurd z.zero
zero-finite (inf s) z = absurd z.zero
zero-finite (fin s zero e) z = ap is_finite (narrow-small s 0 e (nothing (up e) (2 ^ 150) (down e)))
zero-finite (fin s (suc m) e) z = absurd z.zero

module _ (x : Float) (f : T (fits binary64 x)) where
  pub fit-rounded : Fit x → rounded_of x ≡ narrow_of x
  fit-rounded (Fit.plain p) = plain-rounded x f p
  fit-rounded (Fit.none z) = zero-rounded x f z

  pub fit-number : Fit x → T (not (is_nan x))
  fit-number (Fit.plain p) = plain-number x f p
  fit-number (Fit.none z) = zero_number x z

  pub fit-finite : Fit x → is_finite (narrow_of x) ≡ true
  fit-finite (Fit.plain p) = plain-finite x f p
  fit-finite (Fit.none z) = zero-finite x z

  pub fit-square : plain_squares (square_of x) (square_of x) ≡ true → Fit x
  fit-square h = Fit.plain (sym (plain-is x f) ∙ h)

-- ---- 32 squares by their least and their sum

high_fits : T (fits binary64 high_square)
unfolding fits
high_fits = tt

pub each_below : (x s : ℕ → Float) → ((k : ℕ) → k < 32 → Power (x k)) → ((k : ℕ) → k < 8 → s k ≡ lane (add binary64) x k) → lt (tree (add binary64) s) high_square ≡ true
    → (k : ℕ) → k < 32 → lt (x k) high_square ≡ true
each_below = all (add binary64) Power (λ y. lt y high_square ≡ true) (λ y z a b. power-add binary64 a b) (sum_below binary64 high_square tt high_fits)

module _ (q : List Float) (powers : (k : ℕ) → k < 32 → Power (get_or q k nan)) (h : plain_squares (gathered lesser_of q) (gathered (add binary64) q) ≡ true) where
  low : T (le low_square (gathered lesser_of q))
  unfolding plain_squares
  low = and_l (le low_square (gathered lesser_of q)) (lt (gathered (add binary64) q) high_square) (subst T (sym h) tt)

  below : (k : ℕ) → k < 32 → lt (get_or q k nan) high_square ≡ true
  unfolding plain_squares
  below = each_below (λ k. get_or q k nan) (lane_of (add binary64) q) powers (λ k l. refl) (is_true _ (and_r (le low_square (gathered lesser_of q)) (lt (gathered (add binary64) q) high_square) (subst T (sym h) tt)))

  above : (k : ℕ) → k < 32 → T (le low_square (get_or q k nan))
  above =
      all lesser_of (λ x. T (not (is_nan x))) (λ x. T (le low_square x)) (λ x y a b. pick-if (λ z. T (not (is_nan z))) (lt x y) (λ e. a) (λ e. b)) (λ x y a b. lesser-above low_square x y tt a b)
      (λ k. get_or q k nan) (lane_of lesser_of q) (λ k l. lt-number (get_or q k nan) high_square (below k l)) (λ k l. refl) low

  pub each-plain : (k : ℕ) → k < 32 → plain_squares (get_or q k nan) (get_or q k nan) ≡ true
  unfolding plain_squares
  each-plain k l = is_true _ (and_i (le low_square (get_or q k nan)) (lt (get_or q k nan) high_square) (above k l) (subst T (sym (below k l)) tt))
