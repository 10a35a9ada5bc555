-- The order of numbers, and what minimum, maximum and clamp are bounded by. Assumes nothing.
--     total          of two that are no NaN, where the one is not below the other, the other is at most the one
--     apart          what is at most another is not above it
--     le-through     what is above 0 and at most x is at most what x is at most
--     lesser-above   what is above 0 and at most the lesser of two is at most each
--     same-of-le     two positive values of a format that are at most each other are the same
--     min-right, max-right, clamp-low, clamp-high    the bounds
--     clamp-nan      a clamped NaN stays
use Rattle.std.proofs.Common.{◌≡◌, ℕ, ◌+◌, ◌*◌, ◌<◌, ◌≤◌, Bool, true, false, not, ◌&&◌, ◌||◌, T, eqb, ltb, ◌⊎◌, sym, refl, subst, inl, inr, true≢false, le_antisymm, eq-or-lt_of_le, arith, lt→ltb, ltb-false, le-ltb, eq-eqb}
use lib.Ieee.{Float, nan, inf, fin, Format, up, down, below, level, lt, eq, le, ne, fits, is_nan}
use lib.Ieee.Fits.{and_i}
use lib.Ieee.Exact.{HasValue}
use lib.Ieee.Positive.{num, den, den_pos, positive, above, above_of_le, own_value, le→cross, le_trans_positive}
use Rattle.laws.specs.Choice.{pick, pick-if}
use Rattle.numbers.proofs.Tests.{ne-self}
use Rattle.numbers.proofs.Values.{unique}
use Rattle.numbers.specs.Order.{min_of, max_of, clamp_of}

-- ---- the order: of two that are no NaN, the one is below the other or the other is at most the one

or_l : (a b : Bool) → T a → T (a || b)
or_l true b h = tt
or_l false b h = absurd h

or_r : (a b : Bool) → T b → T (a || b)
or_r true b h = tt
or_r false b h = h

holds : (b : Bool) → b ≡ true → T b
holds b h = subst T (sym h) tt

le-or : (a b : ℕ) → a ≤ b → T (ltb a b || (eqb b a && true))
le-or a b h = go (eq-or-lt_of_le h)
  where
    go : (a ≡ b) ⊎ (a < b) → T (ltb a b || (eqb b a && true))
    go (inl e) = or_r (ltb a b) (eqb b a && true) (and_i (eqb b a) true (holds (eqb b a) (eq-eqb b a (sym e))) tt)
    go (inr l) = or_l (ltb a b) (eqb b a && true) (lt→ltb a b l)

le-or' : (a b : ℕ) → b ≤ a → T (ltb b a || (eqb b a && true))
le-or' a b h = go (eq-or-lt_of_le h)
  where
    go : (b ≡ a) ⊎ (b < a) → T (ltb b a || (eqb b a && true))
    go (inl e) = or_r (ltb b a) (eqb b a && true) (and_i (eqb b a) true (holds (eqb b a) (eq-eqb b a e)) tt)
    go (inr l) = or_l (ltb b a) (eqb b a && true) (lt→ltb b a l)

both_zero : (a b : ℕ) → a + b ≤ 0 → T (eqb b a && eqb b 0)
both_zero a b h =
    let p : b ≡ a = omega arith in
    let q : b ≡ 0 = omega arith in
    and_i (eqb b a) (eqb b 0) (holds (eqb b a) (eq-eqb b a p)) (holds (eqb b 0) (eq-eqb b 0 q))

total-fin : (s t : Bool) (a b : ℕ) → below s a t b ≡ false → T (below t b s a || level t b s a)
total-fin false false a b h = le-or' a b (ltb-false a b h)
total-fin false true a b h = go (ltb 0 (b + a)) refl
  where
    go : (t : Bool) → ltb 0 (b + a) ≡ t → T (t || (eqb b a && eqb b 0))
    go true e = tt
    go false e = both_zero a b (let l : b + a ≤ 0 = ltb-false 0 (b + a) e in omega arith)
total-fin true false a b h = both_zero a b (ltb-false 0 (a + b) h)
total-fin true true a b h = le-or a b (ltb-false b a h)

pub total : (x y : Float) → T (not (is_nan x)) → T (not (is_nan y)) → lt x y ≡ false → T (le y x)
unfolding lt le is_nan
total nan y p q h = absurd p
total (inf s) nan p q h = absurd q
total (inf true) (inf true) p q h = tt
total (inf true) (inf false) p q h = absurd (true≢false h)
total (inf false) (inf true) p q h = tt
total (inf false) (inf false) p q h = tt
total (inf true) (fin t n d) p q h = absurd (true≢false h)
total (inf false) (fin t n d) p q h = tt
total (fin s m e) nan p q h = absurd q
total (fin s m e) (inf true) p q h = tt
total (fin s m e) (inf false) p q h = absurd (true≢false h)
total (fin s m e) (fin t n d) p q h = total-fin s t (m * up e * down d) (n * up d * down e) h

pub le-self : (x : Float) → T (not (is_nan x)) → T (le x x)
unfolding le ne
le-self x p = or_r (lt x x) (eq x x) (not-not (eq x x) (subst (λ (b : Bool). T (not b)) (sym (ne-self x)) p))
  where
    not-not : (b : Bool) → T (not (not b)) → T b
    not-not true h = tt
    not-not false h = h

pub lt-le : (x y : Float) → lt x y ≡ true → T (le x y)
unfolding le
lt-le x y h = or_l (lt x y) (eq x y) (holds (lt x y) h)

-- a NaN is below nothing, and nothing above 0 is one
pub lt-number : (x y : Float) → lt x y ≡ true → T (not (is_nan x))
unfolding lt is_nan
lt-number nan y h = absurd (true≢false (sym h))
lt-number (inf s) y h = tt
lt-number (fin s m e) y h = tt

pub positive-number : (x : Float) → T (positive x) → T (not (is_nan x))
unfolding is_nan
positive-number nan p = absurd p
positive-number (inf s) p = tt
positive-number (fin s m e) p = tt

-- what is above 0 and at most z: z is not below it
pub apart : (b z : Float) → T (positive b) → T (le b z) → lt z b ≡ false
unfolding lt
apart nan z p h = absurd p
apart (inf s) z p h = absurd p
apart (fin true m e) z p h = absurd p
apart (fin false m e) nan p h = refl
apart (fin false m e) (inf true) p h = absurd (above_of_le (fin false m e) (inf true) p h)
apart (fin false m e) (inf false) p h = refl
apart (fin false m e) (fin true n d) p h = absurd (above_of_le (fin false m e) (fin true n d) p h)
apart (fin false m e) (fin false n d) p h = le-ltb (n * up d * down e) (m * up e * down d) (le→cross (fin false m e) (fin false n d) p (above_of_le (fin false m e) (fin false n d) p h) h)

pub below_top : (b : Float) → T (positive b) → T (le b (inf false))
unfolding le
below_top nan p = absurd p
below_top (inf s) p = absurd p
below_top (fin s m e) p = tt

top-only : (y : Float) → T (le (inf false) y) → y ≡ inf false
unfolding le
top-only nan k = absurd k
top-only (inf true) k = absurd k
top-only (inf false) k = refl
top-only (fin t n d) k = absurd k

pub le-through : (b x y : Float) → T (positive b) → T (le b x) → T (le x y) → T (le b y)
le-through b x y p h k = go x y (above_of_le b x p h) h k
  where
    go : (x y : Float) → T (above x) → T (le b x) → T (le x y) → T (le b y)
    go nan y a h k = absurd a
    go (inf true) y a h k = absurd a
    go (inf false) y a h k = subst (λ (z : Float). T (le b z)) (sym (top-only y k)) h
    go (fin true m e) y a h k = absurd a
    go (fin false m e) y a h k = next y (above_of_le (fin false m e) y a k) k
      where
        next : (y : Float) → T (above y) → T (le (fin false m e) y) → T (le b y)
        next nan c k = absurd c
        next (inf true) c k = absurd c
        next (inf false) c k = below_top b p
        next (fin true n d) c k = absurd c
        next (fin false n d) c k = le_trans_positive b (fin false m e) (fin false n d) p a c h k

-- what is above 0 and at most the lesser of two is at most each
pub lesser-above : (b x y : Float) → T (positive b) → T (not (is_nan x)) → T (not (is_nan y)) → T (le b (pick (lt x y) x y)) → T (le b x) × T (le b y)
lesser-above b x y p m n = pick-if (λ r. T (le b r) → T (le b x) × T (le b y)) (lt x y) (λ e h. (h, le-through b x y p h (lt-le x y e))) (λ e h. (le-through b y x p h (total x y m n e), h))

-- two positive values of a format that are at most each other are the same
value-of-cross : (x : Float) (a c : ℕ) → T (positive x) → num x * c ≡ a * den x → HasValue x false a c
value-of-cross nan a c p e = absurd p
value-of-cross (inf s) a c p e = absurd p
value-of-cross (fin true m d) a c p e = absurd p
value-of-cross (fin false m d) a c p e = (refl, e)

pub same-of-le : (f : Format) (x y : Float) → T (fits f x) → T (fits f y) → T (positive x) → T (positive y) → T (le x y) → T (le y x) → x ≡ y
same-of-le f x y X Y p q h k = unique f x y false (num y) (den y) (den_pos y) X Y (value-of-cross x (num y) (den y) p (le_antisymm (le→cross x y p q h) (le→cross y x q p k))) (own_value y q)

module _ (x y : Float) (Y : T (not (is_nan y))) where
  -- with a NaN on the left the other operand is given, so this asks nothing of x
  pub min-right : T (le (min_of x y) y)
  unfolding min_of
  min-right = pick-if (λ r. T (le r y)) (is_nan x) (λ _. le-self y Y)
      (λ n. pick-if (λ r. T (le r y)) (lt y x) (λ _. le-self y Y) (λ l. total y x Y (subst (λ (b : Bool). T (not b)) (sym n) tt) l))

  pub max-right : T (le y (max_of x y))
  unfolding max_of
  max-right = pick-if (λ r. T (le y r)) (is_nan x) (λ _. le-self y Y)
      (λ n. pick-if (λ r. T (le y r)) (lt x y) (λ _. le-self y Y) (λ l. total x y (subst (λ (b : Bool). T (not b)) (sym n) tt) Y l))

module _ (x lo hi : Float) (X : T (not (is_nan x))) (L : T (not (is_nan lo))) (H : T (not (is_nan hi))) (ordered : T (le lo hi)) where
  pub clamp-low : T (le lo (clamp_of x lo hi))
  unfolding clamp_of
  clamp-low = pick-if (λ r. T (le lo r)) (lt x lo) (λ _. le-self lo L) (λ l. pick-if (λ r. T (le lo r)) (lt hi x) (λ _. ordered) (λ _. total x lo X L l))

  pub clamp-high : T (le (clamp_of x lo hi) hi)
  unfolding clamp_of
  clamp-high = pick-if (λ r. T (le r hi)) (lt x lo) (λ _. ordered) (λ _. pick-if (λ r. T (le r hi)) (lt hi x) (λ _. le-self hi H) (total hi x H X))

-- a NaN stays
pub clamp-nan : (lo hi : Float) → clamp_of nan lo hi ≡ nan
unfolding clamp_of lt pick
clamp-nan lo nan = refl
clamp-nan lo (inf true) = refl
clamp-nan lo (inf false) = refl
clamp-nan lo (fin s m e) = refl
