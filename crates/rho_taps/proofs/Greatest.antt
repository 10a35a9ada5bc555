-- The greatest of some sizes. A size is a NaN or what is not negative, and each that fits a format has a rank, a natural number:
-- its value in units of the format's smallest, a number above all those for the infinity, and 0 for a NaN, which a maximum
-- ignores. The rank of a maximum is the maximum of the ranks, and of one rank there is one number: so the greatest of some sizes
-- does not depend on their order, and this is asked of natural numbers alone. Assumes nothing.
--     Number f x     x fits f, is no NaN and not negative
--     Size f x       the same or a NaN; size-abs: what abs_of gives
--     Found f n x    x is a number of rank n; found-same: there is one such x; found-max: the maximum with one more size
--     top g n        the greatest of g 0 .. g (n - 1); top-ge, top-le: it is a bound, and the least one
--     top-same, top-turned, top-parts, top-lanes     it is the same for the same numbers, in another order, in two parts, in lanes
--     found-iter     a loop whose turn k takes the maximum with a size of rank r k finds the top of r
use mathlib.Core.Path.{◌≡◌, refl, sym, ap, ◌∙◌, subst}
use mathlib.Core.Logic.{inl, inr}
use mathlib.Core.Bool.{Bool, true, false, ◌&&◌}
use Prim.Native.Nat.{ℕ, zero, suc, ◌+◌, ◌-◌, ◌*◌, ◌/◌, ◌%◌, ◌^◌, ◌≤◌, ◌<◌, max}
use native.Mathlib.Nat.{le_refl, le_of_lt, le_of_suc-le-suc, le_trans, le_antisymm, eq-or-lt_of_le, not-suc-le-zero, zero-mul, one-mul, mul-one, mul_comm, mul_assoc, mul_right_comm, mul-pos, mul-lt-mul_of_pos_right, mul-le-mul_right, lt_of_mul-lt-mul_right, le_of_mul-le-mul_right, sub-add_cancel, max-le}
use native.Mathlib.Omega.{arith}
use lib.Dec.{T, ltb, leb, eqb, ltb→lt, leb→le}
use lib.IntN.{ℤ, pos, negsuc}
use lib.Pow.{pow-add, pow_pos}
use borrow.Author.Tests.{ltb-true, ltb-false, lt-ltb, le-ltb}
use lib.Ieee.{Float, nan, inf, fin, Format, prec, emax, low, up, down, lt, fits, is_nan}
use lib.Ieee.Fits.{and_l, and_r, down_pos, inf-fits}
use Rattle.laws.specs.Choice.{pick, lt-or-ge}
use Rattle.laws.specs.Loops.{iter}
use Rattle.numbers.specs.Order.{abs_of, max_of}
use Rattle.numbers.proofs.Values.{unique, pow_le_back}

-- ---- sizes and their ranks

-- (-0.0 is none)
pub data Number (f : Format) : Float → Type 0 where
  infinite : Number f (inf false)
  finite : {m : ℕ} {e : ℤ} → T (fits f (fin false m e)) → Number f (fin false m e)

pub data Size (f : Format) : Float → Type 0 where
  none : Size f nan
  some : {x : Float} → Number f x → Size f x

pub number_fits : (f : Format) (x : Float) → Number f x → T (fits f x)
number_fits f x infinite = inf-fits f false
number_fits f x (finite h) = h

pub size-abs : (f : Format) (x : Float) → T (fits f x) → Size f (abs_of x)
unfolding abs_of fits
size-abs f nan h = none
size-abs f (inf s) h = some infinite
size-abs f (fin s zero e) h = some (finite h)
size-abs f (fin s (suc m) e) h = some (finite h)

-- a number is its own size
pub abs-number : (f : Format) (x : Float) → Number f x → abs_of x ≡ x
unfolding abs_of
abs-number f x infinite = refl
abs-number f x (finite h) = refl

-- 2 ^ e in units of the smallest value
abbrev units_of : Format → ℤ → ℕ
units_of f (pos a) = 2 ^ (low f + a)
units_of f (negsuc a) = 2 ^ (low f - suc a)

-- 2 ^ (emax + 1) in those units: above every finite value
abbrev past : Format → ℕ
past f = 2 ^ (low f + suc (emax f))

unfoldable pub rank : Format → Float → ℕ
rank f nan = 0
rank f (inf s) = past f
rank f (fin s m e) = m * units_of f e

-- ---- the units are exact

units-exact : (f : Format) (e : ℤ) → down e ≤ 2 ^ low f → units_of f e * down e ≡ up e * 2 ^ low f
units-exact f (pos a) h = mul-one (2 ^ (low f + a)) ∙ pow-add 2 (low f) a ∙ mul_comm (2 ^ low f) (2 ^ a)
units-exact f (negsuc a) h =
    sym (pow-add 2 (low f - suc a) (suc a))
    ∙ ap (λ (n : ℕ). 2 ^ n) (sub-add_cancel (pow_le_back (suc a) (low f) h))
    ∙ sym (one-mul (2 ^ low f))

-- what is used of a finite value that fits
record Exact (f : Format) (m : ℕ) (e : ℤ) : Type 0 where
  value : m * up e * 2 ^ low f ≡ m * units_of f e * down e
  bound : m * units_of f e < past f

exact-some : (f : Format) (m : ℕ) (e : ℤ) → down e ≤ 2 ^ low f → m * up e < 2 ^ suc (emax f) * down e → Exact f m e
exact-some f m e D U =
    let v : m * up e * 2 ^ low f ≡ m * units_of f e * down e =
    mul_assoc m (up e) (2 ^ low f) ∙ ap (λ (n : ℕ). m * n) (sym (units-exact f e D)) ∙ sym (mul_assoc m (units_of f e) (down e)) in
    let w : 2 ^ suc (emax f) * down e * 2 ^ low f ≡ past f * down e =
    mul_right_comm (2 ^ suc (emax f)) (down e) (2 ^ low f)
    ∙ ap (λ (n : ℕ). n * down e) (mul_comm (2 ^ suc (emax f)) (2 ^ low f) ∙ sym (pow-add 2 (low f) (suc (emax f)))) in
    record {
      value = v;
      bound = lt_of_mul-lt-mul_right (down e) (rw (← v, ← w) (mul-lt-mul_of_pos_right U (pow_pos (low f))));
    }

exact : (f : Format) (m : ℕ) (e : ℤ) → T (fits f (fin false m e)) → Exact f m e
unfolding fits
exact f zero e h = record { value = simp zero-mul; bound = simp zero-mul (pow_pos (low f + suc (emax f))) }
exact f (suc m) e h =
    let A = eqb (suc m % 2) 1 && ltb (suc m) (2 ^ prec f) in
    let C = leb (down e) (2 ^ low f) in
    let D = ltb (suc m * up e) (2 ^ suc (emax f) * down e) in
    exact-some f (suc m) e (leb→le (down e) (2 ^ low f) (and_r A C (and_l (A && C) D h)))
    (ltb→lt (suc m * up e) (2 ^ suc (emax f) * down e) (and_r (A && C) D h))

-- ---- the order is that of the ranks, and of one rank there is one number

-- a and b are the fractions x * c / l and y * c / l
cross : (a b x y l c : ℕ) → 0 < l → 0 < c → a * l ≡ x * c → b * l ≡ y * c → ltb a b ≡ ltb x y
cross a b x y l c L C p q = go (ltb x y) refl
  where
    go : (t : Bool) → ltb x y ≡ t → ltb a b ≡ t
    go true e = lt-ltb a b (lt_of_mul-lt-mul_right l (rw (p, q) (mul-lt-mul_of_pos_right (ltb-true x y e) C)))
    go false e = le-ltb a b (le_of_mul-le-mul_right (rw (p, q) (mul-le-mul_right c (ltb-false x y e))) L)

-- a value over its denominator and another's, d
common : (f : Format) (m : ℕ) (e : ℤ) (d : ℕ) → Exact f m e → m * up e * d * 2 ^ low f ≡ m * units_of f e * (down e * d)
common f m e d x = mul_right_comm (m * up e) d (2 ^ low f) ∙ ap (λ (k : ℕ). k * d) x.value ∙ mul_assoc (m * units_of f e) (down e) d

lt-rank : (f : Format) (x y : Float) → Number f x → Number f y → lt x y ≡ ltb (rank f x) (rank f y)
unfolding lt rank
lt-rank f x y infinite infinite = sym (le-ltb (past f) (past f) (le_refl _))
lt-rank f x y infinite (finite {m = n} {e = d} k) = sym (le-ltb (past f) (n * units_of f d) (le_of_lt (exact f n d k).bound))
lt-rank f x y (finite {m = m} {e = e} h) infinite = sym (lt-ltb (m * units_of f e) (past f) (exact f m e h).bound)
lt-rank f x y (finite {m = m} {e = e} h) (finite {m = n} {e = d} k) =
    cross (m * up e * down d) (n * up d * down e) (m * units_of f e) (n * units_of f d) (2 ^ low f) (down e * down d) (pow_pos (low f)) (mul-pos (down_pos e) (down_pos d))
    (common f m e (down d) (exact f m e h))
    (common f n d (down e) (exact f n d k) ∙ ap (λ (c : ℕ). n * units_of f d * c) (mul_comm (down d) (down e)))

not-that : (a b : ℕ) → a < b → a ≡ b → ⊥
not-that a b h e = omega arith

same_rank : (f : Format) (x y : Float) → Number f x → Number f y → rank f x ≡ rank f y → x ≡ y
unfolding rank
same_rank f x y infinite infinite r = refl
same_rank f x y infinite (finite {m = n} {e = d} k) r = absurd (not-that (n * units_of f d) (past f) (exact f n d k).bound (sym r))
same_rank f x y (finite {m = m} {e = e} h) infinite r = absurd (not-that (m * units_of f e) (past f) (exact f m e h).bound r)
same_rank f x y (finite {m = m} {e = e} h) (finite {m = n} {e = d} k) r =
    unique f (fin false m e) (fin false n d) false (n * units_of f d) (2 ^ low f) (pow_pos (low f)) h k
    (refl, (exact f m e h).value ∙ ap (λ (c : ℕ). c * down e) r) (refl, (exact f n d k).value)

-- ---- the maximum

pub record Found (f : Format) (n : ℕ) (x : Float) : Type 0 where
  pub number : Number f x
  pub is : rank f x ≡ n

pub found-same : {f : Format} {n : ℕ} {x y : Float} → Found f n x → Found f n y → x ≡ y
found-same {f} {n} {x} {y} p q = same_rank f x y p.number q.number (p.is ∙ sym q.is)

lt-nan : (f : Format) (x : Float) → Number f x → lt x nan ≡ false
unfolding lt
lt-nan f x infinite = refl
lt-nan f x (finite h) = refl

found-test : (f : Format) (x y : Float) → Number f x → Size f y → Found f (max (rank f x) (rank f y)) (pick (lt x y) y x)
unfolding pick
found-test f x y p none = rw (lt-nan f x p) (record { number = p; is = unfold rank in omega arith })
found-test f x y p (some q) = rw (lt-rank f x y p q) (go (ltb (rank f x) (rank f y)) refl)
  where
    go : (t : Bool) → ltb (rank f x) (rank f y) ≡ t → Found f (max (rank f x) (rank f y)) (pick t y x)
    go true e = let l = ltb-true (rank f x) (rank f y) e in record { number = q; is = omega arith }
    go false e = let l = ltb-false (rank f x) (rank f y) e in record { number = p; is = omega arith }

-- the maximum by one test, which is enough where the first operand is a number
pub found-pick : {f : Format} {n : ℕ} {x y : Float} → Found f n x → Size f y → Found f (max n (rank f y)) (pick (lt x y) y x)
found-pick {f} {n} {x} {y} p q = rw (← p.is) (found-test f x y p.number q)

max-number : (f : Format) (x y : Float) → Number f x → max_of x y ≡ pick (lt x y) y x
unfolding max_of is_nan pick
max-number f x y infinite = refl
max-number f x y (finite h) = refl

pub found-max : {f : Format} {n : ℕ} {x y : Float} → Found f n x → Size f y → Found f (max n (rank f y)) (max_of x y)
found-max {f} {n} {x} {y} p q = rw (max-number f x y p.number) (found-pick p q)

-- ---- the greatest of some natural numbers

unfoldable pub top : (ℕ → ℕ) → ℕ → ℕ
top g zero = 0
top g (suc n) = max (top g n) (g n)

pub top-ge : (g : ℕ → ℕ) (n k : ℕ) → k < n → g k ≤ top g n
unfolding top
top-ge g zero k h = absurd (not-suc-le-zero h)
top-ge g (suc n) k h = elim (eq-or-lt_of_le (le_of_suc-le-suc h)) [ inl e ↦ rw e (omega arith) | inr l ↦ let i = top-ge g n k l in omega arith ]

pub top-le : (g : ℕ → ℕ) (n b : ℕ) → ((k : ℕ) → k < n → g k ≤ b) → top g n ≤ b
unfolding top
top-le g zero b h = omega arith
top-le g (suc n) b h = max-le (top-le g n b (λ k l. h k (omega arith))) (h n (le_refl (suc n)))

pub top-same : (g h : ℕ → ℕ) (n : ℕ) → ((k : ℕ) → k < n → g k ≡ h k) → top g n ≡ top h n
unfolding top
top-same g h zero e = refl
top-same g h (suc n) e = rw (top-same g h n (λ k l. e k (omega arith)), e n (le_refl (suc n)))

-- in another order of the places, one that is its own way back
pub top-turned : (g σ : ℕ → ℕ) (n : ℕ) → ((k : ℕ) → k < n → σ k < n) → ((k : ℕ) → k < n → σ (σ k) ≡ k) → top (λ k. g (σ k)) n ≡ top g n
top-turned g σ n b e =
    le_antisymm (top-le (λ k. g (σ k)) n (top g n) (λ k l. top-ge g n (σ k) (b k l)))
    (top-le g n (top (λ k. g (σ k)) n) (λ k l. subst (λ (j : ℕ). g j ≤ top (λ i. g (σ i)) n) (e k l) (top-ge (λ i. g (σ i)) n (σ k) (b k l))))

-- in two parts, the first m and the rest
module _ (g : ℕ → ℕ) (m n : ℕ) (h : m ≤ n) where
  first_part : (k : ℕ) → k < m → g k ≤ max (top g m) (top (λ i. g (m + i)) (n - m))
  first_part k l = omega (arith, top-ge g m k l)

  second-part : (k : ℕ) → k < n → m ≤ k → g k ≤ max (top g m) (top (λ i. g (m + i)) (n - m))
  second-part k l a =
      let e : m + (k - m) ≡ k = omega arith in
      omega (arith, rw e at (top-ge (λ i. g (m + i)) (n - m) (k - m) (omega arith)))

  pub top-parts : max (top g m) (top (λ i. g (m + i)) (n - m)) ≡ top g n
  top-parts =
      le_antisymm
      (max-le (top-le g m (top g n) (λ k l. top-ge g n k (omega arith))) (top-le (λ i. g (m + i)) (n - m) (top g n) (λ k l. top-ge g n (m + k) (omega arith))))
      (top-le g n (max (top g m) (top (λ i. g (m + i)) (n - m))) (λ k l. elim (lt-or-ge k m) [ inl a ↦ first_part k a | inr a ↦ second-part k l a ]))

-- in sixteen lanes, the place 16 b + q in the lane q
pub top-lanes : (g : ℕ → ℕ) (n : ℕ) → top (λ q. top (λ b. g (16 * b + q)) n) 16 ≡ top g (16 * n)
top-lanes g n =
    le_antisymm
    (top-le lane 16 (top g (16 * n)) (λ q l. top-le (λ b. g (16 * b + q)) n (top g (16 * n)) (λ b i. top-ge g (16 * n) (16 * b + q) (omega arith))))
    (top-le g (16 * n) (top lane 16) bound)
  where
    lane : ℕ → ℕ
    lane q = top (λ b. g (16 * b + q)) n

    bound : (k : ℕ) → k < 16 * n → g k ≤ top lane 16
    bound k l =
        let e : 16 * (k / 16) + k % 16 ≡ k = omega arith in
        le_trans (rw e at (top-ge (λ b. g (16 * b + k % 16)) n (k / 16) (omega arith))) (top-ge lane 16 (k % 16) (omega arith))

-- ---- a loop that takes the maximum at each turn

pub found-iter : {f : Format} {m : ℕ} {x : Float} (step : ℕ → Float → Float) (r : ℕ → ℕ)
    → ((k n : ℕ) (a : Float) → Found f n a → Found f (max n (r k)) (step k a))
    → Found f m x
    → (n : ℕ)
    → Found f (max m (top r n)) (iter step x n)
unfolding iter top
found-iter {f} {m} {x} step r s h zero = subst (λ (k : ℕ). Found f k x) (omega arith) h
found-iter {f} {m} {x} step r s h (suc n) =
    subst (λ (k : ℕ). Found f k (step n (iter step x n))) (omega arith) (s n (max m (top r n)) (iter step x n) (found-iter step r s h n))
