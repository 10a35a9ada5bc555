-- The test by squares is the test by the exponent's field: rounding keeps the order, and the squares of the range's two ends are exact. Assumes nothing.
--     plain-is           the two tests are one
--     plain-rounded, zero-rounded     what `rounded` makes of a plain number and of a zero is the narrowed number
--     plain-number, plain-finite      a plain number is no NaN, and is narrowed to a finite number
--     plain_size         which numbers are plain, by their size
--     small-sized        a number whose square is below 2^254 is below 2^127
--     castable           the narrowed number, still as an f64, is one that a cast to f32 loses nothing of
use Rattle.std.proofs.Common.{◌≡◌, ℕ, zero, suc, ◌+◌, ◌-◌, ◌*◌, ◌/◌, ◌%◌, ◌^◌, ◌<◌, ◌≤◌, Bool, true, false, not, ◌&&◌, T, ltb, leb, ◌⊎◌, ℤ, pos, sym, refl, ap, ◌∙◌, subst, inl, inr, true≢false, le_trans, le_of_eq, lt_of_lt_of_le, lt_of_le_of_lt, mul-le-mul_right, mod-lt, mul_assoc, mul_comm, mul-le-mul, lt_of_mul-lt-mul_right, mul-lt-mul_of_pos_right, mul-pos, mul_right_comm, le_of_mul-le-mul_right, arith, lit<, lit≤, le→leb, eqb→eq, ltb→lt, lt→ltb, leb→le, pow_pos, pow_mono, le-ltb, lt-ltb, le-leb}
use borrow.Author.Tests.{lt-leb}
use lib.Ieee.{Float, nan, inf, fin, binary32, binary64, unlike, up, down, round, mul, sub, lt, le, fits, is_nan, of_fields, to_bits}
use lib.Ieee.Bits.{is_true}
use lib.Ieee.Exact.{HasValue}
use lib.Ieee.Nearest.{closest}
use lib.Ieee.Fits.{and_i, and_l, and_r, down_pos}
use lib.Ieee.Order.{round_mono}
use lib.Ieee.Positive.{positive, between, le_trans_positive}
use Rattle.laws.specs.Choice.{lt-or-ge}
use Rattle.numbers.specs.Finite.{is_finite}
use Rattle.numbers.specs.Narrowing.{narrow_of, field_of, is_plain, low_square, high_square, plain_squares, rounded_of}
use Rattle.numbers.specs.Zeros.{Zero}
use Rattle.numbers.proofs.Ordered.{total, apart, positive-number}
use Rattle.numbers.proofs.Rounding.{fields-of, value-zero, value-some, value-end, narrow-value}
use Rattle.numbers.proofs.Splitting.{rounded-narrows}
use Rattle.numbers.proofs.Tests.{round-no-nan, narrow-fits, narrow-nan, plain as whole}
use Rattle.numbers.proofs.Values.{mul-value}

-- ---- a square against a bound: by the squares of the numbers next to the range's ends

abbrev at : ℕ → Float
at a = round binary64 false (a * a) (2 ^ 1074 * 2 ^ 1074)

mono : (a b : ℕ) → a ≤ b → T (le (at a) (at b))
mono a b h = round_mono binary64 (a * a) (2 ^ 1074 * 2 ^ 1074) (b * b) (2 ^ 1074 * 2 ^ 1074) (mul-pos (pow_pos 1074) (pow_pos 1074)) (mul-pos (pow_pos 1074) (pow_pos 1074)) (mul-le-mul_right (2 ^ 1074 * 2 ^ 1074) (mul-le-mul h h))

-- the least in the range, the greatest below it, the greatest in it, the least above it
abbrev first : ℕ
first = 2 ^ 52 * 2 ^ 896

abbrev before : ℕ
before = (2 ^ 53 - 1) * 2 ^ 895

abbrev last : ℕ
last = (2 ^ 53 - 1) * 2 ^ 1148

abbrev pub after : ℕ
after = 2 ^ 52 * 2 ^ 1149

first-is : at first ≡ low_square
unfolding round
first-is = refl

after_is : at after ≡ high_square
unfolding round
after_is = refl

before-first : before < first
before-first = lit< tt

last-after : last < after
last-after = lit< tt

before_last : before ≤ last
before_last = lit≤ tt

before-under : T (not (le low_square (at before))) × T (positive (at before))
unfolding le round
before-under = (tt, tt)

last_under : T (not (le high_square (at last))) × T (positive (at last))
unfolding le round
last_under = (tt, tt)

-- no bound above u is at most what is at most u
not-over : (b u z : Float) → T (positive b) → T (not (le b u)) × T (positive u) → T (le z u) → T (le b z) → ⊥
not-over b u z B (n, U) h k = none (le b u) (le_trans_positive b z u B (between b z u B U k h) U k h) n
  where
    none : (t : Bool) → T t → T (not t) → ⊥
    none true a b = b
    none false a b = a

-- no f64 lies between
abbrev Low : ℕ → Type 0
Low a = (a ≤ before) ⊎ (first ≤ a)

abbrev High : ℕ → Type 0
High a = (a ≤ last) ⊎ (after ≤ a)

module _ (x : Float) (s : Bool) (a : ℕ) (v : HasValue x s a (2 ^ 1074)) where
  like : (s : Bool) → unlike s s ≡ false
  like true = refl
  like false = refl

  square-is : mul binary64 x x ≡ at a
  square-is = mul-value binary64 x x s s a (2 ^ 1074) a (2 ^ 1074) (pow_pos 1074) (pow_pos 1074) v v ∙ ap (λ (z : Bool). round binary64 z (a * a) (2 ^ 1074 * 2 ^ 1074)) (like s)

  low-is : Low a → le low_square (mul binary64 x x) ≡ leb first a
  low-is (inl h) = ap (le low_square) square-is ∙ go (le low_square (at a)) (not-over low_square (at before) (at a) tt before-under (mono a before h)) ∙ sym (lt-leb first a (lt_of_le_of_lt h before-first))
    where
      go : (b : Bool) → (T b → ⊥) → b ≡ false
      go true n = absurd (n tt)
      go false n = refl
  low-is (inr h) = is_true _ (subst (λ (z : Float). T (le low_square z)) (sym square-is) (subst (λ (z : Float). T (le z (at a))) first-is (mono first a h))) ∙ sym (le-leb first a h)

  high_is : High a → lt (mul binary64 x x) high_square ≡ ltb a after
  high_is (inl h) =
      ap (λ (z : Float). lt z high_square) square-is
      ∙ go (lt (at a) high_square) (total (at a) high_square (subst (λ (b : Bool). T (not b)) (sym (round-no-nan binary64 false (a * a) (2 ^ 1074 * 2 ^ 1074))) tt) (positive-number high_square tt))
      ∙ sym (lt-ltb a after (lt_of_le_of_lt h last-after))
    where
      go : (b : Bool) → (b ≡ false → T (le high_square (at a))) → b ≡ true
      go true n = refl
      go false n = absurd (not-over high_square (at last) (at a) tt last_under (mono a last h) (n refl))
  high_is (inr h) =
      apart high_square (mul binary64 x x) tt (subst (λ (z : Float). T (le high_square z)) (sym square-is) (subst (λ (z : Float). T (le z (at a))) after_is (mono after a h)))
      ∙ sym (le-ltb a after h)

  squares-are : Low a → High a → plain_squares (mul binary64 x x) (mul binary64 x x) ≡ (leb first a && ltb a after)
  unfolding plain_squares
  squares-are l h = ap (λ (b : Bool). b && lt (mul binary64 x x) high_square) (low-is l) ∙ ap (λ (b : Bool). leb first a && b) (high_is h)

-- ---- by the fields

module _ (t : ℕ) (l : t < 2 ^ 52) (n : ℕ) where
  abbrev a : ℕ
  a = (2 ^ 52 + t) * 2 ^ n

  digits_low : 2 ^ 52 ≤ 2 ^ 52 + t
  digits_low = omega arith

  digits-high : 2 ^ 52 + t ≤ 2 ^ 53 - 1
  digits-high = omega arith

  low-at : Low a × (leb 897 (suc n) ≡ leb first a)
  low-at = go (lt-or-ge (suc n) 897)
    where
      go : (suc n < 897) ⊎ (897 ≤ suc n) → Low a × (leb 897 (suc n) ≡ leb first a)
      go (inl h) =
          let k : n ≤ 895 = omega arith in
          let w : a ≤ before = mul-le-mul digits-high (pow_mono k) in
          (inl w, lt-leb 897 (suc n) h ∙ sym (lt-leb first a (lt_of_le_of_lt w before-first)))
      go (inr h) =
          let k : 896 ≤ n = omega arith in
          let w : first ≤ a = mul-le-mul digits_low (pow_mono k) in
          (inr w, le-leb 897 (suc n) h ∙ sym (le-leb first a w))

  high-at : High a × (ltb (suc n) 1150 ≡ ltb a after)
  high-at = go (lt-or-ge (suc n) 1150)
    where
      go : (suc n < 1150) ⊎ (1150 ≤ suc n) → High a × (ltb (suc n) 1150 ≡ ltb a after)
      go (inl h) =
          let k : n ≤ 1148 = omega arith in
          let w : a ≤ last = mul-le-mul digits-high (pow_mono k) in
          (inl w, lt-ltb (suc n) 1150 h ∙ sym (lt-ltb a after (lt_of_le_of_lt w last-after)))
      go (inr h) =
          let k : 1149 ≤ n = omega arith in
          let w : after ≤ a = mul-le-mul digits_low (pow_mono k) in
          (inr w, le-ltb (suc n) 1150 h ∙ sym (le-ltb a after w))

-- what an f64 is, with its size and whether it is plain
data Kind (x : Float) : Type 0 where
  sized : (s : Bool) (a : ℕ) → HasValue x s a (2 ^ 1074) → Low a → High a → is_plain x ≡ (leb first a && ltb a after) → Kind x
  top : (s : Bool) → x ≡ inf s → Kind x
  no_number : x ≡ nan → Kind x

kind : (x : Float) → T (fits binary64 x) → Kind x
unfolding is_plain
kind x f = go (field_of x) refl (fields-of x f) (exp-lt (to_bits binary64 x))
  where
    s : Bool
    s = leb (2 ^ 63) (to_bits binary64 x)

    t : ℕ
    t = to_bits binary64 x % 2 ^ 52

    t-lt : t < 2 ^ 52
    t-lt = mod-lt (to_bits binary64 x) (pow_pos 52)

    exp-lt : (b : ℕ) → b % 2 ^ 63 / 2 ^ 52 < 2048
    exp-lt b = omega arith

    few : (t : ℕ) → t < 2 ^ 52 → t * 2 ^ 0 ≤ before
    few t l = mul-le-mul (up_to t l) (pow_pos 895)
      where
        up_to : (t : ℕ) → t < 2 ^ 52 → t ≤ 2 ^ 53 - 1
        up_to t l = omega arith

    go : (n : ℕ) → field_of x ≡ n → x ≡ of_fields binary64 s n t → n < 2048 → Kind x
    go zero q e l =
        let w = few t t-lt in
        Kind.sized s (t * 2 ^ 0) (subst (λ (y : Float). HasValue y s (t * 2 ^ 0) (2 ^ 1074)) (sym e) (value-zero s t)) (inl w) (inl (le_trans w before_last))
        (ap (λ (k : ℕ). leb 897 k && ltb k 1150) q ∙ ap (λ (b : Bool). b && ltb (t * 2 ^ 0) after) (sym (lt-leb first (t * 2 ^ 0) (lt_of_le_of_lt w before-first))))
    go (suc n) q e l = end (lt-or-ge (suc n) 2047)
      where
        end : (suc n < 2047) ⊎ (2047 ≤ suc n) → Kind x
        end (inl h) =
            let w = low-at t t-lt n in
            let z = high-at t t-lt n in
            Kind.sized s ((2 ^ 52 + t) * 2 ^ n) (subst (λ (y : Float). HasValue y s ((2 ^ 52 + t) * 2 ^ n) (2 ^ 1074)) (sym e) (value-some s n t h)) w.0 z.0
            (ap (λ (k : ℕ). leb 897 k && ltb k 1150) q ∙ ap (λ (b : Bool). b && ltb (suc n) 1150) w.1 ∙ ap (λ (b : Bool). leb first ((2 ^ 52 + t) * 2 ^ n) && b) z.1)
        end (inr h) =
            let p : suc n ≡ 2047 = omega arith in
            last-field (value-end s t) (e ∙ ap (λ (k : ℕ). of_fields binary64 s k t) p)
          where
            last-field : (of_fields binary64 s 2047 t ≡ inf s) ⊎ (of_fields binary64 s 2047 t ≡ nan) → x ≡ of_fields binary64 s 2047 t → Kind x
            last-field (inl h) r = Kind.top s (r ∙ h)
            last-field (inr h) r = Kind.no_number (r ∙ h)

-- ---- the two tests are one

top-square : (s : Bool) → plain_squares (mul binary64 (inf s) (inf s)) (mul binary64 (inf s) (inf s)) ≡ is_plain (inf s)
unfolding plain_squares is_plain mul lt le to_bits
top-square true = refl
top-square false = refl

nan-square : plain_squares (mul binary64 nan nan) (mul binary64 nan nan) ≡ is_plain nan
unfolding plain_squares is_plain mul le to_bits
nan-square = refl

pub plain-is : (x : Float) → T (fits binary64 x) → plain_squares (mul binary64 x x) (mul binary64 x x) ≡ is_plain x
plain-is x f = go (kind x f)
  where
    go : Kind x → plain_squares (mul binary64 x x) (mul binary64 x x) ≡ is_plain x
    go (Kind.sized s a v l h p) = squares-are x s a v l h ∙ sym p
    go (Kind.top s e) = subst (λ (y : Float). plain_squares (mul binary64 y y) (mul binary64 y y) ≡ is_plain y) (sym e) (top-square s)
    go (Kind.no_number e) = subst (λ (y : Float). plain_squares (mul binary64 y y) (mul binary64 y y) ≡ is_plain y) (sym e) nan-square

-- ---- the upper test alone

top-square-high : (s : Bool) → lt (mul binary64 (inf s) (inf s)) high_square ≡ false
unfolding mul lt
top-square-high true = refl
top-square-high false = refl

nan-square-high : lt (mul binary64 nan nan) high_square ≡ false
unfolding mul lt
nan-square-high = refl

pub small-sized : {G : Type 0} (x : Float) → T (fits binary64 x) → lt (mul binary64 x x) high_square ≡ true → ((s : Bool) (a : ℕ) → HasValue x s a (2 ^ 1074) → a < after → G) → G
small-sized {G} x f h g = go (kind x f)
  where
    other : (y : Float) → lt (mul binary64 y y) high_square ≡ false → x ≡ y → ⊥
    other y p e = true≢false (sym h ∙ ap (λ (z : Float). lt (mul binary64 z z) high_square) e ∙ p)

    go : Kind x → G
    go (Kind.sized s a v l u p) = g s a v (ltb→lt a after (subst T (sym (sym (high_is x s a v u) ∙ h)) tt))
    go (Kind.top s e) = absurd (other (inf s) (top-square-high s) e)
    go (Kind.no_number e) = absurd (other nan nan-square-high e)

-- ---- a plain number, by its digits

pub value-finite : (y : Float) (s : Bool) (a c : ℕ) → HasValue y s a c → is_finite y ≡ true
unfolding is_finite
value-finite nan s a c v = absurd v
value-finite (inf t) s a c v = absurd v
value-finite (fin t m e) s a c v = refl

module _ (x : Float) (f : T (fits binary64 x)) (p : is_plain x ≡ true) where
  in-range : (897 ≤ field_of x) × (field_of x < 1150)
  unfolding is_plain
  in-range =
      let h = subst T (sym p) tt in
      (leb→le 897 (field_of x) (and_l (leb 897 (field_of x)) (ltb (field_of x) 1150) h), ltb→lt (field_of x) 1150 (and_r (leb 897 (field_of x)) (ltb (field_of x) 1150) h))

  by_digits : {G : Type 0} → ((s : Bool) (M E : ℕ) → HasValue x s (M * 2 ^ E) (2 ^ 1074) → 2 ^ 52 ≤ M → M < 2 ^ 53 → 896 ≤ E → E ≤ 1148 → G) → G
  by_digits {G} g = go (field_of x) in-range.0 in-range.1 (fields-of x f)
    where
      go : (n : ℕ) → 897 ≤ n → n < 1150 → x ≡ of_fields binary64 (leb (2 ^ 63) (to_bits binary64 x)) n (to_bits binary64 x % 2 ^ 52) → G
      go zero a c e = absurd (none a)
        where
          none : 897 ≤ 0 → ⊥
          none h = omega arith
      go (suc n) a c e =
          let t = to_bits binary64 x % 2 ^ 52 in
          let s = leb (2 ^ 63) (to_bits binary64 x) in
          let w : t < 2 ^ 52 = mod-lt (to_bits binary64 x) (pow_pos 52) in
          let v = subst (λ (y : Float). HasValue y s ((2 ^ 52 + t) * 2 ^ n) (2 ^ 1074)) (sym e) (value-some s n t (omega arith)) in
          g s (2 ^ 52 + t) n v (omega arith) (omega arith) (omega arith) (omega arith)

  pub plain-rounded : rounded_of x ≡ narrow_of x
  plain-rounded = by_digits (rounded-narrows x)

  -- no carry gives the infinity
  pub plain-finite : is_finite (narrow_of x) ≡ true
  plain-finite = by_digits (λ s M E v lo hi a b. value-finite (narrow_of x) s (closest M (2 ^ 29) * 2 ^ (E - 896)) (2 ^ 149) (narrow-value x s M E (E - 896) v lo hi (omega arith) (omega arith)))

  pub plain-number : T (not (is_nan x))
  unfolding is_nan is_plain to_bits
  plain-number = go x p
    where
      go : (x : Float) → is_plain x ≡ true → T (not (is_nan x))
      go nan h = absurd (true≢false (sym h))
      go (inf s) h = tt
      go (fin s m e) h = tt

-- ---- a zero

plus-rounded : (s : Bool) → rounded_of (fin s 0 (pos 0)) ≡ narrow_of (fin s 0 (pos 0))
unfolding rounded_of narrow_of mul sub round
plus-rounded true = refl
plus-rounded false = refl

pub zero-rounded : (x : Float) → T (fits binary64 x) → Zero x → rounded_of x ≡ narrow_of x
unfolding fits
zero-rounded nan f z = absurd z.zero
zero-rounded (inf s) f z = absurd z.zero
zero-rounded (fin s zero e) f z = subst (λ (d : ℤ). rounded_of (fin s 0 d) ≡ narrow_of (fin s 0 d)) (sym (whole e (eqb→eq (up e * down e) 1 f))) (plus-rounded s)
zero-rounded (fin s (suc m) e) f z = absurd z.zero

-- ---- the narrowed number can be cast

pub castable : {r : Float} (x : Float) → r ≡ narrow_of x → T (not (is_nan x)) → T (fits binary32 r && not (is_nan r))
castable {r} x e n = and_i (fits binary32 r) (not (is_nan r)) (subst (λ (z : Float). T (fits binary32 z)) (sym e) (narrow-fits x)) (subst (λ (b : Bool). T (not b)) (sym (ap is_nan e ∙ narrow-nan x)) n)

-- ---- by the size

same_test : (b c : Bool) → (T b → T c) → (T c → T b) → b ≡ c
same_test true true p q = refl
same_test true false p q = absurd (p tt)
same_test false true p q = absurd (q tt)
same_test false false p q = refl

-- a size u / d that is a * 2^-1074
module _ (u d a : ℕ) (D : 0 < d) (v : u * 2 ^ 1074 ≡ a * d) where
  low-size : leb d (u * 2 ^ 126) ≡ leb first a
  low-size =
      same_test (leb d (u * 2 ^ 126)) (leb first a)
      (λ h. le→leb first a (le_of_mul-le-mul_right (le_trans (le_of_eq (mul_comm first d)) (le_trans (mul-le-mul_right first (leb→le d (u * 2 ^ 126) h)) (le_of_eq up_to))) D))
      (λ h. le→leb d (u * 2 ^ 126) (le_of_mul-le-mul_right (le_trans (le_of_eq (mul_comm d first)) (le_trans (mul-le-mul_right d (leb→le first a h)) (le_of_eq (sym up_to)))) (pow_pos 948)))
    where
      up_to : u * 2 ^ 126 * first ≡ a * d
      up_to = mul_assoc u (2 ^ 126) first ∙ v

  high-size : ltb u (2 ^ 127 * d) ≡ ltb a after
  high-size =
      same_test (ltb u (2 ^ 127 * d)) (ltb a after)
      (λ h. lt→ltb a after (lt_of_mul-lt-mul_right d (subst (λ (z : ℕ). z < after * d) v (lt_of_lt_of_le (mul-lt-mul_of_pos_right (ltb→lt u (2 ^ 127 * d) h) (pow_pos 1074)) (le_of_eq up_to)))))
      (λ h. lt→ltb u (2 ^ 127 * d) (lt_of_mul-lt-mul_right (2 ^ 1074) (subst (λ (z : ℕ). z < 2 ^ 127 * d * 2 ^ 1074) (sym v) (lt_of_lt_of_le (mul-lt-mul_of_pos_right (ltb→lt a after h) D) (le_of_eq (sym up_to))))))
    where
      up_to : 2 ^ 127 * d * 2 ^ 1074 ≡ after * d
      up_to = mul_right_comm (2 ^ 127) d (2 ^ 1074)

never : (x y : Float) → is_finite x ≡ true → is_finite y ≡ false → x ≡ y → ⊥
never x y p q e = true≢false (sym p ∙ ap is_finite e ∙ q)

pub plain_size : (s : Bool) (m : ℕ) (e : ℤ) → T (fits binary64 (fin s m e)) → is_plain (fin s m e) ≡ (leb (down e) (m * up e * 2 ^ 126) && ltb (m * up e) (2 ^ 127 * down e))
unfolding is_finite
plain_size s m e f = go (kind (fin s m e) f)
  where
    go : Kind (fin s m e) → is_plain (fin s m e) ≡ (leb (down e) (m * up e * 2 ^ 126) && ltb (m * up e) (2 ^ 127 * down e))
    go (Kind.sized r a v l h p) =
        p ∙ ap (λ (b : Bool). b && ltb a after) (sym (low-size (m * up e) (down e) a (down_pos e) v.1))
        ∙ ap (λ (b : Bool). leb (down e) (m * up e * 2 ^ 126) && b) (sym (high-size (m * up e) (down e) a (down_pos e) v.1))
    go (Kind.top r q) = absurd (never (fin s m e) (inf r) refl refl q)
    go (Kind.no_number q) = absurd (never (fin s m e) nan refl refl q)
