-- A sum of powers is a zero only where each of them is, and below a bound only where each is; a square is a zero only where what was
-- squared is. Assumes nothing.
--     sum_below                      of two powers whose sum is below a bound, each is below it
--     zero-of-left, zero-of-right    what is above 0 and a power: the sum is rounded to no less than the first was
--     zero-of-square                 an f32's square in f64: at least 2^-298 where the f32 is no zero, and binary64 holds that
use Rattle.std.proofs.Common.{◌≡◌, ℕ, zero, suc, ◌+◌, ◌-◌, ◌*◌, ◌%◌, ◌^◌, ◌<◌, ◌≤◌, Bool, true, false, cond, not, ◌&&◌, T, eqb, ltb, leb, ℤ, negsuc, sym, refl, ap, ◌∙◌, subst, true≢false, le_trans, le_of_eq, lt_of_lt_of_le, le-add_right, lt_irrefl, mul-le-mul_right, zero-lt-suc, mul_assoc, mul_comm, mul-le-mul, add_comm, mul-pos, zero-mul, mul_right_comm, le-add_left, arith, ltb→lt, lt→ltb, leb→le, nltb→le}
use lib.Ieee.{Float, nan, inf, fin, Format, binary32, binary64, prec, emax, low, up, down, round, sum, add, mul, lt, le, fits, is_nan}
use lib.Ieee.Fits.{up_pos, down_pos, and_l, and_r}
use lib.Ieee.Order.{round_mono}
use lib.Ieee.Positive.{num, den, den_pos, positive, own_value, value_pos, above, above_of_le, le→cross}
use Rattle.numbers.specs.Ranges.{Power}
use Rattle.numbers.specs.Zeros.{Zero}
use Rattle.numbers.proofs.Ordered.{apart, below_top, lt-number, positive-number, total}
use Rattle.numbers.proofs.Tests.{terms}
use Rattle.numbers.proofs.Values.{round-back}
use Rattle.numbers.proofs.Ranged.{none_below}

-- ---- a fraction that is no smaller than a value of the format above 0 is rounded to no zero

above-some : (x : Float) → T (above x) → Zero x → ⊥
above-some nan a z = a
above-some (inf s) a z = z.zero
above-some (fin true m e) a z = a
above-some (fin false zero e) a z = a
above-some (fin false (suc m) e) a z = z.zero

round-own : (f : Format) (x : Float) → T (positive x) → T (fits f x) → round f false (num x) (den x) ≡ x
round-own f nan p h = absurd p
round-own f (inf s) p h = absurd p
round-own f (fin true m e) p h = absurd p
round-own f (fin false m e) p h = round-back f false m e h

-- rounding keeps the order, and x is rounded to itself
round-least : (f : Format) (x : Float) (a c : ℕ) → T (positive x) → T (fits f x) → 0 < c → num x * c ≤ a * den x → T (le x (round f false a c))
round-least f x a c p h C l = subst (λ (z : Float). T (le z (round f false a c))) (round-own f x p h) (round_mono f (num x) (den x) a c (den_pos x) C l)

round-some : (f : Format) (x : Float) (a c : ℕ) → T (positive x) → T (fits f x) → 0 < c → num x * c ≤ a * den x → Zero (round f false a c) → ⊥
round-some f x a c p h C l = above-some (round f false a c) (above_of_le x (round f false a c) p (round-least f x a c p h C l))

-- ---- a sum of powers

-- where what is marked negative is 0, the sizes are added
sum_is : (f : Format) (s t : Bool) (a b c : ℕ) → (s ≡ true → a ≡ 0) → (t ≡ true → b ≡ 0) → sum f s a t b c ≡ round f (s && t) (a + b) c
unfolding sum
sum_is f true true a b c p q = refl
sum_is f false false a b c p q = refl
sum_is f false true a b c p q = go (ltb a b) (ltb→lt a b) (q refl)
  where
    no : a < b → b ≡ 0 → ⊥
    no h k = omega arith

    all : b ≡ 0 → a - b ≡ a + b
    all k = omega arith

    go : (u : Bool) → (T u → a < b) → b ≡ 0 → cond u (round f true (b - a) c) (round f false (a - b) c) ≡ round f false (a + b) c
    go true h k = absurd (no (h tt) k)
    go false h k = ap (λ (n : ℕ). round f false n c) (all k)
sum_is f true false a b c p q = go (ltb a b) (ltb b a) (nltb→le a b) (ltb→lt b a) (p refl)
  where
    no : b < a → a ≡ 0 → ⊥
    no h k = omega arith

    all : a ≡ 0 → b - a ≡ a + b
    all k = omega arith

    none : b ≤ a → a ≡ 0 → a - b ≡ a + b
    none h k = omega arith

    go : (u v : Bool) → (T (not u) → b ≤ a) → (T v → b < a) → a ≡ 0 → cond u (round f false (b - a) c) (round f v (a - b) c) ≡ round f false (a + b) c
    go true v h l k = ap (λ (n : ℕ). round f false n c) (all k)
    go false true h l k = absurd (no (l tt) k)
    go false false h l k = ap (λ (n : ℕ). round f false n c) (none (h tt) k)

-- so a sum of no less than an x above 0 is rounded to no less, and to no zero
sum-least : (f : Format) (x : Float) (s t : Bool) (a b c : ℕ) → T (positive x) → T (fits f x) → 0 < c → (s ≡ true → a ≡ 0) → (t ≡ true → b ≡ 0)
    → num x * c ≤ (a + b) * den x → T (le x (sum f s a t b c))
sum-least f x s t a b c P h C p q l = subst (λ (z : Float). T (le x z)) (sym (sum_is f s t a b c p q)) (go s t p q)
  where
    none : a ≡ 0 → b ≡ 0 → a + b ≡ 0
    none j k = omega arith

    -- both marked negative: then both are 0, and x is above that
    go : (s t : Bool) → (s ≡ true → a ≡ 0) → (t ≡ true → b ≡ 0) → T (le x (round f (s && t) (a + b) c))
    go true true p q =
        absurd
        (lt_irrefl 0
        (lt_of_lt_of_le (mul-pos (value_pos x (num x) (den x) P (den_pos x) (own_value x P)) C)
        (le_trans l (le_of_eq (ap (λ (n : ℕ). n * den x) (none (p refl) (q refl)) ∙ zero-mul (den x))))))
    go true false p q = round-least f x (a + b) c P h C l
    go false t p q = round-least f x (a + b) c P h C l

sum-some : (f : Format) (x : Float) (s t : Bool) (a b c : ℕ) → T (positive x) → T (fits f x) → 0 < c → (s ≡ true → a ≡ 0) → (t ≡ true → b ≡ 0)
    → num x * c ≤ (a + b) * den x → Zero (sum f s a t b c) → ⊥
sum-some f x s t a b c P h C p q l = above-some (sum f s a t b c) (above_of_le x (sum f s a t b c) P (sum-least f x s t a b c P h C p q l))

-- n / d ≤ w / (d * r) multiplied out, from n * r ≤ w
over-left : (n d r w : ℕ) → n * r ≤ w → n * (d * r) ≤ w * d
over-left n d r w h = le_trans (le_of_eq (simp (mul_assoc, mul_comm))) (mul-le-mul_right d h)

over-right : (n d r w : ℕ) → n * r ≤ w → n * (r * d) ≤ w * d
over-right n d r w h = le_trans (le_of_eq (sym (mul_assoc n r d))) (mul-le-mul_right d h)

pub zero-of-left : (f : Format) {x y : Float} → T (fits f x) → Power x → Power y → Zero (add f x y) → Zero x
unfolding add
zero-of-left f {x = nan} {y} h p q z = z
zero-of-left f {x = inf s} {y = nan} h p q z = absurd z.zero
zero-of-left f {x = inf true} {y = inf t} h p q z = absurd p.power
zero-of-left f {x = inf false} {y = inf true} h p q z = absurd z.zero
zero-of-left f {x = inf false} {y = inf false} h p q z = absurd z.zero
zero-of-left f {x = inf s} {y = fin t n d} h p q z = absurd z.zero
zero-of-left f {x = fin s zero e} {y} h p q z = record { zero = tt }
zero-of-left f {x = fin true (suc m) e} {y} h p q z = absurd p.power
zero-of-left f {x = fin false (suc m) e} {y = nan} h p q z = absurd z.zero
zero-of-left f {x = fin false (suc m) e} {y = inf t} h p q z = absurd z.zero
zero-of-left f {x = fin false (suc m) e} {y = fin t n d} h p q z =
    let a = suc m * up e * down d in
    let b = n * up d * down e in
    absurd
    (sum-some f (fin false (suc m) e) false t a b (down e * down d) (lt→ltb 0 (suc m) (zero-lt-suc m)) h (mul-pos (down_pos e) (down_pos d))
    (none_below false (suc m) e (down d) tt) (none_below t n d (down e) q.power) (over-left (suc m * up e) (down e) (down d) (a + b) (le-add_right a b)) z)

pub zero-of-right : (f : Format) {x y : Float} → T (fits f y) → Power x → Power y → Zero (add f x y) → Zero y
unfolding add
zero-of-right f {x = nan} {y} h p q z = absurd z.zero
zero-of-right f {x = inf s} {y = nan} h p q z = z
zero-of-right f {x = inf true} {y = inf t} h p q z = absurd p.power
zero-of-right f {x = inf false} {y = inf true} h p q z = absurd z.zero
zero-of-right f {x = inf false} {y = inf false} h p q z = absurd z.zero
zero-of-right f {x = inf s} {y = fin t n d} h p q z = absurd z.zero
zero-of-right f {x = fin s m e} {y = nan} h p q z = z
zero-of-right f {x = fin s m e} {y = inf t} h p q z = z
zero-of-right f {x = fin s m e} {y = fin t zero d} h p q z = record { zero = tt }
zero-of-right f {x = fin s m e} {y = fin true (suc n) d} h p q z = absurd q.power
zero-of-right f {x = fin s m e} {y = fin false (suc n) d} h p q z =
    let a = m * up e * down d in
    let b = suc n * up d * down e in
    absurd
    (sum-some f (fin false (suc n) d) s false a b (down e * down d) (lt→ltb 0 (suc n) (zero-lt-suc n)) h (mul-pos (down_pos e) (down_pos d))
    (none_below s m e (down d) p.power) (none_below false (suc n) d (down e) tt) (over-right (suc n * up d) (down d) (down e) (a + b) (le-add_left b a)) z)

-- ---- a bound that one of two powers reaches, their sum reaches

-- n / d ≤ m / e, and more over a common denominator
reach : (n d m e r w : ℕ) → n * e ≤ m * d → n * (e * r) ≤ (m * r + w) * d
reach n d m e r w h =
    le_trans (le_of_eq (sym (mul_assoc n e r)))
    (le_trans (mul-le-mul_right r h) (le_trans (le_of_eq (mul_right_comm m d r)) (mul-le-mul_right d (le-add_right (m * r) w))))

module _ (f : Format) (b : Float) (B : T (positive b)) (h : T (fits f b)) where
  add_left : (x y : Float) → Power x → Power y → T (not (is_nan (add f x y))) → T (le b x) → T (le b (add f x y))
  unfolding add is_nan
  add_left nan y p q n l = absurd (above_of_le b nan B l)
  add_left (inf s) nan p q n l = absurd n
  add_left (inf true) (inf t) p q n l = absurd p.power
  add_left (inf false) (inf true) p q n l = absurd q.power
  add_left (inf false) (inf false) p q n l = l
  add_left (inf s) (fin t k d) p q n l = l
  add_left (fin s m e) nan p q n l = absurd n
  add_left (fin s m e) (inf true) p q n l = absurd q.power
  add_left (fin s m e) (inf false) p q n l = below_top b B
  add_left (fin true m e) (fin t k d) p q n l = absurd (above_of_le b (fin true m e) B l)
  add_left (fin false m e) (fin t k d) p q n l =
      sum-least f b false t (m * up e * down d) (k * up d * down e) (down e * down d) B h (mul-pos (down_pos e) (down_pos d)) (none_below false m e (down d) p.power) (none_below t k d (down e) q.power)
      (reach (num b) (den b) (m * up e) (down e) (down d) (k * up d * down e) (le→cross b (fin false m e) B (above_of_le b (fin false m e) B l) l))

  add_right : (x y : Float) → Power x → Power y → T (not (is_nan (add f x y))) → T (le b y) → T (le b (add f x y))
  unfolding add is_nan
  add_right nan y p q n l = absurd n
  add_right (inf s) nan p q n l = absurd n
  add_right (inf true) (inf t) p q n l = absurd p.power
  add_right (inf false) (inf true) p q n l = absurd q.power
  add_right (inf false) (inf false) p q n l = l
  add_right (inf true) (fin t k d) p q n l = absurd p.power
  add_right (inf false) (fin t k d) p q n l = below_top b B
  add_right (fin s m e) nan p q n l = absurd n
  add_right (fin s m e) (inf t) p q n l = l
  add_right (fin s m e) (fin true k d) p q n l = absurd (above_of_le b (fin true k d) B l)
  add_right (fin s m e) (fin false k d) p q n l =
      sum-least f b s false (m * up e * down d) (k * up d * down e) (down e * down d) B h (mul-pos (down_pos e) (down_pos d)) (none_below s m e (down d) p.power) (none_below false k d (down e) q.power)
      (subst (λ (z : ℕ). num b * z ≤ (m * up e * down d + k * up d * down e) * den b) (mul_comm (down d) (down e))
      (subst (λ (z : ℕ). num b * (down d * down e) ≤ z * den b) (add_comm (k * up d * down e) (m * up e * down d))
      (reach (num b) (den b) (k * up d) (down d) (down e) (m * up e * down d) (le→cross b (fin false k d) B (above_of_le b (fin false k d) B l) l))))

  pub sum_below : (x y : Float) → Power x → Power y → lt (add f x y) b ≡ true → (lt x b ≡ true) × (lt y b ≡ true)
  sum_below x y p q l =
      let n = lt-number (add f x y) b l in
      let t = terms f x y n in
      (go (lt x b) (λ e. add_left x y p q n (total x b t.0 number e)), go (lt y b) (λ e. add_right x y p q n (total y b t.1 number e)))
    where
      number : T (not (is_nan b))
      number = positive-number b B

      go : (w : Bool) → (w ≡ false → T (le b (add f x y))) → w ≡ true
      go true h = refl
      go false h = absurd (true≢false (sym l ∙ apart b (add f x y) B (h refl)))

-- ---- a square

-- a value of a format is a multiple of the format's least
fits-down : (f : Format) (s : Bool) (m : ℕ) (e : ℤ) → T (fits f (fin s (suc m) e)) → down e ≤ 2 ^ low f
unfolding fits
fits-down f s m e h =
    let A = eqb (suc m % 2) 1 && ltb (suc m) (2 ^ prec f) in
    let B = leb (down e) (2 ^ low f) in
    leb→le (down e) (2 ^ low f) (and_r A B (and_l (A && B) (ltb (suc m * up e) (2 ^ suc (emax f) * down e)) h))

-- 2^-298, the square of the least f32
abbrev least : Float
least = fin false 1 (negsuc 297)

least_fits : T (fits binary64 least)
unfolding fits
least_fits = tt

square-some : (m : ℕ) (e : ℤ) → down e ≤ 2 ^ 149 → Zero (round binary64 false (suc m * up e * (suc m * up e)) (down e * down e)) → ⊥
square-some m e h =
    let u = suc m * up e in
    let U : 0 < u = mul-pos (zero-lt-suc m) (up_pos e) in
    round-some binary64 least (u * u) (down e * down e) tt least_fits (mul-pos (down_pos e) (down_pos e)) (mul-le-mul (mul-pos U U) (mul-le-mul h h))

pub zero-of-square : {x : Float} → T (fits binary32 x) → Zero (mul binary64 x x) → Zero x
unfolding mul
zero-of-square {x = nan} h z = z
zero-of-square {x = inf s} h z = absurd z.zero
zero-of-square {x = fin s zero e} h z = record { zero = tt }
zero-of-square {x = fin true (suc m) e} h z = absurd (square-some m e (fits-down binary32 true m e h) z)
zero-of-square {x = fin false (suc m) e} h z = absurd (square-some m e (fits-down binary32 false m e h) z)
