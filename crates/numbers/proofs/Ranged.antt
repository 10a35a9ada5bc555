-- Products and quotients of numbers between 0 and 1, and of powers. Assumes nothing.
--     unit-mul, unit-div       a product of two, and a quotient x / y of an x up to y, are between 0 and 1 again
--     power-square, power-add, power_div     a square is a power, whatever was squared; sums, and quotients by what is above 0, are powers
--     unit-min                 a power held to 1 is between 0 and 1, at a NaN too
--     number-div               a finite number by one above 0 is no NaN
use Rattle.std.proofs.Common.{◌≡◌, ℕ, zero, suc, ◌+◌, ◌-◌, ◌*◌, ◌<◌, ◌≤◌, Bool, true, false, cond, ◌&&◌, ◌||◌, T, eqb, ltb, ℤ, pos, sym, refl, ap, ◌∙◌, subst, true≢false, lt_irrefl, zero-lt-suc, mul-le-mul, mul-pos, zero-mul, mul-one, arith, eqb→eq, ltb→lt, lt→ltb, pow_pos, ne_eqb}
use lib.Ieee.{Float, nan, inf, fin, Format, binary32, binary64, unlike, up, down, below, level, round, sum, add, mul, div, lt, le, fits, is_nan}
use lib.Ieee.Fits.{down_pos, up_pos, and_l}
use lib.Ieee.Order.{round_mono}
use lib.Ieee.Positive.{positive, above, le→cross, mul_mono}
use Rattle.laws.specs.Choice.{pick-if}
use Rattle.numbers.specs.Finite.{plus, is_finite}
use Rattle.numbers.specs.Order.{min_of}
use Rattle.numbers.specs.Ranges.{one, Unit, is_power, Power}
use Rattle.numbers.specs.Zeros.{Finite}
use Rattle.numbers.proofs.Zeros.{round-none, nil-mul, mul-nil}
use Rattle.numbers.proofs.Ordered.{total, le-self}
use Rattle.numbers.proofs.Values.{round-to}
use Rattle.numbers.proofs.Tests.{round-no-nan}

-- ---- a fraction up to 1, rounded

round-one : (f : Format) → round f false 1 1 ≡ one
unfolding round
round-one binary32 = refl
round-one binary64 = refl

round-plus : (f : Format) (a c : ℕ) → 0 < c → T (le plus (round f false a c))
round-plus f a c C = subst (λ (z : Float). T (le z (round f false a c))) (round-none f false 1 (pow_pos 0)) (round_mono f 0 1 a c (pow_pos 0) C (omega (arith, zero-mul c)))

pub round-unit : (f : Format) (a c : ℕ) → 0 < c → a ≤ c → Unit (round f false a c)
round-unit f a c C h = record {
  low = round-plus f a c C;
  high = subst (λ (z : Float). T (le (round f false a c) z)) (round-one f) (round_mono f a c 1 1 C (pow_pos 0) (omega arith));
}

one_unit : Unit one
unfolding le
one_unit = record { low = tt; high = tt }

above-one : true ≡ lt one (inf false)
unfolding lt
above-one = refl

-- ---- a zero, of either sign and at any exponent

none_of : (a b : ℕ) → 0 * a * b ≡ 0
none_of a b = simp zero-mul

or_l : (a b : Bool) → T a → T (a || b)
or_l true b h = tt
or_l false b h = absurd h

level-none : (s t : Bool) (a b : ℕ) → a ≡ 0 → b ≡ 0 → T (below s a t b || level s a t b)
level-none s t a b p q = subst (λ (z : ℕ). T (below s z t b || level s z t b)) (sym p) (subst (λ (z : ℕ). T (below s 0 t z || level s 0 t z)) (sym q) (both s t))
  where
    both : (s t : Bool) → T (below s 0 t 0 || level s 0 t 0)
    both true true = tt
    both true false = tt
    both false true = tt
    both false false = tt

below-some : (s : Bool) (a b : ℕ) → a ≡ 0 → 0 < b → T (below s a false b)
below-some true a b p h = lt→ltb 0 (a + b) (omega arith)
below-some false a b p h = lt→ltb a b (omega arith)

-- a zero is at most what is above 0
zero-le-some : (s : Bool) (e : ℤ) (n : ℕ) (d : ℤ) → T (le (fin s 0 e) (fin false (suc n) d))
unfolding le
zero-le-some s e n d =
    or_l (below s (0 * up e * down d) false (suc n * up d * down e)) (level s (0 * up e * down d) false (suc n * up d * down e))
    (below-some s (0 * up e * down d) (suc n * up d * down e) (none_of (up e) (down d)) (mul-pos (mul-pos (zero-lt-suc n) (up_pos d)) (down_pos e)))

zero-equal : (s : Bool) (e : ℤ) → T (le plus (fin s 0 e))
unfolding le
zero-equal s e = level-none false s (0 * 1 * down e) (0 * up e * 1) (none_of 1 (down e)) (none_of (up e) 1)

zero-unit : (s : Bool) (e : ℤ) → Unit (fin s 0 e)
zero-unit s e = record { low = zero-equal s e; high = zero-le-some s e 0 (pos 0) }

above-none : (m : ℕ) (e : ℤ) → T (positive (fin false (suc m) e))
above-none m e = lt→ltb 0 (suc m) (zero-lt-suc m)

-- ---- what a number between 0 and 1 is: a zero, or a fraction up to 1

data Small : Float → Type 0 where
  none : {s : Bool} {e : ℤ} → Small (fin s 0 e)
  some : {m : ℕ} {e : ℤ} → suc m * up e ≤ down e → Small (fin false (suc m) e)

-- no number below 0 is at least 0
no_size : (m : ℕ) (e : ℤ) → T (le plus (fin true (suc m) e)) → ⊥
unfolding le
no_size m e h =
    let k = eqb→eq (0 * down e) (suc m * up e * 1) (and_l (eqb (0 * down e) (suc m * up e * 1)) (eqb (0 * down e) 0) h) in
    lt_irrefl 0 (subst (λ (z : ℕ). 0 < z) (sym (mul-one (suc m * up e)) ∙ sym k ∙ zero-mul (down e)) (mul-pos (zero-lt-suc m) (up_pos e)))

small : (x : Float) → Unit x → Small x
small nan u = unfold le in absurd u.low
small (inf true) u = unfold le in absurd u.low
small (inf false) u = unfold le in absurd u.high
small (fin s zero e) u = none
small (fin true (suc m) e) u = absurd (no_size m e u.low)
small (fin false (suc m) e) u = some (bound (le→cross (fin false (suc m) e) one (above-none m e) tt u.high))
  where
    bound : suc m * up e * 1 ≤ 1 * 1 * down e → suc m * up e ≤ down e
    bound h = omega arith

-- ---- products

small_mul : (f : Format) (x y : Float) → Small x → Small y → Unit (mul f x y)
small_mul f (fin s zero e) (fin t n d) none q = subst Unit (sym (nil-mul f s t n e d)) (zero-unit (unlike s t) (pos 0))
small_mul f (fin false (suc m) e) (fin t zero d) (some a) none = subst Unit (sym (mul-nil f false t (suc m) e d)) (zero-unit (unlike false t) (pos 0))
small_mul f nan y p q = elim p [ ]
small_mul f (inf s) y p q = elim p [ ]
small_mul f (fin true (suc m) e) y p q = elim p [ ]
small_mul f (fin s zero e) nan p q = elim q [ ]
small_mul f (fin s zero e) (inf t) p q = elim q [ ]
small_mul f (fin false (suc m) e) nan p q = elim q [ ]
small_mul f (fin false (suc m) e) (inf t) p q = elim q [ ]
small_mul f (fin false (suc m) e) (fin true (suc n) d) p q = elim q [ ]
small_mul f (fin false (suc m) e) (fin false (suc n) d) (some a) (some b) =
    unfold mul in round-unit f (suc m * up e * (suc n * up d)) (down e * down d) (mul-pos (down_pos e) (down_pos d)) (mul-le-mul a b)

pub unit-mul : (f : Format) {x y : Float} → Unit x → Unit y → Unit (mul f x y)
unit-mul f {x} {y} h k = small_mul f x y (small x h) (small y k)

-- c times a number between 0 and 1
times-one : (f : Format) (c : Float) → T (positive c) → T (fits f c) → mul f c one ≡ c
unfolding mul
times-one f nan p h = absurd p
times-one f (inf s) p h = absurd p
times-one f (fin true m e) p h = absurd p
times-one f (fin false m e) p h = round-to f false m e (m * up e * (1 * 1)) (down e * 1) (subst (λ (z : ℕ). 0 < z) (sym (mul-one (down e))) (down_pos e)) h (simp mul-one)

small-scale : (f : Format) (c y : Float) → T (positive c) → T (fits f c) → Unit y → Small y → T (le (mul f c y) c)
small-scale f (fin false zero e) y p h u q = absurd p
small-scale f (fin false (suc m) e) (fin t zero d) p h u none = subst (λ (z : Float). T (le z (fin false (suc m) e))) (sym (mul-nil f false t (suc m) e d)) (zero-le-some (unlike false t) (pos 0) m e)
small-scale f (fin false (suc m) e) (fin false (suc n) d) p h u (some b) =
    let c = fin false (suc m) e in
    subst (λ (z : Float). T (le (mul f c (fin false (suc n) d)) z)) (times-one f c p h) (mul_mono f c c (fin false (suc n) d) one p p (above-none n d) tt (le-self c (unfold is_nan in tt)) u.high)
small-scale f (fin false (suc m) e) nan p h u q = elim q [ ]
small-scale f (fin false (suc m) e) (inf t) p h u q = elim q [ ]
small-scale f (fin false (suc m) e) (fin true (suc n) d) p h u q = elim q [ ]
small-scale f nan y p h u q = absurd p
small-scale f (inf s) y p h u q = absurd p
small-scale f (fin true m e) y p h u q = absurd p

-- ---- quotients

some-den : (n : ℕ) (d e : ℤ) → 0 < n → 0 < n * up d * down e
some-den n d e h = mul-pos (mul-pos h (up_pos d)) (down_pos e)

-- of two finite numbers, by one that is not 0
quotient : (f : Format) (s t : Bool) (m n : ℕ) (e d : ℤ) → 0 < n
    → div f (fin s m e) (fin t n d) ≡ round f (unlike s t) (m * up e * down d) (n * up d * down e)
unfolding div
quotient f s t m n e d h =
    ap (λ (b : Bool). cond b (cond (eqb m 0) nan (inf (unlike s t))) (round f (unlike s t) (m * up e * down d) (n * up d * down e))) (ne_eqb n 0 (λ (z : n ≡ 0). absurd (gone z)))
  where
    gone : n ≡ 0 → ⊥
    gone z = omega arith

none-quotient : (f : Format) (s t : Bool) (n : ℕ) (e d : ℤ) → 0 < n → div f (fin s 0 e) (fin t n d) ≡ fin (unlike s t) 0 (pos 0)
none-quotient f s t n e d h =
    quotient f s t 0 n e d h
    ∙ ap (λ (a : ℕ). round f (unlike s t) a (n * up d * down e)) (none_of (up e) (down d))
    ∙ round-none f (unlike s t) (n * up d * down e) (some-den n d e h)

-- x / y for an x from 0 to y
pub unit-div : (f : Format) (x y : Float) → T (positive y) → T (le plus x) → T (le x y) → Unit (div f x y)
unit-div f x nan p h k = absurd p
unit-div f x (inf t) p h k = absurd p
unit-div f x (fin true n d) p h k = absurd p
unit-div f nan (fin false n d) p h k = unfold le in absurd h
unit-div f (inf true) (fin false n d) p h k = unfold le in absurd h
unit-div f (inf false) (fin false n d) p h k = unfold le in absurd k
unit-div f (fin s zero e) (fin false n d) p h k = subst Unit (sym (none-quotient f s false n e d (ltb→lt 0 n p))) (zero-unit (unlike s false) (pos 0))
unit-div f (fin true (suc m) e) (fin false n d) p h k = absurd (no_size m e h)
unit-div f (fin false (suc m) e) (fin false n d) p h k =
    subst Unit (sym (quotient f false false (suc m) n e d (ltb→lt 0 n p)))
    (round-unit f (suc m * up e * down d) (n * up d * down e) (some-den n d e (ltb→lt 0 n p)) (le→cross (fin false (suc m) e) (fin false n d) (above-none m e) p k))

-- ---- powers

round-power : (f : Format) (a c : ℕ) → 0 < c → Power (round f false a c)
round-power f a c C = record { power = go (round f false a c) (round-plus f a c C) }
  where
    go : (x : Float) → T (le plus x) → T (is_power x)
    go nan h = tt
    go (inf true) h = unfold le in absurd h
    go (inf false) h = tt
    go (fin s zero e) h = tt
    go (fin true (suc m) e) h = absurd (no_size m e h)
    go (fin false (suc m) e) h = tt

nil-power : (x : Float) (s : Bool) → x ≡ fin s 0 (pos 0) → Power x
nil-power x s h = record { power = subst (λ (y : Float). T (is_power y)) (sym h) tt }

pub power-square : (f : Format) (x : Float) → Power (mul f x x)
unfolding mul
power-square f nan = record { power = tt }
power-square f (inf true) = record { power = tt }
power-square f (inf false) = record { power = tt }
power-square f (fin true m e) = round-power f (m * up e * (m * up e)) (down e * down e) (mul-pos (down_pos e) (down_pos e))
power-square f (fin false m e) = round-power f (m * up e * (m * up e)) (down e * down e) (mul-pos (down_pos e) (down_pos e))

-- a sum in which what is negative is 0
sum-power : (f : Format) (s : Bool) (a : ℕ) (t : Bool) (b c : ℕ) → 0 < c → (s ≡ true → a ≡ 0) → (t ≡ true → b ≡ 0) → Power (sum f s a t b c)
unfolding sum
sum-power f true a true b c C p q =
    nil-power (round f true (a + b) c) true (ap (λ (n : ℕ). round f true n c) (both (p refl) (q refl)) ∙ round-none f true c C)
  where
    both : a ≡ 0 → b ≡ 0 → a + b ≡ 0
    both h k = omega arith
sum-power f true a false b c C p q = go (ltb a b) (ltb b a) (ltb→lt b a)
  where
    none : b < a → a ≡ 0 → ⊥
    none h k = omega arith

    go : (u v : Bool) → (T v → b < a) → Power (cond u (round f false (b - a) c) (round f (true && v) (a - b) c))
    go true v h = round-power f (b - a) c C
    go false true h = absurd (none (h tt) (p refl))
    go false false h = round-power f (a - b) c C
sum-power f false a true b c C p q = go (ltb a b) (ltb→lt a b)
  where
    none : a < b → b ≡ 0 → ⊥
    none h k = omega arith

    go : (u : Bool) → (T u → a < b) → Power (cond u (round f true (b - a) c) (round f (false && ltb b a) (a - b) c))
    go true h = absurd (none (h tt) (q refl))
    go false h = round-power f (a - b) c C
sum-power f false a false b c C p q = round-power f (a + b) c C

-- the size of a power that is marked negative is 0
pub none_below : (s : Bool) (m : ℕ) (e : ℤ) (d : ℕ) → T (is_power (fin s m e)) → s ≡ true → m * up e * d ≡ 0
none_below s zero e d h k = none_of (up e) d
none_below true (suc m) e d h k = absurd h
none_below false (suc m) e d h k = absurd (true≢false (sym k))

pub power-add : (f : Format) {x y : Float} → Power x → Power y → Power (add f x y)
unfolding add
power-add f {x = nan} {y} h k = record { power = tt }
power-add f {x = inf s} {y = nan} h k = record { power = tt }
power-add f {x = inf true} {y = inf t} h k = absurd h.power
power-add f {x = inf false} {y = inf true} h k = record { power = tt }
power-add f {x = inf false} {y = inf false} h k = record { power = tt }
power-add f {x = inf s} {y = fin t n d} h k = record { power = h.power }
power-add f {x = fin s m e} {y = nan} h k = record { power = tt }
power-add f {x = fin s m e} {y = inf t} h k = record { power = k.power }
power-add f {x = fin s m e} {y = fin t n d} h k =
    sum-power f s (m * up e * down d) t (n * up d * down e) (down e * down d) (mul-pos (down_pos e) (down_pos d))
    (none_below s m e (down d) h.power) (none_below t n d (down e) k.power)

-- by what is above 0, an infinity included
pub power_div : (f : Format) {x : Float} (y : Float) → Power x → T (above y) → Power (div f x y)
power_div f {x} nan h p = absurd p
power_div f {x} (inf true) h p = absurd p
power_div f {x} (fin true n d) h p = absurd p
power_div f {x = nan} (inf false) h p = unfold div in record { power = tt }
power_div f {x = nan} (fin false n d) h p = unfold div in record { power = tt }
power_div f {x = inf true} (inf false) h p = absurd h.power
power_div f {x = inf false} (inf false) h p = unfold div in record { power = tt }
power_div f {x = inf true} (fin false n d) h p = absurd h.power
power_div f {x = inf false} (fin false n d) h p = unfold div in record { power = tt }
power_div f {x = fin s m e} (inf false) h p = unfold div in record { power = tt }
power_div f {x = fin s zero e} (fin false n d) h p = nil-power (div f (fin s 0 e) (fin false n d)) (unlike s false) (none-quotient f s false n e d (ltb→lt 0 n p))
power_div f {x = fin true (suc m) e} (fin false n d) h p = absurd h.power
power_div f {x = fin false (suc m) e} (fin false n d) h p =
    subst Power (sym (quotient f false false (suc m) n e d (ltb→lt 0 n p))) (round-power f (suc m * up e * down d) (n * up d * down e) (some-den n d e (ltb→lt 0 n p)))

-- a power held to 1; a NaN gives the 1
held : (x : Float) → Power x → Unit (min_of x one)
unfolding min_of is_nan
held nan h = pick-if Unit true (λ _. one_unit) (λ n. absurd (true≢false n))
held (inf true) h = absurd h.power
held (inf false) h = pick-if Unit false (λ n. absurd (true≢false (sym n))) (λ _. pick-if Unit (lt one (inf false)) (λ _. one_unit) (λ n. absurd (true≢false (above-one ∙ n))))
held (fin s zero e) h = pick-if Unit false (λ n. absurd (true≢false (sym n))) (λ _. pick-if Unit (lt one (fin s 0 e)) (λ _. one_unit) (λ _. zero-unit s e))
held (fin true (suc m) e) h = absurd h.power
held (fin false (suc m) e) h =
    pick-if Unit false (λ n. absurd (true≢false (sym n)))
    (λ _. pick-if Unit (lt one (fin false (suc m) e)) (λ _. one_unit)
    (λ l. record { low = zero-le-some false (pos 0) m e; high = total one (fin false (suc m) e) tt tt l }))

pub unit-min : {x : Float} → Power x → Unit (min_of x one)
unit-min {x} h = held x h

-- ---- no NaN

pub number-div : (f : Format) {x : Float} (y : Float) → Finite x → T (above y) → is_nan (div f x y) ≡ false
number-div f {x} nan h p = absurd p
number-div f {x} (inf true) h p = absurd p
number-div f {x} (fin true n d) h p = absurd p
number-div f {x = nan} (inf false) h p = unfold is_finite in absurd h.finite
number-div f {x = inf s} (inf false) h p = unfold is_finite in absurd h.finite
number-div f {x = nan} (fin false n d) h p = unfold is_finite in absurd h.finite
number-div f {x = inf s} (fin false n d) h p = unfold is_finite in absurd h.finite
number-div f {x = fin s m e} (inf false) h p = unfold div is_nan in refl
number-div f {x = fin s m e} (fin false n d) h p = ap is_nan (quotient f s false m n e d (ltb→lt 0 n p)) ∙ round-no-nan f (unlike s false) (m * up e * down d) (n * up d * down e)
