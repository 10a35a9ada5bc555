-- What becomes of zeros in each operation, for either format. Assumes nothing.
use Rattle.std.proofs.Common.{◌≡◌, ℕ, zero, suc, ◌-◌, ◌*◌, ◌/◌, ◌^◌, ◌<◌, Bool, true, false, not, ◌&&◌, T, eqb, ℤ, pos, sym, refl, ap, ◌∙◌, subst, true≢false, mul-pos, mul-zero, zero-mul, mul-one, eqb-true}
use native.Mathlib.Nat.{zero-sub as nat-zero-sub, div-eq_of_lt}
use lib.Ieee.{Float, nan, inf, fin, Format, binary32, binary64, prec, low, unlike, up, down, size, units, round, neg, sum, add, sub, mul, eq, ne}
use lib.Ieee.Fits.{core, round_is, down_pos}
use lib.Ieee.Nearest.{closest}
use Rattle.numbers.specs.Narrowing.{narrow_of}
use Rattle.numbers.specs.Finite.{plus, is_finite}
use Rattle.numbers.proofs.Tests.{some_size}
use Rattle.numbers.proofs.Rounding.{closest-none}
use Rattle.numbers.specs.Zeros.{is_zero, is_faint, Zero, Faint, Plus, Blank, Finite}

-- ---- a fraction that is 0 is rounded to a zero of its sign

size_none : (f : Format) → size 0 - prec f ≡ 0
unfolding size
size_none f = nat-zero-sub (prec f)

units-none : (f : Format) (s : Bool) → units f s 0 0 ≡ fin s 0 (pos 0)
unfolding units
units-none binary32 s = refl
units-none binary64 s = refl

pub round-none : (f : Format) (s : Bool) (c : ℕ) → 0 < c → round f s 0 c ≡ fin s 0 (pos 0)
round-none f s c C =
    round_is f s 0 c
    ∙ ap (λ (n : ℕ). core f s n c (size (n / c) - prec f)) (zero-mul (2 ^ low f))
    ∙ ap (λ (q : ℕ). core f s 0 c (size q - prec f)) (div-eq_of_lt C)
    ∙ ap (λ (k : ℕ). core f s 0 c k) (size_none f)
    ∙ ap (λ (q : ℕ). units f s q 0) (ap (closest 0) (mul-one c) ∙ closest-none 0 c C)
    ∙ units-none f s

abbrev nil : Bool → Float
nil s = fin s 0 (pos 0)

dens : (e d : ℤ) → 0 < down e * down d
dens e d = mul-pos (down_pos e) (down_pos d)

round-nil : (f : Format) (s : Bool) (a : ℕ) (e d : ℤ) → a ≡ 0 → round f s a (down e * down d) ≡ nil s
round-nil f s a e d h = ap (λ (n : ℕ). round f s n (down e * down d)) h ∙ round-none f s (down e * down d) (dens e d)

-- ---- a zero and a finite number

none_of : (a b : ℕ) → 0 * a * b ≡ 0
none_of a b = simp zero-mul

none-by : (a b : ℕ) → a * (0 * b) ≡ 0
none-by a b = simp (zero-mul, mul-zero)

pub nil-mul : (f : Format) (s t : Bool) (n : ℕ) (e d : ℤ) → mul f (fin s 0 e) (fin t n d) ≡ nil (unlike s t)
unfolding mul
nil-mul f s t n e d = round-nil f (unlike s t) (0 * up e * (n * up d)) e d (none_of (up e) (n * up d))

pub mul-nil : (f : Format) (s t : Bool) (m : ℕ) (e d : ℤ) → mul f (fin s m e) (fin t 0 d) ≡ nil (unlike s t)
unfolding mul
mul-nil f s t m e d = round-nil f (unlike s t) (m * up e * (0 * up d)) e d (none-by (m * up e) (up d))

sum-nil : (f : Format) (s t : Bool) (c : ℕ) → 0 < c → sum f s 0 t 0 c ≡ nil (s && t)
unfolding sum
sum-nil f true true c C = round-none f true c C
sum-nil f true false c C = round-none f false c C
sum-nil f false true c C = round-none f false c C
sum-nil f false false c C = round-none f false c C

pub add-nil : (f : Format) (s t : Bool) (e d : ℤ) → add f (fin s 0 e) (fin t 0 d) ≡ nil (s && t)
unfolding add
add-nil f s t e d =
    ap (λ (a : ℕ). sum f s a t (0 * up d * down e) (down e * down d)) (none_of (up e) (down d))
    ∙ ap (λ (b : ℕ). sum f s 0 t b (down e * down d)) (none_of (up d) (down e))
    ∙ sum-nil f s t (down e * down d) (dens e d)

pub narrow-nil : (s : Bool) (e : ℤ) → narrow_of (fin s 0 e) ≡ nil s
unfolding narrow_of
narrow-nil s e = ap (λ (n : ℕ). round binary32 s n (down e)) (zero-mul (up e)) ∙ round-none binary32 s (down e) (down_pos e)

-- ---- zeros of either sign

nil-zero : (x : Float) (s : Bool) → x ≡ nil s → Zero x
nil-zero x s e = record { zero = subst (λ (y : Float). T (is_zero y)) (sym e) tt }

nil-faint : (x : Float) (s : Bool) → x ≡ nil s → Faint x
nil-faint x s e = record { faint = subst (λ (y : Float). T (is_faint y)) (sym e) tt }

pub plus-zero : {x : Float} → Plus x → Zero x
plus-zero {x} h = nil-zero x false h.is

pub zero-faint : {x : Float} → Zero x → Faint x
zero-faint {x = nan} h = record { faint = tt }
zero-faint {x = inf s} h = absurd h.zero
zero-faint {x = fin s zero e} h = record { faint = tt }
zero-faint {x = fin s (suc m) e} h = absurd h.zero

pub zero-finite : {x : Float} → Zero x → Finite x
unfolding is_finite
zero-finite {x = nan} h = absurd h.zero
zero-finite {x = inf s} h = absurd h.zero
zero-finite {x = fin s m e} h = record { finite = tt }

pub zero-neg : {x : Float} → Zero x → Zero (neg x)
unfolding neg
zero-neg {x = nan} h = absurd h.zero
zero-neg {x = inf s} h = absurd h.zero
zero-neg {x = fin s zero e} h = record { zero = tt }
zero-neg {x = fin s (suc m) e} h = absurd h.zero

pub finite-neg : {x : Float} → Finite x → Finite (neg x)
unfolding is_finite neg
finite-neg {x = nan} h = absurd h.finite
finite-neg {x = inf s} h = absurd h.finite
finite-neg {x = fin s m e} h = record { finite = tt }

pub zero-add : (f : Format) {x y : Float} → Zero x → Zero y → Zero (add f x y)
zero-add f {x = nan} {y} h k = absurd h.zero
zero-add f {x = inf s} {y} h k = absurd h.zero
zero-add f {x = fin s (suc m) e} {y} h k = absurd h.zero
zero-add f {x = fin s zero e} {y = nan} h k = absurd k.zero
zero-add f {x = fin s zero e} {y = inf t} h k = absurd k.zero
zero-add f {x = fin s zero e} {y = fin t (suc n) d} h k = absurd k.zero
zero-add f {x = fin s zero e} {y = fin t zero d} h k = nil-zero (add f (fin s 0 e) (fin t 0 d)) (s && t) (add-nil f s t e d)

pub zero-sub : (f : Format) {x y : Float} → Zero x → Zero y → Zero (sub f x y)
unfolding sub
zero-sub f h k = zero-add f h (zero-neg k)

pub zero-mul-left : (f : Format) {x y : Float} → Zero x → Finite y → Zero (mul f x y)
unfolding is_finite
zero-mul-left f {x = nan} {y} h k = absurd h.zero
zero-mul-left f {x = inf s} {y} h k = absurd h.zero
zero-mul-left f {x = fin s (suc m) e} {y} h k = absurd h.zero
zero-mul-left f {x = fin s zero e} {y = nan} h k = absurd k.finite
zero-mul-left f {x = fin s zero e} {y = inf t} h k = absurd k.finite
zero-mul-left f {x = fin s zero e} {y = fin t n d} h k = nil-zero (mul f (fin s 0 e) (fin t n d)) (unlike s t) (nil-mul f s t n e d)

pub zero-mul-right : (f : Format) {x y : Float} → Finite x → Zero y → Zero (mul f x y)
unfolding is_finite
zero-mul-right f {x} {y = nan} k h = absurd h.zero
zero-mul-right f {x} {y = inf s} k h = absurd h.zero
zero-mul-right f {x} {y = fin s (suc m) e} k h = absurd h.zero
zero-mul-right f {x = nan} {y = fin s zero e} k h = absurd k.finite
zero-mul-right f {x = inf t} {y = fin s zero e} k h = absurd k.finite
zero-mul-right f {x = fin t n d} {y = fin s zero e} k h = nil-zero (mul f (fin t n d) (fin s 0 e)) (unlike t s) (mul-nil f t s n d e)

pub zero-narrow : {x : Float} → Zero x → Zero (narrow_of x)
zero-narrow {x = nan} h = absurd h.zero
zero-narrow {x = inf s} h = absurd h.zero
zero-narrow {x = fin s (suc m) e} h = absurd h.zero
zero-narrow {x = fin s zero e} h = nil-zero (narrow_of (fin s 0 e)) s (narrow-nil s e)

-- ---- zeros and NaNs: whatever a zero is multiplied by

pub faint-neg : {x : Float} → Faint x → Faint (neg x)
unfolding neg
faint-neg {x = nan} h = record { faint = tt }
faint-neg {x = inf s} h = absurd h.faint
faint-neg {x = fin s zero e} h = record { faint = tt }
faint-neg {x = fin s (suc m) e} h = absurd h.faint

pub faint-add : (f : Format) {x y : Float} → Faint x → Faint y → Faint (add f x y)
unfolding add
faint-add f {x = nan} {y} h k = record { faint = tt }
faint-add f {x = inf s} {y} h k = absurd h.faint
faint-add f {x = fin s (suc m) e} {y} h k = absurd h.faint
faint-add f {x = fin s zero e} {y = nan} h k = record { faint = tt }
faint-add f {x = fin s zero e} {y = inf t} h k = absurd k.faint
faint-add f {x = fin s zero e} {y = fin t (suc n) d} h k = absurd k.faint
faint-add f {x = fin s zero e} {y = fin t zero d} h k = nil-faint (add f (fin s 0 e) (fin t 0 d)) (s && t) (add-nil f s t e d)

pub faint-sub : (f : Format) {x y : Float} → Faint x → Faint y → Faint (sub f x y)
unfolding sub
faint-sub f h k = faint-add f h (faint-neg k)

pub faint-mul-left : (f : Format) {x : Float} (y : Float) → Faint x → Faint (mul f x y)
unfolding mul
faint-mul-left f {x = nan} y h = record { faint = tt }
faint-mul-left f {x = inf s} y h = absurd h.faint
faint-mul-left f {x = fin s (suc m) e} y h = absurd h.faint
faint-mul-left f {x = fin s zero e} nan h = record { faint = tt }
faint-mul-left f {x = fin s zero e} (inf t) h = record { faint = tt }
faint-mul-left f {x = fin s zero e} (fin t n d) h = nil-faint (mul f (fin s 0 e) (fin t n d)) (unlike s t) (nil-mul f s t n e d)

pub faint-mul-right : (f : Format) (x : Float) {y : Float} → Faint y → Faint (mul f x y)
unfolding mul
faint-mul-right f nan {y} h = record { faint = tt }
faint-mul-right f (inf t) {y = nan} h = record { faint = tt }
faint-mul-right f (inf t) {y = inf s} h = absurd h.faint
faint-mul-right f (inf t) {y = fin s zero e} h = record { faint = tt }
faint-mul-right f (inf t) {y = fin s (suc m) e} h = absurd h.faint
faint-mul-right f (fin t n d) {y = nan} h = record { faint = tt }
faint-mul-right f (fin t n d) {y = inf s} h = absurd h.faint
faint-mul-right f (fin t n d) {y = fin s zero e} h = nil-faint (mul f (fin t n d) (fin s 0 e)) (unlike t s) (mul-nil f t s n d e)
faint-mul-right f (fin t n d) {y = fin s (suc m) e} h = absurd h.faint

pub faint-narrow : {x : Float} → Faint x → Faint (narrow_of x)
unfolding narrow_of
faint-narrow {x = nan} h = record { faint = tt }
faint-narrow {x = inf s} h = absurd h.faint
faint-narrow {x = fin s (suc m) e} h = absurd h.faint
faint-narrow {x = fin s zero e} h = nil-faint (narrow_of (fin s 0 e)) s (narrow-nil s e)

-- ---- +0.0, to which a zero of either sign is added

pub plus-add : (f : Format) {x y : Float} → Plus x → Zero y → Plus (add f x y)
plus-add f {x} {y = nan} h k = absurd k.zero
plus-add f {x} {y = inf t} h k = absurd k.zero
plus-add f {x} {y = fin t (suc n) d} h k = absurd k.zero
plus-add f {x} {y = fin t zero d} h k = record { is = ap (λ (z : Float). add f z (fin t 0 d)) h.is ∙ add-nil f false t (pos 0) d }

pub plus-sub : (f : Format) {x y : Float} → Plus x → Zero y → Plus (sub f x y)
unfolding sub
plus-sub f h k = plus-add f h (zero-neg k)

-- times a number that is not negative
pub plus-mul : (f : Format) {x : Float} (y : Float) (m : ℕ) (e : ℤ) → y ≡ fin false m e → Plus x → Plus (mul f x y)
plus-mul f {x} y m e k h = record { is = ap (λ (z : Float). mul f z y) h.is ∙ ap (mul f plus) k ∙ nil-mul f false false m (pos 0) e }

pub plus-narrow : {x : Float} → Plus x → Plus (narrow_of x)
plus-narrow {x} h = record { is = ap narrow_of h.is ∙ narrow-nil false (pos 0) }

-- a zero's square
pub zero-square : (f : Format) {x : Float} → Zero x → Plus (mul f x x)
zero-square f {x = nan} h = absurd h.zero
zero-square f {x = inf s} h = absurd h.zero
zero-square f {x = fin s (suc m) e} h = absurd h.zero
zero-square f {x = fin true zero e} h = record { is = nil-mul f true true 0 e e }
zero-square f {x = fin false zero e} h = record { is = nil-mul f false false 0 e e }

-- +0.0 and a zero or a NaN: +0.0 where that is finite
pub plus-faint : (f : Format) {x y : Float} → Plus x → Faint y → Blank (add f x y)
unfolding is_finite add
plus-faint f {x} {y = nan} h k = record { clear = λ t. absurd (true≢false (sym (sym (ap (λ (z : Float). is_finite (add f z nan)) h.is) ∙ t))) }
plus-faint f {x} {y = inf s} h k = absurd k.faint
plus-faint f {x} {y = fin t (suc n) d} h k = absurd k.faint
plus-faint f {x} {y = fin t zero d} h k = record { clear = λ _. ap (λ (z : Float). add f z (fin t 0 d)) h.is ∙ add-nil f false t (pos 0) d }

-- for `search`
pub ruleset zeros = (zero-add, zero-sub, zero-mul-left, zero-mul-right, zero-neg, finite-neg, plus-zero)

pub ruleset faints = (faint-add, faint-sub, faint-mul-left, faint-mul-right, faint-neg)

pub ruleset pluses = (plus-add, plus-sub, zeros)

-- ---- what a comparison with +0.0 says

pub plus-blank : {x : Float} → Plus x → Blank x
plus-blank h = record { clear = λ _. h.is }

eq-none : (a b : ℕ) → a ≡ 0 → b ≡ 0 → eqb a b && eqb a 0 ≡ true
eq-none a b h k = ap (λ (x : ℕ). eqb x b && eqb x 0) h ∙ ap (λ (y : ℕ). eqb 0 y && eqb 0 0) k

pub zero-ne : {x : Float} → Zero x → ne x plus ≡ false
unfolding ne eq
zero-ne {x = nan} h = absurd h.zero
zero-ne {x = inf s} h = absurd h.zero
zero-ne {x = fin s (suc m) e} h = absurd h.zero
zero-ne {x = fin true zero e} h = ap not (eq-none (0 * up e * 1) (0 * down e) (none_of (up e) 1) (zero-mul (down e)))
zero-ne {x = fin false zero e} h = ap (λ (b : Bool). not (b && true)) (ap (λ (a : ℕ). eqb a (0 * down e)) (none_of (up e) 1) ∙ ap (eqb 0) (zero-mul (down e)))

level-true : (a b : ℕ) (t : Bool) → (eqb a b && t) ≡ true → a ≡ b
level-true a b t h = eqb-true a b (and-true (eqb a b) t h)
  where
    and-true : (a b : Bool) → (a && b) ≡ true → a ≡ true
    and-true true b h = refl
    and-true false b h = h

-- no sound: a sample that equals 0.0
pub zero-of-eq : (x : Float) → eq x plus ≡ true → Zero x
unfolding eq
zero-of-eq nan h = absurd (true≢false (sym h))
zero-of-eq (inf s) h = absurd (true≢false (sym h))
zero-of-eq (fin s zero e) h = record { zero = tt }
zero-of-eq (fin s (suc m) e) h = absurd (some_size m e (level-true (suc m * up e * 1) (0 * down e) _ h))

pub finite-true : {x : Float} → Finite x → is_finite x ≡ true
unfolding is_finite
finite-true {x = nan} h = absurd h.finite
finite-true {x = inf s} h = absurd h.finite
finite-true {x = fin s m e} h = refl
