-- Tests on floats: what `x != x` says and a sum tells, that a narrowed number fits and is a NaN only where it was one, and the absolute value by two comparisons. Assumes nothing.
use Rattle.std.proofs.Common.{◌≡◌, ℕ, zero, suc, ◌+◌, ◌*◌, ◌%◌, ◌^◌, ◌<◌, ◌≤◌, Bool, true, false, cond, not, ◌&&◌, T, eqb, ltb, ℤ, pos, negsuc, sym, refl, ap, ◌∙◌, subst, true≢false, lt_irrefl, zero-lt-suc, mul-pos, one-mul, zero-mul, mul-one, arith, eqb→eq, pow_pos, ltb-false, ltb-true, le-ltb, lt-ltb, eq-eqb, eqb-true}
use native.Mathlib.Nat.{pow-succ'}
use lib.Ieee.{Float, nan, inf, fin, Format, binary32, prec, emax, low, hid, ones, top, up, down, odd, units, round, add, fits, is_nan, neg, lt, eq, ne, of_bits, to_bits, nan_bits}
use lib.Ieee.Fits.{round_is, round-fits, nan-fits, inf-fits, up_pos}
use lib.Ieee.Bits.{of_bits-to_bits, nan_bits_is, nan_bits_above}
use Rattle.numbers.specs.Order.{abs_of}
use Rattle.numbers.specs.Narrowing.{narrow_of}

-- only a NaN differs from itself
pub ne-self : (x : Float) → ne x x ≡ is_nan x
unfolding ne is_nan
ne-self nan = refl
ne-self (inf true) = refl
ne-self (inf false) = refl
ne-self (fin true m e) = ap (λ (b : Bool). not (b && true)) (eq-eqb (m * up e * down e) (m * up e * down e) refl)
ne-self (fin false m e) = ap (λ (b : Bool). not (b && true)) (eq-eqb (m * up e * down e) (m * up e * down e) refl)

pub is-nan : (x : Float) → ne x x ≡ true → x ≡ nan
unfolding is_nan
is-nan x e = go x (sym (ne-self x) ∙ e)
  where
    go : (x : Float) → is_nan x ≡ true → x ≡ nan
    go nan h = refl
    go (inf s) h = absurd (subst (λ (b : Bool). T (not b)) h tt)
    go (fin s m e) h = absurd (subst (λ (b : Bool). T (not b)) h tt)

pub nan-test : (x : Float) → is_nan x ≡ true → x ≡ nan
nan-test x h = is-nan x (ne-self x ∙ h)

pub no_nan : (x : Float) → ne x x ≡ false → T (not (is_nan x))
no_nan x e = subst (λ (b : Bool). T (not b)) (sym (sym (ne-self x) ∙ e)) tt

-- a sum that is no NaN has no term that is one
pub terms : (f : Format) (x y : Float) → T (not (is_nan (add f x y))) → T (not (is_nan x)) × T (not (is_nan y))
unfolding add is_nan
terms f nan y h = absurd h
terms f (inf s) nan h = absurd h
terms f (inf s) (inf t) h = (tt, tt)
terms f (inf s) (fin t n d) h = (tt, tt)
terms f (fin s m e) nan h = absurd h
terms f (fin s m e) (inf t) h = (tt, tt)
terms f (fin s m e) (fin t n d) h = (tt, tt)

-- ---- a narrowed number

pub narrow-fits : (x : Float) → T (fits binary32 (narrow_of x))
unfolding narrow_of
narrow-fits nan = nan-fits binary32
narrow-fits (inf s) = inf-fits binary32 s
narrow-fits (fin s m e) = round-fits binary32 s (m * up e) (down e)

odd_no_nan : (d : ℕ) (s : Bool) (q k l : ℕ) → is_nan (odd d s q k l) ≡ false
unfolding odd is_nan
odd_no_nan d s zero k l = refl
odd_no_nan d s (suc q) k l = refl

units-no-nan : (f : Format) (s : Bool) (q k : ℕ) → is_nan (units f s q k) ≡ false
unfolding units is_nan
units-no-nan f s q k = go (ltb (q * 2 ^ k) (2 ^ (low f + suc (emax f))))
  where
    go : (b : Bool) → is_nan (cond b (odd (suc (prec f)) s q k (low f)) (inf s)) ≡ false
    go true = odd_no_nan (suc (prec f)) s q k (low f)
    go false = refl

pub round-no-nan : (f : Format) (s : Bool) (a c : ℕ) → is_nan (round f s a c) ≡ false
round-no-nan f s a c = ap is_nan (round_is f s a c) ∙ units-no-nan f s _ _

pub narrow-nan : (x : Float) → is_nan (narrow_of x) ≡ is_nan x
unfolding narrow_of is_nan
narrow-nan nan = refl
narrow-nan (inf s) = refl
narrow-nan (fin s m e) = round-no-nan binary32 s (m * up e) (down e)

-- the pattern of a narrowed number is read as that number, and is a NaN's only where x is one
pub narrow_back : (x : Float) → of_bits binary32 (to_bits binary32 (narrow_of x)) ≡ narrow_of x
narrow_back x = of_bits-to_bits binary32 (narrow_of x) (narrow-fits x)

pub narrow-no-nan : (x : Float) → T (not (is_nan x)) → T (not (nan_bits binary32 (to_bits binary32 (narrow_of x))))
narrow-no-nan x h = subst (λ (b : Bool). T (not b)) (sym (nan_bits_is binary32 (to_bits binary32 (narrow_of x)) ∙ ap is_nan (narrow_back x) ∙ narrow-nan x)) h

-- ---- the absolute value, by `x < 0.0` and `x == 0.0`

abbrev zero_f : Float
zero_f = fin false 0 (pos 0)

not-below : (a b : ℕ) → b ≡ 0 → ltb a b ≡ true → ⊥
not-below a b z h = let l : a < b = ltb-true a b h in omega arith

pub abs_neg : (x : Float) → lt x zero_f ≡ true → neg x ≡ abs_of x
unfolding lt neg abs_of
abs_neg nan h = absurd (subst (λ (b : Bool). T (not b)) h tt)
abs_neg (inf true) h = refl
abs_neg (inf false) h = absurd (subst (λ (b : Bool). T (not b)) h tt)
abs_neg (fin true m e) h = refl
abs_neg (fin false m e) h = absurd (not-below (m * up e * 1) (0 * down e) (zero-mul (down e)) h)

-- 2 ^ e is 1 / 1 only for e = 0
no_power : (x y : ℕ) → x ≡ 2 * y → 0 < y → x ≡ 1 → ⊥
no_power x y e p h = omega arith

pub plain : (e : ℤ) → up e * down e ≡ 1 → e ≡ pos 0
plain (pos zero) h = refl
plain (pos (suc a)) h = absurd (no_power (2 ^ suc a) (2 ^ a) (pow-succ' 2 a) (pow_pos a) (sym (mul-one (2 ^ suc a)) ∙ h))
plain (negsuc a) h = absurd (no_power (2 ^ suc a) (2 ^ a) (pow-succ' 2 a) (pow_pos a) (sym (one-mul (2 ^ suc a)) ∙ h))

and-true : (a b : Bool) → (a && b) ≡ true → a ≡ true
and-true true b h = refl
and-true false b h = h

pub some_size : (m : ℕ) (e : ℤ) → suc m * up e * 1 ≡ 0 * down e → ⊥
some_size m e h = lt_irrefl 0 (subst (λ (z : ℕ). 0 < z) (sym (mul-one (suc m * up e)) ∙ h ∙ zero-mul (down e)) (mul-pos (zero-lt-suc m) (up_pos e)))

pub abs-zero : (f : Format) (x : Float) → T (fits f x) → eq x zero_f ≡ true → zero_f ≡ abs_of x
unfolding eq abs_of fits
abs-zero f nan t h = absurd (subst (λ (b : Bool). T (not b)) h tt)
abs-zero f (inf s) t h = absurd (subst (λ (b : Bool). T (not b)) h tt)
abs-zero f (fin s zero e) t h = ap (λ (z : ℤ). fin false 0 z) (sym (plain e (eqb→eq (up e * down e) 1 t)))
abs-zero f (fin s (suc m) e) t h = absurd (some_size m e (eqb-true (suc m * up e * 1) (0 * down e) (and-true _ _ h)))

abs-rest-fin : (a b : ℕ) → b ≡ 0 → ltb 0 (a + b) ≡ false → (eqb a b && eqb a 0) ≡ false → ⊥
abs-rest-fin a b z l h =
    let u : a + b ≤ 0 = ltb-false 0 (a + b) l in
    let p : a ≡ b = omega arith in
    let q : a ≡ 0 = omega arith in
    true≢false (sym (ap (λ (t : Bool). t && eqb a 0) (eq-eqb a b p) ∙ eq-eqb a 0 q) ∙ h)

pub abs-rest : (x : Float) → lt x zero_f ≡ false → eq x zero_f ≡ false → x ≡ abs_of x
unfolding lt eq abs_of
abs-rest nan l h = refl
abs-rest (inf true) l h = absurd (true≢false l)
abs-rest (inf false) l h = refl
abs-rest (fin true m e) l h = absurd (abs-rest-fin (m * up e * 1) (0 * down e) (zero-mul (down e)) l h)
abs-rest (fin false m e) l h = refl

-- ---- which patterns of a format are a NaN's: with the sign's bit taken off, those above the infinity's

pub bits-nan : (f : Format) (n : ℕ) → ones f * hid f < n % top f → of_bits f n ≡ nan
bits-nan f n h = nan-test (of_bits f n) (sym (nan_bits_is f n) ∙ nan_bits_above f n ∙ lt-ltb (ones f * hid f) (n % top f) h)

pub bits-no-nan : (f : Format) (n : ℕ) → n % top f ≤ ones f * hid f → T (not (nan_bits f n))
bits-no-nan f n h = subst (λ (b : Bool). T (not b)) (sym (nan_bits_above f n ∙ le-ltb (ones f * hid f) (n % top f) h)) tt
