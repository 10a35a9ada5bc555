-- Laws of narrowing. Assumes nothing.
--     narrow_exact   a value of binary32 is narrowed to itself
--     narrow-huge    "A size of 2^128 - 2^103 or more gives infinity of the same sign"
--     narrow-small   "2^-150 or less gives zero of the same sign"
use Rattle.std.proofs.Common.{◌≡◌, ℕ, zero, suc, ◌+◌, ◌-◌, ◌*◌, ◌/◌, ◌%◌, ◌^◌, ◌<◌, ◌≤◌, Bool, true, false, cond, T, ltb, ◌⊎◌, ℤ, pos, sym, refl, ap, ◌∙◌, subst, inl, inr, true≢false, le_trans, le_of_eq, mod-eq_of_lt, mul_assoc, eq-or-lt_of_le, mul-one, arith, pow_pos}
use native.Mathlib.Nat.{div-eq_of_lt}
use lib.Ieee.{Float, nan, inf, fin, Format, binary32, prec, emax, low, up, down, size, odd, units, round, le, fits}
use lib.Ieee.Fits.{core, round_is, down_pos}
use lib.Ieee.Nearest.{closest}
use lib.Ieee.Order.{round_mono}
use lib.Ieee.Scale.{finite}
use Rattle.numbers.proofs.Rounding.{cmp-eq, closest-none}
use Rattle.numbers.proofs.Values.{round-back}
use Rattle.numbers.specs.Narrowing.{narrow_of}

-- ---- narrowing

pub narrow_exact : (x : Float) → T (fits binary32 x) → narrow_of x ≡ x
unfolding narrow_of
narrow_exact nan h = refl
narrow_exact (inf s) h = refl
narrow_exact (fin s m e) h = round-back binary32 s m e h

-- ---- the two ends of narrowing

size_none : size 0 - 24 ≡ 0
unfolding size
size_none = refl

units-none : (s : Bool) → units binary32 s 0 0 ≡ fin s 0 (pos 0)
unfolding units
units-none s = refl

limit : round binary32 false (2 ^ 128 - 2 ^ 103) 1 ≡ inf false
unfolding round
limit = refl

only-inf : (x : Float) → T (le (inf false) x) → x ≡ inf false
unfolding le
only-inf nan h = absurd h
only-inf (inf true) h = absurd h
only-inf (inf false) h = refl
only-inf (fin s m e) h = absurd h

odd-finite : (d : ℕ) (s : Bool) (q k l : ℕ) → odd d s q k l ≡ inf s → ⊥
unfolding odd
odd-finite d s zero k l h = true≢false (ap finite h)
odd-finite d s (suc q) k l h = true≢false (ap finite h)

units-signed : (f : Format) (s : Bool) (q k : ℕ) → units f false q k ≡ inf false → units f s q k ≡ inf s
unfolding units
units-signed f s q k = go (ltb (q * 2 ^ k) (2 ^ (low f + suc (emax f))))
  where
    go : (b : Bool) → cond b (odd (suc (prec f)) false q k (low f)) (inf false) ≡ inf false → cond b (odd (suc (prec f)) s q k (low f)) (inf s) ≡ inf s
    go true h = absurd (odd-finite (suc (prec f)) false q k (low f) h)
    go false h = refl

sign-free : (s : Bool) (a c : ℕ) → round binary32 false a c ≡ inf false → round binary32 s a c ≡ inf s
sign-free s a c h = round_is binary32 s a c ∙ units-signed binary32 s _ _ (sym (round_is binary32 false a c) ∙ h)

-- up to 2 ^ -150: a zero of the same sign
half-none : (n c : ℕ) → 0 < c → n * 2 ≤ c → closest n c ≡ 0
half-none n c C h = go (eq-or-lt_of_le h)
  where
    l : n < c
    l = omega arith

    q : n / c ≡ 0
    q = div-eq_of_lt l

    r : n % c ≡ n
    r = mod-eq_of_lt l

    go : (n * 2 ≡ c) ⊎ (n * 2 < c) → closest n c ≡ 0
    go (inl e) = let z : n % c * 2 ≡ c = ap (λ (z : ℕ). z * 2) r ∙ e in rw (cmp-eq (n % c * 2) c, q)
    go (inr k) = closest-none n c k

pub narrow-small : (s : Bool) (m : ℕ) (e : ℤ) → m * up e * 2 ^ 150 ≤ down e → narrow_of (fin s m e) ≡ fin s 0 (pos 0)
unfolding narrow_of
narrow-small s m e h =
    let n = m * up e * 2 ^ 149 in
    let c = down e in
    let C : 0 < c = down_pos e in
    let k : n * 2 ≤ c = subst (λ (z : ℕ). z ≤ c) (sym (mul_assoc (m * up e) (2 ^ 149) 2)) h in
    let q : n / c ≡ 0 = div-eq_of_lt (below n c C k) in
    round_is binary32 s (m * up e) c
    ∙ ap (λ (z : ℕ). core binary32 s n c (size z - 24)) q
    ∙ ap (λ (z : ℕ). core binary32 s n c z) none
    ∙ ap (λ (z : ℕ). units binary32 s z 0) (ap (closest n) (mul-one c) ∙ half-none n c C k)
    ∙ at_zero s
  where
    below : (n c : ℕ) → 0 < c → n * 2 ≤ c → n < c
    below n c C k = omega arith

    none : size 0 - 24 ≡ 0
    none = size_none

    at_zero : (s : Bool) → units binary32 s 0 0 ≡ fin s 0 (pos 0)
    at_zero s = units-none s

-- from 2 ^ 128 - 2 ^ 103 on: an infinity of the same sign
pub narrow-huge : (s : Bool) (m : ℕ) (e : ℤ) → (2 ^ 128 - 2 ^ 103) * down e ≤ m * up e → narrow_of (fin s m e) ≡ inf s
unfolding narrow_of
narrow-huge s m e h = sign-free s (m * up e) (down e) (only-inf (round binary32 false (m * up e) (down e)) (subst (λ (z : Float). T (le z (round binary32 false (m * up e) (down e)))) limit (round_mono binary32 (2 ^ 128 - 2 ^ 103) 1 (m * up e) (down e) (pow_pos 0) (down_pos e) (le_trans h (le_of_eq (sym (mul-one (m * up e))))))))
