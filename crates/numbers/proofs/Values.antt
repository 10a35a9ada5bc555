-- A value of a format is known by its sign and its size, and is rounded to itself. Assumes nothing.
--     unique        two values of a format with one sign and one size are the same
--     round-back    a value of a format, rounded to that format, is itself; round-to by any fraction of that size
--     sub-zero      x - 0.0 is x, at every x, -0.0 included
--     mul-value, sub-value    a product and a difference of numbers that are known as fractions, before they are rounded
--     rescale       from one fraction to another of the same size
--     finite-is     x - x is 0.0 exactly where x is finite
use Rattle.std.proofs.Common.{◌≡◌, ℕ, zero, suc, ◌+◌, ◌-◌, ◌*◌, ◌/◌, ◌%◌, ◌^◌, ◌<◌, ◌≤◌, Bool, true, false, cond, not, ◌&&◌, T, eqb, ltb, leb, ℤ, pos, negsuc, sym, refl, ap, ◌∙◌, subst, zero-le, le_of_eq, le_refl, lt_of_lt_of_le, add-zero, le_of_lt, lt_irrefl, mul_assoc, mul_comm, add_comm, lt_of_mul-lt-mul_right, mul-lt-mul_of_pos_right, mul-pos, lt_of_not-le, zero-mul, mul-one, mul_right_comm, arith, eqb→eq, ltb→lt, leb→le, pow_pos, pow-add, shl_lt, le-ltb, lt-ltb}
use native.Mathlib.Nat.{mul-mul-mul_comm, mul-sub, eq_of_mul-eq-mul_right, sub-zero as nat-sub-zero, sub_self}
use lib.Pow.{pow-lt}
use lib.Ieee.{Float, nan, inf, fin, Format, prec, emax, low, hid, top, unlike, up, down, size, round, sum, neg, add, sub, mul, fits, of_bits, to_bits, eq}
use lib.Ieee.Fits.{round-fits, and_l, and_r, down_pos}
use lib.Ieee.Bits.{of_bits-to_bits}
use lib.Ieee.Exact.{HasValue, round_exact}
use lib.Ieee.Nearest.{div_same}
use lib.Ieee.Scale.{round_same}
use Rattle.numbers.proofs.Tests.{plain}
use Rattle.numbers.specs.Finite.{is_finite}

-- ---- a value is known by its sign and its size

abbrev pattern : Format → Bool → ℕ → ℕ
pattern f s n = cond s (top f) 0 + (size n - prec f) * hid f + n / 2 ^ (size n - prec f)

bits_of_value : (f : Format) (x : Float) (s : Bool) (a c : ℕ) → 0 < c → HasValue x s a c → to_bits f x ≡ pattern f s (a * 2 ^ low f / c)
unfolding to_bits
bits_of_value f nan s a c C h = absurd h
bits_of_value f (inf t) s a c C h = absurd h
bits_of_value f (fin t m e) s a c C h =
    let l = 2 ^ low f in
    ap (pattern f t) (div_same (m * up e * l) (down e) (a * l) c (down_pos e) C (mul_right_comm (m * up e) l c ∙ ap (λ (z : ℕ). z * l) h.1 ∙ mul_right_comm a (down e) l))
    ∙ ap (λ (b : Bool). pattern f b (a * l / c)) h.0

pub unique : (f : Format) (x y : Float) (s : Bool) (a c : ℕ) → 0 < c → T (fits f x) → T (fits f y) → HasValue x s a c → HasValue y s a c → x ≡ y
unique f x y s a c C p q h k = sym (of_bits-to_bits f x p) ∙ ap (of_bits f) (bits_of_value f x s a c C h ∙ sym (bits_of_value f y s a c C k)) ∙ of_bits-to_bits f y q

-- ---- a value of the format is rounded to itself

pub pow_le_back : (a l : ℕ) → 2 ^ a ≤ 2 ^ l → a ≤ l
pow_le_back a l h = lt-le (lt_of_not-le (λ (g : suc l ≤ a). lt_irrefl (2 ^ l) (lt_of_lt_of_le (pow-lt g) h)))
  where
    lt-le : a < suc l → a ≤ l
    lt-le k = omega arith

value-back : (f : Format) (s : Bool) (m : ℕ) (e : ℤ) → m < 2 ^ prec f → down e ≤ 2 ^ low f → m * up e < 2 ^ suc (emax f) * down e → HasValue (round f s (m * up e) (down e)) s (m * up e) (down e)
value-back f s m (pos a) M D U =
    round_exact f s (m * 2 ^ a) 1 m (a + low f) (pow_pos 0) M
    (subst (λ (z : ℕ). m * 2 ^ (a + low f) < z) (sym (pow-add 2 (suc (emax f)) (low f)) ∙ ap (λ (z : ℕ). 2 ^ z) (add_comm (suc (emax f)) (low f)))
    (subst (λ (z : ℕ). z < 2 ^ suc (emax f) * 2 ^ low f) (mul_assoc m (2 ^ a) (2 ^ low f) ∙ ap (λ (z : ℕ). m * z) (sym (pow-add 2 a (low f))))
    (mul-lt-mul_of_pos_right (lt_of_lt_of_le U (le_of_eq (mul-one (2 ^ suc (emax f))))) (pow_pos (low f)))))
    (mul_assoc m (2 ^ a) (2 ^ low f) ∙ ap (λ (z : ℕ). m * z) (sym (pow-add 2 a (low f))) ∙ sym (mul-one (m * 2 ^ (a + low f))))
value-back f s m (negsuc a) M D U =
    let l = low f in
    let h : suc a ≤ l = pow_le_back (suc a) l D in
    let j = l - suc a in
    let e : suc a + j ≡ l = omega arith in
    let e' : suc (emax f) + suc a + j ≡ l + suc (emax f) = omega arith in
    round_exact f s (m * 1) (2 ^ suc a) m j (pow_pos (suc a)) M
    (lt_of_lt_of_le (shl_lt (suc (emax f) + suc a) j (subst (λ (z : ℕ). z < 2 ^ (suc (emax f) + suc a)) (mul-one m) (subst (λ (z : ℕ). m * 1 < z) (sym (pow-add 2 (suc (emax f)) (suc a))) U))) (le_of_eq (ap (λ (z : ℕ). 2 ^ z) e')))
    (ap (λ (z : ℕ). z * 2 ^ l) (mul-one m) ∙ ap (λ (z : ℕ). m * z) (ap (λ (z : ℕ). 2 ^ z) (sym e) ∙ pow-add 2 (suc a) j ∙ mul_comm (2 ^ suc a) (2 ^ j)) ∙ sym (mul_assoc m (2 ^ j) (2 ^ suc a)))

abbrev Bounds : Format → ℕ → ℤ → Type 0
Bounds f m e = (m < 2 ^ prec f) × (down e ≤ 2 ^ low f) × (m * up e < 2 ^ suc (emax f) * down e)

fits-bounds : (f : Format) (s : Bool) (m : ℕ) (e : ℤ) → T (fits f (fin s m e)) → Bounds f m e
unfolding fits
fits-bounds f s zero e h = subst (λ (z : ℤ). Bounds f 0 z) (sym (plain e (eqb→eq (up e * down e) 1 h))) (pow_pos (prec f), pow_pos (low f), lt_of_lt_of_le (pow_pos (suc (emax f))) (le_of_eq (sym (mul-one (2 ^ suc (emax f))))))
fits-bounds f s (suc m) e h =
    let A = eqb (suc m % 2) 1 in
    let B = ltb (suc m) (2 ^ prec f) in
    let C = leb (down e) (2 ^ low f) in
    let D = ltb (suc m * up e) (2 ^ suc (emax f) * down e) in (
      ltb→lt (suc m) (2 ^ prec f) (and_r A B (and_l (A && B) C (and_l (A && B && C) D h))),
      leb→le (down e) (2 ^ low f) (and_r (A && B) C (and_l (A && B && C) D h)),
      ltb→lt (suc m * up e) (2 ^ suc (emax f) * down e) (and_r (A && B && C) D h),
    )

pub round-back : (f : Format) (s : Bool) (m : ℕ) (e : ℤ) → T (fits f (fin s m e)) → round f s (m * up e) (down e) ≡ fin s m e
round-back f s m e h =
    let b = fits-bounds f s m e h in
    unique f (round f s (m * up e) (down e)) (fin s m e) s (m * up e) (down e) (down_pos e) (round-fits f s (m * up e) (down e)) h (value-back f s m e b.0 b.1 b.2) (refl, refl)

-- the same by any fraction of that size
pub round-to : (f : Format) (s : Bool) (m : ℕ) (e : ℤ) (a c : ℕ) → 0 < c → T (fits f (fin s m e)) → m * up e * c ≡ a * down e → round f s a c ≡ fin s m e
round-to f s m e a c C h v = sym (round_same f s (m * up e) (down e) a c (down_pos e) C v) ∙ round-back f s m e h

-- ---- x - 0.0

one_more : (e : ℤ) → 0 < down e * 1
one_more e = subst (λ (z : ℕ). 0 < z) (sym (mul-one (down e))) (down_pos e)

pub sub-zero : (f : Format) (x : Float) → T (fits f x) → sub f x (fin false 0 (pos 0)) ≡ x
unfolding sub
sub-zero f nan h = refl
sub-zero f (inf s) h = refl
sub-zero f (fin true m e) h = round-to f true m e (m * up e * 1 + 0 * down e) (down e * 1) (one_more e) h (simp (mul-one, zero-mul, add-zero))
sub-zero f (fin false m e) h =
    ap (λ (b : Bool). cond b (round f true (0 * down e - m * up e * 1) (down e * 1)) (round f false (m * up e * 1 - 0 * down e) (down e * 1))) (le-ltb (m * up e * 1) (0 * down e) (subst (λ (z : ℕ). z ≤ m * up e * 1) (sym (zero-mul (down e))) zero-le))
    ∙ round-to f false m e (m * up e * 1 - 0 * down e) (down e * 1) (one_more e) h (simp (mul-one, zero-mul, nat-sub-zero))

-- ---- a product and a difference of numbers that are known as fractions

pub mul-value : (f : Format) (x y : Float) (s t : Bool) (a c b d : ℕ) → 0 < c → 0 < d → HasValue x s a c → HasValue y t b d → mul f x y ≡ round f (unlike s t) (a * b) (c * d)
unfolding mul
mul-value f nan y s t a c b d C D h k = absurd h
mul-value f (inf u) y s t a c b d C D h k = absurd h
mul-value f (fin u m e) nan s t a c b d C D h k = absurd k
mul-value f (fin u m e) (inf v) s t a c b d C D h k = absurd k
mul-value f (fin u m e) (fin v n g) s t a c b d C D h k =
    round_same f (unlike u v) (m * up e * (n * up g)) (down e * down g) (a * b) (c * d) (mul-pos (down_pos e) (down_pos g)) (mul-pos C D)
    (mul-mul-mul_comm (m * up e) (n * up g) c d ∙ ap (λ (z : ℕ). z * (n * up g * d)) h.1 ∙ ap (λ (z : ℕ). a * down e * z) k.1 ∙ mul-mul-mul_comm a (down e) b (down g))
    ∙ ap (λ (z : Bool). round f (unlike z v) (a * b) (c * d)) h.0
    ∙ ap (λ (z : Bool). round f (unlike s z) (a * b) (c * d)) k.0

pub sub-mul : (a b c : ℕ) → (a - b) * c ≡ a * c - b * c
sub-mul a b c = mul_comm (a - b) c ∙ mul-sub c a b ∙ ap (λ (z : ℕ). z - c * b) (mul_comm c a) ∙ ap (λ (z : ℕ). a * c - z) (mul_comm c b)

-- of two with one sign, the larger first
sum_less : (f : Format) (s : Bool) (a b c : ℕ) → b < a → sum f s a (not s) b c ≡ round f s (a - b) c
unfolding sum
sum_less f true a b c h = rw (le-ltb a b (le_of_lt h), lt-ltb b a h)
sum_less f false a b c h = rw (le-ltb a b (le_of_lt h))

pub sub-value : (f : Format) (x y : Float) (s : Bool) (a b c : ℕ) → 0 < c → HasValue x s a c → HasValue y s b c → b < a → sub f x y ≡ round f s (a - b) c
unfolding sub add neg
sub-value f nan y s a b c C h k l = absurd h
sub-value f (inf u) y s a b c C h k l = absurd h
sub-value f (fin u m e) nan s a b c C h k l = absurd k
sub-value f (fin u m e) (inf v) s a b c C h k l = absurd k
sub-value f (fin u m e) (fin v n g) s a b c C h k l =
    let A = m * up e * down g in
    let B = n * up g * down e in
    let W = down e * down g in
    let p : A * c ≡ a * W = mul_right_comm (m * up e) (down g) c ∙ ap (λ (z : ℕ). z * down g) h.1 ∙ mul_assoc a (down e) (down g) in
    let q : B * c ≡ b * W = mul_right_comm (n * up g) (down e) c ∙ ap (λ (z : ℕ). z * down e) k.1 ∙ mul_assoc b (down g) (down e) ∙ ap (λ (z : ℕ). b * z) (mul_comm (down g) (down e)) in
    let less : B * c < A * c = subst (λ (z : ℕ). z < A * c) (sym q) (subst (λ (z : ℕ). b * W < z) (sym p) (mul-lt-mul_of_pos_right l (mul-pos (down_pos e) (down_pos g)))) in
    ap (λ (z : Bool). sum f z A (not v) B W) h.0
    ∙ ap (λ (z : Bool). sum f s A (not z) B W) k.0
    ∙ sum_less f s A B W (lt_of_mul-lt-mul_right c less)
    ∙ round_same f s (A - B) W (a - b) c (mul-pos (down_pos e) (down_pos g)) C (sub-mul A B c ∙ ap (λ (z : ℕ). z - B * c) p ∙ ap (λ (z : ℕ). a * W - z) q ∙ sym (sub-mul a b W))

-- from one fraction to another of the same size
pub rescale : (x : Float) (s : Bool) (w l num den : ℕ) → 0 < l → num * l ≡ w * den → HasValue x s w l → HasValue x s num den
rescale nan s w l num den p h v = v
rescale (inf t) s w l num den p h v = v
rescale (fin t m e) s w l num den p h v = (
  v.0,
  eq_of_mul-eq-mul_right l p (m * up e * den) (num * down e)
      (mul_right_comm (m * up e) den l
      ∙ ap (λ (x : ℕ). x * den) v.1
      ∙ mul_right_comm w (down e) den
      ∙ ap (λ (x : ℕ). x * down e) (sym h)
      ∙ mul_right_comm num l (down e)),
)

-- ---- x - x

zero-to : (f : Format) (c : ℕ) → 0 < c → T (fits f (fin false 0 (pos 0))) → round f false 0 c ≡ fin false 0 (pos 0)
zero-to f c C h = round-to f false 0 (pos 0) 0 c C h (ap (λ (z : ℕ). z * c) (zero-mul 1) ∙ zero-mul c ∙ sym (zero-mul 1))

-- two sizes that are one, the second taken off
pub less-itself : (f : Format) (s : Bool) (a c : ℕ) → 0 < c → T (fits f (fin false 0 (pos 0))) → sum f s a (not s) a c ≡ fin false 0 (pos 0)
unfolding sum
less-itself f true a c C h = rw (le-ltb a a (le_refl a), sub_self a) (zero-to f c C h)
less-itself f false a c C h = rw (le-ltb a a (le_refl a), sub_self a) (zero-to f c C h)

pub finite-is : (f : Format) (x : Float) → T (fits f (fin false 0 (pos 0))) → eq (sub f x x) (fin false 0 (pos 0)) ≡ is_finite x
unfolding sub add neg eq is_finite
finite-is f nan h = refl
finite-is f (inf true) h = refl
finite-is f (inf false) h = refl
finite-is f (fin s m e) h = ap (λ (z : Float). eq z (fin false 0 (pos 0))) (less-itself f s (m * up e * down e) (down e * down e) (mul-pos (down_pos e) (down_pos e)) h)
