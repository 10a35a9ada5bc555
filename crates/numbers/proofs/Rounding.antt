-- What the bits of a narrowed number are: from the fields of an f64 to those of the nearest f32. Assumes nothing.
use Rattle.std.proofs.Common.{◌≡◌, ℕ, zero, suc, ◌+◌, ◌-◌, ◌*◌, ◌/◌, ◌%◌, ◌^◌, ◌<◌, ◌≤◌, Bool, true, false, cond, not, T, eqb, ltb, leb, ◌⊎◌, sym, refl, ap, ◌∙◌, subst, inl, inr, le_trans, le_of_eq, le_refl, lt_of_lt_of_le, lt_of_le_of_lt, add_assoc, mul-le-mul_right, mod-lt, mod-eq_of_lt, mul_assoc, mul_comm, eq-or-lt_of_le, mul-le-mul_left, mul-pos, one-mul, lt_of_not-le, le-div_iff_mul-le, zero-add, not-le_of_lt, le_of_mul-le-mul_right, mul-div_cancel, add-one, arith, lit≤, eqb→eq, ltb→lt, leb→le, nltb→le, pow_pos, pow_mono, pow-add, shl_lt, shl_exact, shr_lt, le-ltb, lt-ltb, ne_eqb}
use Prim.Native.Nat.{compare, Ordering}
use native.Mathlib.Nat.{pow-succ', div-eq_of_lt}
use lib.Dec.{is_le, compare_is_eq, nleb→lt}
use lib.Pow.{pow-lt}
use lib.Ieee.{Float, nan, inf, fin, binary32, binary64, up, down, size, nearest, odd, units, round, fits, is_nan, of_fields, of_bits, to_bits}
use lib.Ieee.Digits.{size-lt, size-le}
use lib.Ieee.Fits.{core, round_is, down_pos, nearest-le, eq→eqb}
use lib.Ieee.Bits.{of_bits-to_bits, to_bits-lt}
use lib.Ieee.Exact.{HasValue, odd_sign, units_val}
use lib.Ieee.Nearest.{closest, closest_same, div_same, nearest-ge}
use lib.Ieee.Scale.{round_same}
use Rattle.laws.specs.Choice.{pick, lt-or-ge}
use Rattle.numbers.specs.Narrowing.{narrow_of, mag_of}
use Rattle.numbers.proofs.Values.{pow_le_back}

-- ---- `compare` and `closest`

cmp-lt : (a b : ℕ) → a < b → compare a b ≡ Ordering.lt
cmp-lt a b h = go (compare a b) (nleb→lt a b) (eqb→eq a b)
  where
    ne : a ≡ b → ⊥
    ne e = omega arith

    ng : b < a → ⊥
    ng g = omega arith

    go : (o : Ordering) → (T (not (is_le o)) → b < a) → (T (compare_is_eq o) → a ≡ b) → o ≡ Ordering.lt
    go Ordering.lt g e = refl
    go Ordering.eq g e = absurd (ne (e tt))
    go Ordering.gt g e = absurd (ng (g tt))

pub cmp-eq : (a b : ℕ) → a ≡ b → compare a b ≡ Ordering.eq
cmp-eq a b h = go (compare a b) (nleb→lt a b) (leb→le a b) (λ (e : a ≡ b). eq→eqb e)
  where
    ng : b < a → ⊥
    ng g = omega arith

    go : (o : Ordering) → (T (not (is_le o)) → b < a) → (T (is_le o) → a ≤ b) → (a ≡ b → T (compare_is_eq o)) → o ≡ Ordering.eq
    go Ordering.lt g l e = absurd (e h)
    go Ordering.eq g l e = refl
    go Ordering.gt g l e = absurd (ng (g tt))

cmp-gt : (a b : ℕ) → b < a → compare a b ≡ Ordering.gt
cmp-gt a b h = go (compare a b) (leb→le a b)
  where
    no : a ≤ b → ⊥
    no g = omega arith

    go : (o : Ordering) → (T (is_le o) → a ≤ b) → o ≡ Ordering.gt
    go Ordering.lt g = absurd (no (g tt))
    go Ordering.eq g = absurd (no (g tt))
    go Ordering.gt g = refl

-- by what is left over, compared with what is missing
pub closest-down : (a b : ℕ) → 0 < b → a % b < b - a % b → a / b ≡ closest a b
closest-down a b B h = let r : a % b * 2 < b = omega arith in ap (nearest (a / b)) (sym (cmp-lt (a % b * 2) b r))

pub closest-up : (a b : ℕ) → 0 < b → b - a % b < a % b → a / b + 1 ≡ closest a b
closest-up a b B h = let r : b < a % b * 2 = omega arith in add-one (a / b) ∙ ap (nearest (a / b)) (sym (cmp-gt (a % b * 2) b r))

pub closest-tie : (a b : ℕ) → 0 < b → b - a % b ≤ a % b → a % b ≤ b - a % b → a / b + a / b % 2 ≡ closest a b
closest-tie a b B h k =
    let l : a % b < b = mod-lt a B in
    let r : a % b * 2 ≡ b = omega arith in ap (nearest (a / b)) (sym (cmp-eq (a % b * 2) b r))

-- a / b is below a half
pub closest-none : (a b : ℕ) → a * 2 < b → closest a b ≡ 0
closest-none a b h =
    let l : a < b = omega arith in
    ap (λ (q : ℕ). nearest q (compare (a % b * 2) b)) (div-eq_of_lt l)
    ∙ ap (λ (r : ℕ). nearest 0 (compare (r * 2) b)) (mod-eq_of_lt l)
    ∙ ap (nearest 0) (cmp-lt (a * 2) b h)

-- ---- how many digits a number has

pub size-gt : (n j : ℕ) → 2 ^ j ≤ n → j < size n
size-gt n j h = lt_of_not-le (λ (g : size n ≤ j). not-le_of_lt (lt_of_lt_of_le (size-lt n) (pow_mono g)) h)

-- ---- the bits of a finite value, by its size in units of the smallest value

abbrev mag_bits : ℕ → ℕ
mag_bits a = (size a - 24) * 2 ^ 23 + a / 2 ^ (size a - 24)

to_bits_val : (x : Float) (s : Bool) (a : ℕ) → HasValue x s a (2 ^ 149) → to_bits binary32 x ≡ cond s (2 ^ 31) 0 + mag_bits a
unfolding to_bits
to_bits_val nan s a h = absurd h
to_bits_val (inf t) s a h = absurd h
to_bits_val (fin t m e) s a h =
    ap (λ (x : ℕ). cond t (2 ^ 31) 0 + (size x - 24) * 2 ^ 23 + x / 2 ^ (size x - 24)) (ap (λ (x : ℕ). x / down e) h.1 ∙ mul-div_cancel a (down_pos e))
    ∙ ap (λ (b : Bool). cond b (2 ^ 31) 0 + (size a - 24) * 2 ^ 23 + a / 2 ^ (size a - 24)) h.0
    ∙ add_assoc (cond s (2 ^ 31) 0) ((size a - 24) * 2 ^ 23) (a / 2 ^ (size a - 24))

drop-is : (q k : ℕ) → q < 2 ^ 24 → (k ≡ 0) ⊎ (2 ^ 23 ≤ q) → size (q * 2 ^ k) - 24 ≡ k
drop-is q k h (inl z) = let l : size (q * 2 ^ k) ≤ 24 + k = size-le (q * 2 ^ k) (24 + k) (shl_lt 24 k h) in omega arith
drop-is q k h (inr g) =
    let l : size (q * 2 ^ k) ≤ 24 + k = size-le (q * 2 ^ k) (24 + k) (shl_lt 24 k h) in
    let m : 23 + k < size (q * 2 ^ k) = size-gt (q * 2 ^ k) (23 + k) (le_trans (le_of_eq (pow-add 2 23 k)) (mul-le-mul_right (2 ^ k) g)) in
    omega arith

mag_is : (q k : ℕ) → q < 2 ^ 24 → (k ≡ 0) ⊎ (2 ^ 23 ≤ q) → mag_bits (q * 2 ^ k) ≡ k * 2 ^ 23 + q
mag_is q k h g =
    ap (λ (z : ℕ). z * 2 ^ 23 + q * 2 ^ k / 2 ^ z) (drop-is q k h g)
    ∙ ap (λ (z : ℕ). k * 2 ^ 23 + z) (mul-div_cancel q (pow_pos k))

mag-all : (q k : ℕ) → q ≤ 2 ^ 24 → (k ≡ 0) ⊎ (2 ^ 23 ≤ q) → mag_bits (q * 2 ^ k) ≡ k * 2 ^ 23 + q
mag-all q k h g = go (eq-or-lt_of_le h)
  where
    sum : (k : ℕ) → suc k * 2 ^ 23 + 2 ^ 23 ≡ k * 2 ^ 23 + 2 ^ 24
    sum k = omega arith

    go : (q ≡ 2 ^ 24) ⊎ (q < 2 ^ 24) → mag_bits (q * 2 ^ k) ≡ k * 2 ^ 23 + q
    go (inl e) =
        let p : q * 2 ^ k ≡ 2 ^ 23 * 2 ^ suc k = ap (λ (z : ℕ). z * 2 ^ k) e ∙ mul_assoc (2 ^ 23) 2 (2 ^ k) ∙ ap (λ (z : ℕ). 2 ^ 23 * z) (sym (pow-succ' 2 k)) in
        ap mag_bits p ∙ mag_is (2 ^ 23) (suc k) (pow-lt (le_refl 24)) (inr (le_refl (2 ^ 23))) ∙ sum k ∙ ap (λ (z : ℕ). k * 2 ^ 23 + z) (sym e)
    go (inr l) = mag_is q k l g

-- ---- the bits of `units`

to_bits_inf : (s : Bool) → to_bits binary32 (inf s) ≡ cond s (2 ^ 31) 0 + 255 * 2 ^ 23
unfolding to_bits
to_bits_inf s = refl

units-inf : (s : Bool) (q k : ℕ) → 2 ^ 277 ≤ q * 2 ^ k → units binary32 s q k ≡ inf s
unfolding units
units-inf s q k h = ap (λ (b : Bool). cond b (odd 25 s q k 149) (inf s)) (le-ltb (q * 2 ^ k) (2 ^ 277) h)

-- at the highest exponent a carry gives the infinity's pattern
at_top : (q k : ℕ) → q ≤ 2 ^ 24 → k ≤ 253 → 2 ^ 277 ≤ q * 2 ^ k → 255 * 2 ^ 23 ≡ k * 2 ^ 23 + q
at_top q k h g o =
    let a : 277 ≤ 24 + k = pow_le_back 277 (24 + k) (le_trans o (le_trans (mul-le-mul_right (2 ^ k) h) (le_of_eq (sym (pow-add 2 24 k))))) in
    let b : k ≡ 253 = omega arith in
    let c : 2 ^ 24 * 2 ^ 253 ≤ q * 2 ^ 253 = subst (λ (z : ℕ). 2 ^ 277 ≤ q * 2 ^ z) b o in
    let d : 2 ^ 24 ≤ q = le_of_mul-le-mul_right c (pow_pos 253) in
    omega arith

units-bits : (s : Bool) (q k : ℕ) → q ≤ 2 ^ 24 → (k ≡ 0) ⊎ (2 ^ 23 ≤ q) → k ≤ 253 → to_bits binary32 (units binary32 s q k) ≡ cond s (2 ^ 31) 0 + (k * 2 ^ 23 + q)
units-bits s q k h g l = go (ltb (q * 2 ^ k) (2 ^ 277)) (ltb→lt (q * 2 ^ k) (2 ^ 277)) (nltb→le (q * 2 ^ k) (2 ^ 277))
  where
    go : (b : Bool) → (T b → q * 2 ^ k < 2 ^ 277) → (T (not b) → 2 ^ 277 ≤ q * 2 ^ k) → to_bits binary32 (units binary32 s q k) ≡ cond s (2 ^ 31) 0 + (k * 2 ^ 23 + q)
    go true a b = to_bits_val (units binary32 s q k) s (q * 2 ^ k) (units_val binary32 s q k (a tt)) ∙ ap (λ (z : ℕ). cond s (2 ^ 31) 0 + z) (mag-all q k h g)
    go false a b = ap (to_bits binary32) (units-inf s q k (b tt)) ∙ to_bits_inf s ∙ ap (λ (z : ℕ). cond s (2 ^ 31) 0 + z) (at_top q k h l (b tt))

-- ---- M * 2 ^ E units of 2 ^ -1074, rounded

-- a narrowed number by any fraction that it equals
pub narrow_at : (x : Float) (s : Bool) (a c : ℕ) → 0 < c → HasValue x s a c → narrow_of x ≡ round binary32 s a c
unfolding narrow_of
narrow_at nan s a c C h = absurd h
narrow_at (inf t) s a c C h = absurd h
narrow_at (fin t m e) s a c C h = round_same binary32 t (m * up e) (down e) a c (down_pos e) C h.1 ∙ ap (λ (b : Bool). round binary32 b a c) h.0

exps : (E d k : ℕ) → E + d ≡ 925 + k → E + 149 + d ≡ 1074 + k
exps E d k e = omega arith

cross : (M E d k : ℕ) → E + d ≡ 925 + k → M * 2 ^ E * 2 ^ 149 * 2 ^ d ≡ M * (2 ^ 1074 * 2 ^ k)
cross M E d k e =
    ap (λ (z : ℕ). z * 2 ^ d) (mul_assoc M (2 ^ E) (2 ^ 149) ∙ ap (λ (z : ℕ). M * z) (sym (pow-add 2 E 149)))
    ∙ mul_assoc M (2 ^ (E + 149)) (2 ^ d)
    ∙ ap (λ (z : ℕ). M * z) (sym (pow-add 2 (E + 149) d) ∙ ap (λ (z : ℕ). 2 ^ z) (exps E d k e) ∙ pow-add 2 1074 k)

-- of the whole part k digits are dropped: what is kept is M / 2 ^ d, rounded
round-at : (s : Bool) (M E d k : ℕ) → E + d ≡ 925 + k → size (M * 2 ^ E * 2 ^ 149 / 2 ^ 1074) - 24 ≡ k → round binary32 s (M * 2 ^ E) (2 ^ 1074) ≡ units binary32 s (closest M (2 ^ d)) k
round-at s M E d k e h =
    round_is binary32 s (M * 2 ^ E) (2 ^ 1074)
    ∙ ap (λ (z : ℕ). core binary32 s (M * 2 ^ E * 2 ^ 149) (2 ^ 1074) z) h
    ∙ ap (λ (z : ℕ). units binary32 s z k)
    (closest_same (M * 2 ^ E * 2 ^ 149) (2 ^ 1074 * 2 ^ k) M (2 ^ d) (mul-pos (pow_pos 1074) (pow_pos k)) (pow_pos d) (cross M E d k e))

-- ---- how many digits are dropped

none_over : (z : ℕ) → z ≤ 24 → z - 24 ≡ 0
none_over z h = omega arith

drop-low : (M E d : ℕ) → M < 2 ^ 53 → E + d ≡ 925 → 29 ≤ d → size (M * 2 ^ E * 2 ^ 149 / 2 ^ 1074) - 24 ≡ 0
drop-low M E d m e l =
    ap (λ (z : ℕ). size z - 24) (div_same (M * 2 ^ E * 2 ^ 149) (2 ^ 1074) M (2 ^ d) (pow_pos 1074) (pow_pos d) (cross M E d 0 e))
    ∙ none_over (size (M / 2 ^ d)) (size-le (M / 2 ^ d) 24 (shr_lt 24 d (lt_of_lt_of_le m (pow_mono more))))
  where
    more : 53 ≤ 24 + d
    more = omega arith

drop-mid : (M E k : ℕ) → 2 ^ 52 ≤ M → M < 2 ^ 53 → E + 29 ≡ 925 + k → size (M * 2 ^ E * 2 ^ 149 / 2 ^ 1074) - 24 ≡ k
drop-mid M E k lo hi e =
    let same : M * 2 ^ E * 2 ^ 149 * 2 ^ 29 ≡ M * 2 ^ k * 2 ^ 1074 = cross M E 29 k e ∙ ap (λ (z : ℕ). M * z) (mul_comm (2 ^ 1074) (2 ^ k)) ∙ sym (mul_assoc M (2 ^ k) (2 ^ 1074)) in
    let w = M * 2 ^ k / 2 ^ 29 in
    let a : size w ≤ 24 + k = size-le w (24 + k) (shr_lt (24 + k) 29 (lt_of_lt_of_le (shl_lt 53 k hi) (pow_mono (up_to k)))) in
    let b : 23 + k < size w = size-gt w (23 + k) ((le-div_iff_mul-le (pow_pos 29)).1 (le_trans (le_of_eq (sym (pow-add 2 (23 + k) 29) ∙ ap (λ (z : ℕ). 2 ^ z) (at k) ∙ pow-add 2 52 k)) (mul-le-mul_right (2 ^ k) lo))) in
    ap (λ (z : ℕ). size z - 24) (div_same (M * 2 ^ E * 2 ^ 149) (2 ^ 1074) (M * 2 ^ k) (2 ^ 29) (pow_pos 1074) (pow_pos 29) same) ∙ exact (size w) k a b
  where
    up_to : (k : ℕ) → 53 + k ≤ 24 + k + 29
    up_to k = omega arith

    at : (k : ℕ) → 23 + k + 29 ≡ 52 + k
    at k = omega arith

    exact : (z k : ℕ) → z ≤ 24 + k → 23 + k < z → z - 24 ≡ k
    exact z k a b = omega arith

-- ---- the four cases

pub closest-le : (M d : ℕ) → M < 2 ^ 53 → 29 ≤ d → closest M (2 ^ d) ≤ 2 ^ 24
closest-le M d m l = le_trans (nearest-le (M / 2 ^ d) (compare (M % 2 ^ d * 2) (2 ^ d))) (shr_lt 24 d (lt_of_lt_of_le m (pow_mono more)))
  where
    more : 53 ≤ 24 + d
    more = omega arith

pub closest-ge : (M : ℕ) → 2 ^ 52 ≤ M → 2 ^ 23 ≤ closest M (2 ^ 29)
closest-ge M h = le_trans ((le-div_iff_mul-le (pow_pos 29)).1 h) (nearest-ge (M / 2 ^ 29) (compare (M % 2 ^ 29 * 2) (2 ^ 29)))

narrow-low : (x : Float) (s : Bool) (M E d : ℕ) → HasValue x s (M * 2 ^ E) (2 ^ 1074) → M < 2 ^ 53 → E + d ≡ 925 → 29 ≤ d → to_bits binary32 (narrow_of x) ≡ cond s (2 ^ 31) 0 + closest M (2 ^ d)
narrow-low x s M E d v m e l =
    ap (to_bits binary32) (narrow_at x s (M * 2 ^ E) (2 ^ 1074) (pow_pos 1074) v ∙ round-at s M E d 0 e (drop-low M E d m e l))
    ∙ units-bits s (closest M (2 ^ d)) 0 (closest-le M d m l) (inl refl) (lit≤ tt)
    ∙ ap (λ (z : ℕ). cond s (2 ^ 31) 0 + z) (zero-add (closest M (2 ^ d)))

narrow-tiny : (x : Float) (s : Bool) (M E : ℕ) → HasValue x s (M * 2 ^ E) (2 ^ 1074) → M < 2 ^ 53 → E ≤ 871 → to_bits binary32 (narrow_of x) ≡ cond s (2 ^ 31) 0 + 0
narrow-tiny x s M E v m l =
    let d = 925 - E in
    let h : 54 ≤ d = omega arith in
    let p : 2 ^ 54 ≤ 2 ^ d = pow_mono h in
    narrow-low x s M E d v m (all E l) (le_trans (lit≤ tt) h) ∙ ap (λ (z : ℕ). cond s (2 ^ 31) 0 + z) (closest-none M (2 ^ d) (lt_of_lt_of_le (twice M m) p))
  where
    all : (E : ℕ) → E ≤ 871 → E + (925 - E) ≡ 925
    all E l = omega arith

    twice : (M : ℕ) → M < 2 ^ 53 → M * 2 < 2 ^ 54
    twice M m = omega arith

narrow-mid : (x : Float) (s : Bool) (M E k : ℕ) → HasValue x s (M * 2 ^ E) (2 ^ 1074) → 2 ^ 52 ≤ M → M < 2 ^ 53 → E + 29 ≡ 925 + k → k ≤ 253
    → to_bits binary32 (narrow_of x) ≡ cond s (2 ^ 31) 0 + (k * 2 ^ 23 + closest M (2 ^ 29))
narrow-mid x s M E k v lo hi e l =
    ap (to_bits binary32) (narrow_at x s (M * 2 ^ E) (2 ^ 1074) (pow_pos 1074) v ∙ round-at s M E 29 k e (drop-mid M E k lo hi e))
    ∙ units-bits s (closest M (2 ^ 29)) k (closest-le M 29 hi (lit≤ tt)) (inr (closest-ge M lo)) l

narrow-big : (x : Float) (s : Bool) (M E k : ℕ) → HasValue x s (M * 2 ^ E) (2 ^ 1074) → 2 ^ 52 ≤ M → M < 2 ^ 53 → E + 29 ≡ 925 + k → 254 ≤ k
    → to_bits binary32 (narrow_of x) ≡ cond s (2 ^ 31) 0 + 255 * 2 ^ 23
narrow-big x s M E k v lo hi e l =
    ap (to_bits binary32)
    (narrow_at x s (M * 2 ^ E) (2 ^ 1074) (pow_pos 1074) v ∙ round-at s M E 29 k e (drop-mid M E k lo hi e)
    ∙ units-inf s (closest M (2 ^ 29)) k (le_trans (mul-le-mul_left (2 ^ 23) (pow_mono l)) (mul-le-mul_right (2 ^ k) (closest-ge M lo))))
    ∙ to_bits_inf s

-- the narrowed number, where no carry gives the infinity
pub narrow-value : (x : Float) (s : Bool) (M E k : ℕ) → HasValue x s (M * 2 ^ E) (2 ^ 1074) → 2 ^ 52 ≤ M → M < 2 ^ 53 → E + 29 ≡ 925 + k → k ≤ 252
    → HasValue (narrow_of x) s (closest M (2 ^ 29) * 2 ^ k) (2 ^ 149)
narrow-value x s M E k v lo hi e l =
    subst (λ (y : Float). HasValue y s (closest M (2 ^ 29) * 2 ^ k) (2 ^ 149)) (sym (narrow_at x s (M * 2 ^ E) (2 ^ 1074) (pow_pos 1074) v ∙ round-at s M E 29 k e (drop-mid M E k lo hi e)))
    (units_val binary32 s (closest M (2 ^ 29)) k
    (lt_of_le_of_lt (le_trans (mul-le-mul_right (2 ^ k) (closest-le M 29 hi (lit≤ tt))) (le_of_eq (sym (pow-add 2 24 k)))) (pow-lt under)))
  where
    under : 24 + k < 277
    under = omega arith

-- ---- the fields of an f64

-- an f64 that is no NaN is what its own pattern's fields say
pub fields-of : (x : Float) → T (fits binary64 x) → x ≡ of_fields binary64 (leb (2 ^ 63) (to_bits binary64 x)) (to_bits binary64 x % 2 ^ 63 / 2 ^ 52) (to_bits binary64 x % 2 ^ 52)
unfolding of_bits
fields-of x h = sym (of_bits-to_bits binary64 x h)

pub value-zero : (s : Bool) (t : ℕ) → HasValue (of_fields binary64 s 0 t) s (t * 2 ^ 0) (2 ^ 1074)
unfolding of_fields
value-zero s t = odd_sign 53 s t 0 1074

pub value-some : (s : Bool) (e t : ℕ) → suc e < 2047 → HasValue (of_fields binary64 s (suc e) t) s ((2 ^ 52 + t) * 2 ^ e) (2 ^ 1074)
unfolding of_fields
value-some s e t h =
    subst (λ (b : Bool). HasValue (cond b (cond (eqb t 0) (inf s) nan) (odd 53 s (2 ^ 52 + t) e 1074)) s ((2 ^ 52 + t) * 2 ^ e) (2 ^ 1074)) (sym (ne_eqb (suc e) 2047 (differ e h)))
    (odd_sign 53 s (2 ^ 52 + t) e 1074)
  where
    differ : (e : ℕ) → suc e < 2047 → suc e ≡ 2047 → ⊥
    differ e h q = omega arith

pub value-end : (s : Bool) (t : ℕ) → (of_fields binary64 s 2047 t ≡ inf s) ⊎ (of_fields binary64 s 2047 t ≡ nan)
unfolding of_fields
value-end s t = go (eqb t 0)
  where
    go : (b : Bool) → (cond b (inf s) nan ≡ inf s) ⊎ (cond b (inf s) nan ≡ nan)
    go true = inl refl
    go false = inr refl

value-top : (s : Bool) (t : ℕ) → T (not (is_nan (of_fields binary64 s 2047 t))) → of_fields binary64 s 2047 t ≡ inf s
unfolding is_nan
value-top s t h = go (value-end s t)
  where
    go : (of_fields binary64 s 2047 t ≡ inf s) ⊎ (of_fields binary64 s 2047 t ≡ nan) → of_fields binary64 s 2047 t ≡ inf s
    go (inl e) = e
    go (inr e) = absurd (subst (λ (x : Float). T (not (is_nan x))) e h)

-- ---- what `mag_of` is in each case

pub mag-tiny : (e t : ℕ) → e < 873 → mag_of e t ≡ 0
unfolding mag_of pick
mag-tiny e t h = rw (lt-ltb e 873)

pub mag_low : (e t : ℕ) → 873 ≤ e → e < 897 → mag_of e t ≡ closest (2 ^ 52 + t) (2 ^ (926 - e))
unfolding mag_of pick
mag_low e t h k = rw (le-ltb e 873, lt-ltb e 897)

pub mag-mid : (e t : ℕ) → 897 ≤ e → e < 1151 → mag_of e t ≡ (e - 897) * 2 ^ 23 + closest (2 ^ 52 + t) (2 ^ 29)
unfolding mag_of pick
mag-mid e t h k = let l : 873 ≤ e = omega arith in rw (le-ltb e 873, le-ltb e 897, lt-ltb e 1151)

pub mag-big : (e t : ℕ) → 1151 ≤ e → mag_of e t ≡ 255 * 2 ^ 23
unfolding mag_of pick
mag-big e t h = let l : 873 ≤ e = omega arith in let m : 897 ≤ e = omega arith in rw (le-ltb e 873, le-ltb e 897, le-ltb e 1151)

-- ---- all of it, by the fields

narrow-inf : (s : Bool) → to_bits binary32 (narrow_of (inf s)) ≡ cond s (2 ^ 31) 0 + 255 * 2 ^ 23
unfolding narrow_of
narrow-inf s = to_bits_inf s

abbrev Goal : Bool → ℕ → ℕ → Type 0
Goal s e t = to_bits binary32 (narrow_of (of_fields binary64 s e t)) ≡ cond s (2 ^ 31) 0 + mag_of e t

with_lead : (t : ℕ) → t < 2 ^ 52 → 2 ^ 52 + t < 2 ^ 53
with_lead t h = omega arith

lead : (t : ℕ) → 2 ^ 52 ≤ 2 ^ 52 + t
lead t = omega arith

under : (t : ℕ) → t < 2 ^ 52 → t < 2 ^ 53
under t h = omega arith

module _ (s : Bool) (e t : ℕ) (l : t < 2 ^ 52) where
  -- below the field 2047: a number with its leading digit
  some : suc e < 2047 → Goal s (suc e) t
  some h = tiny (lt-or-ge (suc e) 873)
    where
      v : HasValue (of_fields binary64 s (suc e) t) s ((2 ^ 52 + t) * 2 ^ e) (2 ^ 1074)
      v = value-some s e t h

      mid : 897 ≤ suc e → (suc e < 1151) ⊎ (1151 ≤ suc e) → Goal s (suc e) t
      mid a (inl b) =
          let q : e + 29 ≡ 925 + (suc e - 897) = omega arith in
          let k : suc e - 897 ≤ 253 = omega arith in
          narrow-mid (of_fields binary64 s (suc e) t) s (2 ^ 52 + t) e (suc e - 897) v (lead t) (with_lead t l) q k ∙ ap (λ (z : ℕ). cond s (2 ^ 31) 0 + z) (sym (mag-mid (suc e) t a b))
      mid a (inr b) =
          let q : e + 29 ≡ 925 + (suc e - 897) = omega arith in
          let k : 254 ≤ suc e - 897 = omega arith in
          narrow-big (of_fields binary64 s (suc e) t) s (2 ^ 52 + t) e (suc e - 897) v (lead t) (with_lead t l) q k ∙ ap (λ (z : ℕ). cond s (2 ^ 31) 0 + z) (sym (mag-big (suc e) t b))

      low_or : 873 ≤ suc e → (suc e < 897) ⊎ (897 ≤ suc e) → Goal s (suc e) t
      low_or a (inl b) =
          let q : e + (926 - suc e) ≡ 925 = omega arith in
          let d : 29 ≤ 926 - suc e = omega arith in
          narrow-low (of_fields binary64 s (suc e) t) s (2 ^ 52 + t) e (926 - suc e) v (with_lead t l) q d ∙ ap (λ (z : ℕ). cond s (2 ^ 31) 0 + z) (sym (mag_low (suc e) t a b))
      low_or a (inr b) = mid b (lt-or-ge (suc e) 1151)

      tiny : (suc e < 873) ⊎ (873 ≤ suc e) → Goal s (suc e) t
      tiny (inl a) =
          let k : e ≤ 871 = omega arith in
          narrow-tiny (of_fields binary64 s (suc e) t) s (2 ^ 52 + t) e v (with_lead t l) k ∙ ap (λ (z : ℕ). cond s (2 ^ 31) 0 + z) (sym (mag-tiny (suc e) t a))
      tiny (inr a) = low_or a (lt-or-ge (suc e) 897)

fields_bits : (s : Bool) (e t : ℕ) → e < 2048 → t < 2 ^ 52 → T (not (is_nan (of_fields binary64 s e t))) → Goal s e t
fields_bits s zero t h l n =
    narrow-tiny (of_fields binary64 s 0 t) s t 0 (value-zero s t) (under t l) (lit≤ tt) ∙ ap (λ (z : ℕ). cond s (2 ^ 31) 0 + z) (sym (mag-tiny 0 t (lit≤ tt)))
fields_bits s (suc e) t h l n = go (lt-or-ge (suc e) 2047)
  where
    go : (suc e < 2047) ⊎ (2047 ≤ suc e) → Goal s (suc e) t
    go (inl a) = some s e t l a
    go (inr a) =
        let q : suc e ≡ 2047 = omega arith in
        subst (λ (z : ℕ). Goal s z t) (sym q)
        (ap (λ (y : Float). to_bits binary32 (narrow_of y)) (value-top s t (subst (λ (z : ℕ). T (not (is_nan (of_fields binary64 s z t)))) q n))
        ∙ narrow-inf s
        ∙ ap (λ (z : ℕ). cond s (2 ^ 31) 0 + z) (sym (mag-big 2047 t (lit≤ tt))))

sign-is : (b : ℕ) → b < 2 ^ 64 → cond (leb (2 ^ 63) b) (2 ^ 31) 0 ≡ b / 2 ^ 63 * 2 ^ 31
sign-is b h = go (leb (2 ^ 63) b) (leb→le (2 ^ 63) b) (nleb→lt (2 ^ 63) b)
  where
    yes : 2 ^ 63 ≤ b → 2 ^ 31 ≡ b / 2 ^ 63 * 2 ^ 31
    yes k = omega arith

    no : b < 2 ^ 63 → 0 ≡ b / 2 ^ 63 * 2 ^ 31
    no k = omega arith

    go : (t : Bool) → (T t → 2 ^ 63 ≤ b) → (T (not t) → b < 2 ^ 63) → cond t (2 ^ 31) 0 ≡ b / 2 ^ 63 * 2 ^ 31
    go true p q = yes (p tt)
    go false p q = no (q tt)

-- The theorem: of an f64 that is no NaN, the narrowed number's bits are made of the fields of its own bits.
pub narrow-bits-is : (x : Float) → T (fits binary64 x) → T (not (is_nan x))
    → to_bits binary32 (narrow_of x) ≡ to_bits binary64 x / 2 ^ 63 * 2 ^ 31 + mag_of (to_bits binary64 x % 2 ^ 63 / 2 ^ 52) (to_bits binary64 x % 2 ^ 52)
narrow-bits-is x f n =
    let b = to_bits binary64 x in
    let s = leb (2 ^ 63) b in
    let w : b < 2 ^ 64 = to_bits-lt binary64 x f in
    let r = fields-of x f in
    ap (λ (y : Float). to_bits binary32 (narrow_of y)) r
    ∙ fields_bits s (b % 2 ^ 63 / 2 ^ 52) (b % 2 ^ 52) (exp-lt b) (mod-lt b (pow_pos 52)) (subst (λ (y : Float). T (not (is_nan y))) r n)
    ∙ ap (λ (z : ℕ). z + mag_of (b % 2 ^ 63 / 2 ^ 52) (b % 2 ^ 52)) (sign-is b w)
  where
    exp-lt : (b : ℕ) → b % 2 ^ 63 / 2 ^ 52 < 2048
    exp-lt b = omega arith

-- the unit that a shift makes
pub unit-is : (e : ℕ) → 873 ≤ e → 1 * 2 ^ (926 - e) % 2 ^ 64 ≡ 2 ^ (926 - e)
unit-is e h = let k : 1 + (926 - e) ≤ 64 = omega arith in shl_exact 1 (926 - e) 64 (lit≤ tt) k ∙ one-mul (2 ^ (926 - e))
