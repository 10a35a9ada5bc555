-- The four cases of a narrowing's kind, as the code tells them apart, and what stays finite. Assumes nothing.
--     kind-exact, kind-rounded, kind-over, kind-none      of x, by its narrowed number v
--     size-narrows, low-narrows       a number of at most 2^127 in size, and what is rounded to an f64 from one, is narrowed to a finite number
--     small-stays       so is a number below 2^127 times one of at most 1
use Rattle.std.proofs.Common.{◌≡◌, ℕ, suc, ◌*◌, ◌^◌, ◌<◌, ◌≤◌, Bool, true, false, cond, T, ◌⊎◌, ℤ, pos, sym, refl, ap, ◌∙◌, subst, inl, inr, le_trans, le_of_eq, le_of_lt, mul_assoc, eq-zero-or-pos, mul-le-mul, mul-pos, mul-one, arith, lit≤, pow_pos, le-ltb}
use lib.Ieee.{Float, nan, inf, fin, Format, binary32, binary64, prec, low, unlike, up, down, odd, units, round, mul, eq, lt, le, fits}
use lib.Ieee.Exact.{HasValue, units_val}
use lib.Ieee.Fits.{round_is, down_pos}
use lib.Ieee.Order.{round_mono, drop, kept}
use lib.Ieee.Positive.{positive_of_value, values_of_le}
use lib.Ieee.Scale.{grid, overflow}
use Rattle.laws.specs.Choice.{pick, lt-or-ge}
use Rattle.numbers.specs.Finite.{is_finite}
use Rattle.numbers.specs.Narrowing.{narrow_of, kind_of, high_square}
use Rattle.numbers.specs.declared.narrowing.Kind.TheVariants.{Exact, Rounded, Over}
use Rattle.numbers.proofs.Plain.{after, value-finite, small-sized}
use Rattle.numbers.proofs.Rounding.{narrow_at}
use Rattle.numbers.proofs.Values.{mul-value}

-- ---- the kind

finite-back : (x : Float) → is_finite (narrow_of x) ≡ true → is_finite x ≡ true
unfolding is_finite narrow_of
finite-back nan h = h
finite-back (inf s) h = h
finite-back (fin s m e) h = refl

module _ (x : Float) {v : Float} (e : v ≡ narrow_of x) where
  finite-too : is_finite v ≡ true → is_finite (narrow_of x) ≡ true
  finite-too h = sym (ap is_finite e) ∙ h

  pub kind-exact : {w : Float} → is_finite v ≡ true → w ≡ v → eq x w ≡ true → Exact ≡ kind_of x
  unfolding kind_of pick
  kind-exact h p q =
      let k = finite-too h in
      let r : eq x (narrow_of x) ≡ true = sym (ap (eq x) (p ∙ e)) ∙ q in
      rw (finite-back x k, k, r)

  pub kind-rounded : {w : Float} → is_finite v ≡ true → w ≡ v → eq x w ≡ false → Rounded ≡ kind_of x
  unfolding kind_of pick
  kind-rounded h p q =
      let k = finite-too h in
      let r : eq x (narrow_of x) ≡ false = sym (ap (eq x) (p ∙ e)) ∙ q in
      rw (finite-back x k, k, r)

  pub kind-over : is_finite v ≡ false → is_finite x ≡ true → Over ≡ kind_of x
  unfolding kind_of pick
  kind-over h k = let r : is_finite (narrow_of x) ≡ false = sym (ap is_finite e) ∙ h in rw (k, r)

pub kind-none : (x : Float) → is_finite x ≡ false → Exact ≡ kind_of x
unfolding kind_of pick
kind-none x h = rw h

-- ---- at most 2^127 is rounded to no infinity, and to at most 2^127

abbrev high : Float
high = fin false 1 (pos 127)

high-32 : round binary32 false (2 ^ 127) 1 ≡ high
unfolding round
high-32 = refl

high-64 : round binary64 false (2 ^ 127) 1 ≡ high
unfolding round
high-64 = refl

no_top : T (le (inf false) high) → ⊥
unfolding le
no_top h = h

units-top : (f : Format) (s : Bool) (q k : ℕ) → overflow f ≤ q * 2 ^ k → units f s q k ≡ inf s
unfolding units
units-top f s q k h = ap (λ (b : Bool). cond b (odd (suc (prec f)) s q k (low f)) (inf s)) (le-ltb (q * 2 ^ k) (overflow f) h)

module _ (f : Format) (is-high : round f false (2 ^ 127) 1 ≡ high) (a c : ℕ) (C : 0 < c) (h : a ≤ 2 ^ 127 * c) where
  abbrev q : ℕ
  q = kept (prec f) (a * 2 ^ low f) c

  abbrev k : ℕ
  k = drop (prec f) (a * 2 ^ low f) c

  below : T (le (round f false a c) high)
  below = subst (λ (z : Float). T (le (round f false a c) z)) is-high (round_mono f a c (2 ^ 127) 1 C (pow_pos 0) (le_trans (le_of_eq (mul-one a)) h))

  under : grid f a c < overflow f
  under = go (lt-or-ge (grid f a c) (overflow f))
    where
      go : (grid f a c < overflow f) ⊎ (overflow f ≤ grid f a c) → grid f a c < overflow f
      go (inl l) = l
      go (inr l) = absurd (no_top (subst (λ (z : Float). T (le z high)) (round_is f false a c ∙ units-top f false q k l) below))

  low_value : (s : Bool) → HasValue (round f s a c) s (grid f a c) (2 ^ low f)
  low_value s = subst (λ (z : Float). HasValue z s (grid f a c) (2 ^ low f)) (sym (round_is f s a c)) (units_val f s q k under)

  low-size : grid f a c ≤ 2 ^ 127 * 2 ^ low f
  low-size = go (eq-zero-or-pos (grid f a c))
    where
      none : (g n : ℕ) → g ≡ 0 → g ≤ n
      none g n z = omega arith

      go : (grid f a c ≡ 0) ⊎ (0 < grid f a c) → grid f a c ≤ 2 ^ 127 * 2 ^ low f
      go (inl z) = none (grid f a c) (2 ^ 127 * 2 ^ low f) z
      go (inr p) =
          le_trans (le_of_eq (sym (mul-one (grid f a c))))
          (values_of_le (round f false a c) high (grid f a c) (2 ^ low f) (2 ^ 127) 1 (positive_of_value (round f false a c) (grid f a c) (2 ^ low f) (low_value false) p) tt (low_value false) (refl, refl) below)

-- ---- so it is narrowed to a finite number

low-finite : (s : Bool) (a c : ℕ) → 0 < c → a ≤ 2 ^ 127 * c → is_finite (round binary32 s a c) ≡ true
low-finite s a c C h = value-finite (round binary32 s a c) s (grid binary32 a c) (2 ^ 149) (low_value binary32 high-32 a c C h s)

-- a number of at most that size, and one that is rounded from such
pub size-narrows : (s : Bool) (m : ℕ) (e : ℤ) → m * up e ≤ 2 ^ 127 * down e → is_finite (narrow_of (fin s m e)) ≡ true
unfolding narrow_of
size-narrows s m e h = low-finite s (m * up e) (down e) (down_pos e) h

pub low-narrows : (s : Bool) (a c : ℕ) → 0 < c → a ≤ 2 ^ 127 * c → is_finite (narrow_of (round binary64 s a c)) ≡ true
low-narrows s a c C h =
    let y = round binary64 s a c in
    let g = grid binary64 a c in
    let e = narrow_at y s g (2 ^ 1074) (pow_pos 1074) (low_value binary64 high-64 a c C h s) in
    ap is_finite e ∙ low-finite s g (2 ^ 1074) (pow_pos 1074) (low-size binary64 high-64 a c C h)

pub small-stays : (x y : Float) (b d : ℕ) → T (fits binary64 x) → lt (mul binary64 x x) high_square ≡ true → HasValue y false b d → 0 < d → b ≤ d
    → is_finite (narrow_of (mul binary64 x y)) ≡ true
small-stays x y b d f h v D l =
    small-sized x f h (λ s a u w.
    let p : a * b ≤ 2 ^ 127 * (2 ^ 1074 * d) = le_trans (mul-le-mul (up_to a w) l) (le_of_eq (mul_assoc (2 ^ 127) (2 ^ 1074) d)) in
    ap (λ (z : Float). is_finite (narrow_of z)) (mul-value binary64 x y s false a (2 ^ 1074) b d (pow_pos 1074) D u v)
    ∙ low-narrows (unlike s false) (a * b) (2 ^ 1074 * d) (mul-pos (pow_pos 1074) D) p)
  where
    up_to : (a : ℕ) → a < after → a ≤ 2 ^ 127 * 2 ^ 1074
    up_to a w = le_trans (le_of_lt w) (lit≤ tt)
