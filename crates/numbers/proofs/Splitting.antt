-- A number times 2^29 + 1, less what that is above the number: the number rounded to 24 digits, a tie to the even one. (The method is
-- known as Veltkamp's splitting.) With M the number's 53 digits and `kept M` the 24 that are kept, the product is M + kept M in units of
-- 2^29, the difference is M, and what is left is kept M. Where M is so close below 2^53 that the product has a digit more, all three are
-- other numbers, and what is left is 2^24. Assumes nothing.
--     rounded-narrows     so it is the narrowed number, where no carry of that can give the infinity and no digit is lost below
use Rattle.std.proofs.Common.{◌≡◌, ℕ, ◌+◌, ◌-◌, ◌*◌, ◌/◌, ◌%◌, ◌^◌, ◌<◌, ◌≤◌, Bool, true, false, ◌⊎◌, sym, refl, ap, ◌∙◌, subst, inl, inr, le_trans, le_of_eq, lt_of_le_of_lt, mul-le-mul_right, mod-lt, mul_assoc, mul_comm, add-mul, mul-lt-mul_of_pos_right, mul-pos, one-mul, div-add-mod', mul_right_comm, mul-div_cancel, arith, lit<, lit≤, pow_pos, pow_mono, pow-add, shl_lt, shr_lt}
use Prim.Native.Nat.{compare}
use lib.Pow.{pow-lt}
use lib.Ieee.{Float, binary64, unlike, size, units, round, sub, mul}
use lib.Ieee.Digits.{size-le}
use lib.Ieee.Exact.{HasValue, units_val, round_exact}
use lib.Ieee.Fits.{core, round_is, nearest-le, sub-fits, fits_widens}
use lib.Ieee.Nearest.{closest, closest_same}
use Rattle.laws.specs.Choice.{lt-or-ge}
use Rattle.numbers.specs.Narrowing.{narrow_of, splitter, rounded_of}
use Rattle.numbers.proofs.Rounding.{closest-ge, closest-le, closest-up, closest-down, closest-tie, size-gt, narrow-value}
use Rattle.numbers.proofs.Tests.{narrow-fits}
use Rattle.numbers.proofs.Values.{unique, mul-value, sub-mul, sub-value, rescale}

-- ---- N * 2 ^ E units of 2 ^ -1074, N having 53 + k digits, rounded in f64: k digits of N are dropped

module _ (s : Bool) (N E k : ℕ) (lo : 2 ^ (52 + k) ≤ N) (hi : N < 2 ^ (53 + k)) (fine : E + k ≤ 2044) where
  dropped : size (N * 2 ^ E) - 53 ≡ E + k
  dropped =
      let a : size (N * 2 ^ E) ≤ 53 + k + E = size-le (N * 2 ^ E) (53 + k + E) (shl_lt (53 + k) E hi) in
      let b : 52 + k + E < size (N * 2 ^ E) = size-gt (N * 2 ^ E) (52 + k + E) (le_trans (le_of_eq (pow-add 2 (52 + k) E)) (mul-le-mul_right (2 ^ E) lo)) in
      omega arith

  kept-le : closest N (2 ^ k) ≤ 2 ^ 53
  kept-le = le_trans (nearest-le (N / 2 ^ k) (compare (N % 2 ^ k * 2) (2 ^ k))) (shr_lt 53 k hi)

  in-range : closest N (2 ^ k) * 2 ^ (E + k) < 2 ^ 2098
  in-range = lt_of_le_of_lt (le_trans (mul-le-mul_right (2 ^ (E + k)) kept-le) (le_trans (le_of_eq (sym (pow-add 2 53 (E + k)))) (pow_mono up_to))) (pow-lt last)
    where
      up_to : 53 + (E + k) ≤ 2097
      up_to = omega arith

      last : 2097 < 2098
      last = omega arith

  cross : N * 2 ^ E * 2 ^ 1074 * 2 ^ k ≡ N * (2 ^ 1074 * 2 ^ (E + k))
  cross =
      ap (λ (z : ℕ). z * 2 ^ k) (mul_right_comm N (2 ^ E) (2 ^ 1074))
      ∙ mul_assoc (N * 2 ^ 1074) (2 ^ E) (2 ^ k)
      ∙ ap (λ (z : ℕ). N * 2 ^ 1074 * z) (sym (pow-add 2 E k))
      ∙ mul_assoc N (2 ^ 1074) (2 ^ (E + k))

  round-wide : HasValue (round binary64 s (N * 2 ^ E) (2 ^ 1074)) s (closest N (2 ^ k) * 2 ^ (E + k)) (2 ^ 1074)
  round-wide =
      let q : N * 2 ^ E * 2 ^ 1074 / 2 ^ 1074 ≡ N * 2 ^ E = mul-div_cancel (N * 2 ^ E) (pow_pos 1074) in
      let w : round binary64 s (N * 2 ^ E) (2 ^ 1074) ≡ core binary64 s (N * 2 ^ E * 2 ^ 1074) (2 ^ 1074) (E + k) =
      round_is binary64 s (N * 2 ^ E) (2 ^ 1074) ∙ ap (λ (z : ℕ). core binary64 s (N * 2 ^ E * 2 ^ 1074) (2 ^ 1074) z) (ap (λ (z : ℕ). size z - 53) q ∙ dropped) in
      let c = closest_same (N * 2 ^ E * 2 ^ 1074) (2 ^ 1074 * 2 ^ (E + k)) N (2 ^ k) (mul-pos (pow_pos 1074) (pow_pos (E + k))) (pow_pos k) cross in
      subst (λ (z : Float). HasValue z s (closest N (2 ^ k) * 2 ^ (E + k)) (2 ^ 1074)) (sym (w ∙ ap (λ (z : ℕ). units binary64 s z (E + k)) c)) (units_val binary64 s (closest N (2 ^ k)) (E + k) in-range)

-- ---- the nearest whole number, known by how near it is

-- even, or less than a half away
abbrev Settled : ℕ → ℕ → ℕ → Type 0
Settled N b D = (D % 2 ≡ 0) ⊎ ((N * 2 < D * b * 2 + b) × (D * b * 2 < N * 2 + b))

-- the whole number D is at most a half away from N / b, and at just a half it is even
abbrev Near : ℕ → ℕ → ℕ → Type 0
Near N b D = (N * 2 ≤ D * b * 2 + b) × (D * b * 2 ≤ N * 2 + b) × Settled N b D

closest-is : (N b D : ℕ) → 0 < b → Near N b D → closest N b ≡ D
closest-is N b D B (above, under, tie) = go (lt-or-ge (N / b) D)
  where
    split : N / b * b + N % b ≡ N
    split = div-add-mod' N b

    rest : N % b < b
    rest = mod-lt N B

    next : D ≡ N / b + 1 → D * b ≡ N / b * b + b
    next e = ap (λ (z : ℕ). z * b) e ∙ add-mul (N / b) 1 b ∙ ap (λ (z : ℕ). N / b * b + z) (one-mul b)

    -- the whole part is D - 1
    low : D ≡ N / b + 1 → (b < N % b * 2) ⊎ (N % b * 2 ≤ b) → Settled N b D → closest N b ≡ D
    low e (inl l) t = sym (closest-up N b B (omega (arith, split, rest))) ∙ sym e
    low e (inr l) (inl t) = let p = next e in let w : b - N % b ≤ N % b = omega (arith, split, rest) in sym (closest-tie N b B w (omega (arith, split, rest))) ∙ odd (N / b) e t
      where
        odd : (q : ℕ) → D ≡ q + 1 → D % 2 ≡ 0 → q + q % 2 ≡ D
        odd q e t = omega arith
    low e (inr l) (inr t) = let p = next e in absurd (none t.1 p)
      where
        none : D * b * 2 < N * 2 + b → D * b ≡ N / b * b + b → ⊥
        none t p = omega (arith, split, rest)

    -- the whole part is D
    high : D ≡ N / b → (N % b * 2 < b) ⊎ (b ≤ N % b * 2) → Settled N b D → closest N b ≡ D
    high e (inl l) t = sym (closest-down N b B (omega (arith, split, rest))) ∙ sym e
    high e (inr l) (inl t) = let p : D * b ≡ N / b * b = ap (λ (z : ℕ). z * b) e in let w : N % b ≤ b - N % b = omega (arith, split, rest) in sym (closest-tie N b B (omega (arith, split, rest)) w) ∙ even (N / b) e t
      where
        even : (q : ℕ) → D ≡ q → D % 2 ≡ 0 → q + q % 2 ≡ D
        even q e t = omega arith
    high e (inr l) (inr t) = absurd (none t.0 (ap (λ (z : ℕ). z * b) e))
      where
        none : N * 2 < D * b * 2 + b → D * b ≡ N / b * b → ⊥
        none t p = omega (arith, split, rest)

    -- no further away
    no_less : N / b + 1 < D → ⊥
    no_less l = apart (le_trans (le_of_eq (sym (add-mul (N / b) 2 b))) (mul-le-mul_right b (two-more l)))
      where
        two-more : N / b + 1 < D → N / b + 2 ≤ D
        two-more l = omega arith

        apart : N / b * b + 2 * b ≤ D * b → ⊥
        apart h = omega (arith, split, rest)

    no_more : D < N / b → ⊥
    no_more l = apart (le_trans (le_of_eq (sym (add-mul D 1 b))) (mul-le-mul_right b (one_more l)))
      where
        one_more : D < N / b → D + 1 ≤ N / b
        one_more l = omega arith

        apart : D * b + 1 * b ≤ N / b * b → ⊥
        apart h = omega (arith, split, rest)

    go : (N / b < D) ⊎ (D ≤ N / b) → closest N b ≡ D
    go (inl l) = low (is (lt-or-ge (N / b + 1) D)) (lt-or-ge b (N % b * 2)) tie
      where
        is : (N / b + 1 < D) ⊎ (D ≤ N / b + 1) → D ≡ N / b + 1
        is (inl h) = absurd (no_less h)
        is (inr h) = omega arith
    go (inr l) = high (is (lt-or-ge D (N / b))) (lt-or-ge (N % b * 2) b) tie
      where
        is : (D < N / b) ⊎ (N / b ≤ D) → D ≡ N / b
        is (inl h) = absurd (no_more h)
        is (inr h) = omega arith

-- ---- the digits of the product, of the first difference and of the second

abbrev factor : ℕ
factor = 2 ^ 29 + 1

abbrev kept : ℕ → ℕ
kept M = closest M (2 ^ 29)

near : (M : ℕ) → Near M (2 ^ 29) (kept M)
near M = go (lt-or-ge (M % 2 ^ 29) (2 ^ 29 - M % 2 ^ 29)) (lt-or-ge (2 ^ 29 - M % 2 ^ 29) (M % 2 ^ 29))
  where
    go : (M % 2 ^ 29 < 2 ^ 29 - M % 2 ^ 29) ⊎ (2 ^ 29 - M % 2 ^ 29 ≤ M % 2 ^ 29) → (2 ^ 29 - M % 2 ^ 29 < M % 2 ^ 29) ⊎ (M % 2 ^ 29 ≤ 2 ^ 29 - M % 2 ^ 29) → Near M (2 ^ 29) (kept M)
    go (inl a) _ = subst (Near M (2 ^ 29)) (closest-down M (2 ^ 29) (pow_pos 29) a) (omega arith, omega arith, inr (omega arith, omega arith))
    go (inr a) (inl b) = subst (Near M (2 ^ 29)) (closest-up M (2 ^ 29) (pow_pos 29) b) (omega arith, omega arith, inr (omega arith, omega arith))
    go (inr a) (inr b) = subst (Near M (2 ^ 29)) (closest-tie M (2 ^ 29) (pow_pos 29) a b) (omega arith, omega arith, inl (omega arith))

module _ (M : ℕ) (lo : 2 ^ 52 ≤ M) (hi : M < 2 ^ 53) where
  -- with an odd last digit M is not half way between two multiples of 2^29
  odd-apart : (h : ℕ) → 1 ≤ M % 2 → M ≤ h * 2 ^ 29 + 2 ^ 28 → h * 2 ^ 29 ≤ M + 2 ^ 28 → (M < h * 2 ^ 29 + 2 ^ 28) × (h * 2 ^ 29 < M + 2 ^ 28)
  odd-apart h o a b = (omega arith, omega arith)

  -- the product has 82 digits
  product-low : closest (M * factor) (2 ^ 29) ≡ M + kept M
  product-low = let n = near M in closest-is (M * factor) (2 ^ 29) (M + kept M) (pow_pos 29) (omega arith, omega arith, go (lt-or-ge (M % 2) 1) n.2)
    where
      go : (M % 2 < 1) ⊎ (1 ≤ M % 2) → Settled M (2 ^ 29) (kept M) → Settled (M * factor) (2 ^ 29) (M + kept M)
      go (inl a) (inl b) = inl (omega arith)
      go (inl a) (inr b) = inr (omega arith, omega arith)
      go (inr a) t = let n = near M in let w = odd-apart (kept M) a (omega arith) (omega arith) in inr (omega arith, omega arith)

  rest-low : closest ((M + kept M) * 2 ^ 29 - M) (2 ^ 29) ≡ M
  rest-low = let n = near M in closest-is ((M + kept M) * 2 ^ 29 - M) (2 ^ 29) M (pow_pos 29) (omega arith, omega arith, go (lt-or-ge (M % 2) 1))
    where
      go : (M % 2 < 1) ⊎ (1 ≤ M % 2) → Settled ((M + kept M) * 2 ^ 29 - M) (2 ^ 29) M
      go (inl a) = inl (omega arith)
      go (inr a) = let n = near M in let w = odd-apart (kept M) a (omega arith) (omega arith) in inr (omega arith, omega arith)

  -- 82 digits again
  digits_low : (h : ℕ) → 2 ^ 23 ≤ h → 2 ^ 81 ≤ (M + h) * 2 ^ 29 - M
  digits_low h g = omega arith

  digits-high : (h : ℕ) → h * 2 ^ 29 * 2 ≤ M * 2 + 2 ^ 29 → (M + h) * 2 ^ 29 - M < 2 ^ 82
  digits-high h g = omega arith

  -- it has 83 digits, and M is close below 2^53
  abbrev top : ℕ
  top = 2 ^ 52 + (M + 2 ^ 24 - 2 ^ 53) / 2

  module _ (h : 2 ^ 82 ≤ M * factor) where
    product_high : closest (M * factor) (2 ^ 30) ≡ top
    product_high = closest-is (M * factor) (2 ^ 30) top (pow_pos 30) (omega arith, omega arith, inr (omega arith, omega arith))

    rest-high : closest (top * 2 ^ 30 - M) (2 ^ 29) ≡ top * 2 - 2 ^ 24
    rest-high = closest-is (top * 2 ^ 30 - M) (2 ^ 29) (top * 2 - 2 ^ 24) (pow_pos 29) (omega arith, omega arith, inr (omega arith, omega arith))

    digits-top : (2 ^ 81 ≤ top * 2 ^ 30 - M) × (top * 2 ^ 30 - M < 2 ^ 82) × (top * 2 ^ 30 - (top * 2 - 2 ^ 24) * 2 ^ 29 ≡ 2 ^ 53)
    digits-top = bounds top (omega arith) (omega arith)
      where
        bounds : (t : ℕ) → 2 ^ 52 ≤ t → t * 2 ≤ M + 2 ^ 24 → (2 ^ 81 ≤ t * 2 ^ 30 - M) × (t * 2 ^ 30 - M < 2 ^ 82) × (t * 2 ^ 30 - (t * 2 - 2 ^ 24) * 2 ^ 29 ≡ 2 ^ 53)
        bounds t a b = (omega arith, omega arith, omega arith)

    kept_high : kept M ≡ 2 ^ 24
    kept_high = closest-is M (2 ^ 29) (2 ^ 24) (pow_pos 29) (omega arith, omega arith, inr (omega arith, omega arith))

-- ---- all of it

-- q * 2 ^ k of the units that 2 ^ E are
scaled : (q E k : ℕ) → q * 2 ^ (E + k) ≡ q * 2 ^ k * 2 ^ E
scaled q E k = ap (λ (z : ℕ). q * z) (pow-add 2 E k ∙ mul_comm (2 ^ E) (2 ^ k)) ∙ sym (mul_assoc q (2 ^ k) (2 ^ E))

unlike-plus : (s : Bool) → unlike s false ≡ s
unlike-plus true = refl
unlike-plus false = refl

module _ (x : Float) (s : Bool) (M E : ℕ) (v : HasValue x s (M * 2 ^ E) (2 ^ 1074)) (lo : 2 ^ 52 ≤ M) (hi : M < 2 ^ 53) (above : 896 ≤ E) (below : E ≤ 1148) where
  -- the product, by the digits that are dropped of it
  product : (k : ℕ) → 2 ^ (52 + k) ≤ M * factor → M * factor < 2 ^ (53 + k) → k ≤ 30 → {P : ℕ} → closest (M * factor) (2 ^ k) * 2 ^ k ≡ P → HasValue (mul binary64 x splitter) s (P * 2 ^ E) (2 ^ 1074)
  product k a b l {P} e =
      let p : mul binary64 x splitter ≡ round binary64 s (M * factor * 2 ^ E) (2 ^ 1074) =
      mul-value binary64 x splitter s false (M * 2 ^ E) (2 ^ 1074) factor 1 (pow_pos 1074) (pow_pos 0) v (refl, refl)
      ∙ ap (λ (z : Bool). round binary64 z (M * 2 ^ E * factor) (2 ^ 1074 * 1)) (unlike-plus s)
      ∙ ap (λ (z : ℕ). round binary64 s z (2 ^ 1074 * 1)) (mul_right_comm M (2 ^ E) factor) in
      let f : E + k ≤ 2044 = omega arith in
      subst (λ (z : Float). HasValue z s (P * 2 ^ E) (2 ^ 1074)) (sym p)
      (subst (λ (z : ℕ). HasValue (round binary64 s (M * factor * 2 ^ E) (2 ^ 1074)) s z (2 ^ 1074)) (scaled (closest (M * factor) (2 ^ k)) E k ∙ ap (λ (z : ℕ). z * 2 ^ E) e)
      (round-wide s (M * factor) E k a b f))

  -- the two differences
  module _ (P D : ℕ) (c : HasValue (mul binary64 x splitter) s (P * 2 ^ E) (2 ^ 1074)) (a : 2 ^ 81 ≤ P - M) (b : P - M < 2 ^ 82) (d : closest (P - M) (2 ^ 29) ≡ D) (e : P - D * 2 ^ 29 ≡ kept M * 2 ^ 29) where
    less : {p q : ℕ} → p < q → p * 2 ^ E < q * 2 ^ E
    less l = mul-lt-mul_of_pos_right l (pow_pos E)

    rest : HasValue (sub binary64 (mul binary64 x splitter) x) s (D * 2 ^ 29 * 2 ^ E) (2 ^ 1074)
    rest =
        let l : M < P = omega arith in
        let f : E + 29 ≤ 2044 = omega arith in
        let p = sub-value binary64 (mul binary64 x splitter) x s (P * 2 ^ E) (M * 2 ^ E) (2 ^ 1074) (pow_pos 1074) c v (less l) ∙ ap (λ (z : ℕ). round binary64 s z (2 ^ 1074)) (sym (sub-mul P M (2 ^ E))) in
        subst (λ (z : Float). HasValue z s (D * 2 ^ 29 * 2 ^ E) (2 ^ 1074)) (sym p)
        (subst (λ (z : ℕ). HasValue (round binary64 s ((P - M) * 2 ^ E) (2 ^ 1074)) s z (2 ^ 1074)) (scaled (closest (P - M) (2 ^ 29)) E 29 ∙ ap (λ (z : ℕ). z * 2 ^ 29 * 2 ^ E) d)
        (round-wide s (P - M) E 29 a b f))

    exact : HasValue (round binary64 s (kept M * 2 ^ 29 * 2 ^ E) (2 ^ 1074)) s (kept M * 2 ^ 29 * 2 ^ E) (2 ^ 1074)
    exact =
        let g = closest-le M 29 hi (lit≤ tt) in
        let w : 2 ^ 24 < 2 ^ 53 = lit< tt in
        let t : 24 + (29 + E) < 2098 = omega arith in
        round_exact binary64 s (kept M * 2 ^ 29 * 2 ^ E) (2 ^ 1074) (kept M) (29 + E) (pow_pos 1074) (lt_of_le_of_lt g w)
        (lt_of_le_of_lt (le_trans (mul-le-mul_right (2 ^ (29 + E)) g) (le_of_eq (sym (pow-add 2 24 (29 + E))))) (pow-lt t))
        (ap (λ (z : ℕ). z * 2 ^ 1074) (mul_assoc (kept M) (2 ^ 29) (2 ^ E) ∙ ap (λ (z : ℕ). kept M * z) (sym (pow-add 2 29 E))))

    rounded-value : HasValue (rounded_of x) s (kept M * 2 ^ 29 * 2 ^ E) (2 ^ 1074)
    unfolding rounded_of
    rounded-value =
        let g = closest-ge M lo in
        let l : D * 2 ^ 29 < P = omega arith in
        let p =
        sub-value binary64 (mul binary64 x splitter) (sub binary64 (mul binary64 x splitter) x) s (P * 2 ^ E) (D * 2 ^ 29 * 2 ^ E) (2 ^ 1074) (pow_pos 1074) c rest (less l)
        ∙ ap (λ (z : ℕ). round binary64 s z (2 ^ 1074)) (sym (sub-mul P (D * 2 ^ 29) (2 ^ E)) ∙ ap (λ (z : ℕ). z * 2 ^ E) e) in
        subst (λ (z : Float). HasValue z s (kept M * 2 ^ 29 * 2 ^ E) (2 ^ 1074)) (sym p) exact

  value : HasValue (rounded_of x) s (kept M * 2 ^ 29 * 2 ^ E) (2 ^ 1074)
  value = go (lt-or-ge (M * factor) (2 ^ 82))
    where
      go : (M * factor < 2 ^ 82) ⊎ (2 ^ 82 ≤ M * factor) → HasValue (rounded_of x) s (kept M * 2 ^ 29 * 2 ^ E) (2 ^ 1074)
      go (inl a) =
          let P = (M + kept M) * 2 ^ 29 in
          rounded-value P M (product 29 (omega arith) a (lit≤ tt) (ap (λ (z : ℕ). z * 2 ^ 29) (product-low M lo hi))) (digits_low M lo hi (kept M) (closest-ge M lo)) (digits-high M lo hi (kept M) (near M).1) (rest-low M lo hi) (omega arith)
      go (inr a) =
          let q = kept_high M lo hi a in
          let d = digits-top M lo hi a in
          let t = top M lo hi in
          rounded-value (t * 2 ^ 30) (t * 2 - 2 ^ 24) (product 30 a (omega arith) (lit≤ tt) (ap (λ (z : ℕ). z * 2 ^ 30) (product_high M lo hi a))) d.0 d.1 (rest-high M lo hi a) (d.2 ∙ ap (λ (z : ℕ). z * 2 ^ 29) (sym q))

  pub rounded-narrows : rounded_of x ≡ narrow_of x
  unfolding rounded_of
  rounded-narrows =
      let k = E - 896 in
      let e : E + 29 ≡ 925 + k = omega arith in
      let l : k ≤ 252 = omega arith in
      unique binary64 (rounded_of x) (narrow_of x) s (kept M * 2 ^ k) (2 ^ 149) (pow_pos 149) (sub-fits binary64 (mul binary64 x splitter) (sub binary64 (mul binary64 x splitter) x)) (fits_widens (narrow_of x) (narrow-fits x))
      (rescale (rounded_of x) s (kept M * 2 ^ 29 * 2 ^ E) (2 ^ 1074) (kept M * 2 ^ k) (2 ^ 149) (pow_pos 1074) (units (E - 896) (omega arith)) value)
      (narrow-value x s M E k v lo hi e l)
    where
      units : (k : ℕ) → k + 1074 ≡ 29 + E + 149 → kept M * 2 ^ k * 2 ^ 1074 ≡ kept M * 2 ^ 29 * 2 ^ E * 2 ^ 149
      units k e =
          mul_assoc (kept M) (2 ^ k) (2 ^ 1074)
          ∙ ap (λ (z : ℕ). kept M * z) (sym (pow-add 2 k 1074) ∙ ap (λ (z : ℕ). 2 ^ z) e ∙ pow-add 2 (29 + E) 149 ∙ ap (λ (z : ℕ). z * 2 ^ 149) (pow-add 2 29 E))
          ∙ sym (mul_assoc (kept M) (2 ^ 29 * 2 ^ E) (2 ^ 149))
          ∙ ap (λ (z : ℕ). z * 2 ^ 149) (sym (mul_assoc (kept M) (2 ^ 29) (2 ^ E)))
