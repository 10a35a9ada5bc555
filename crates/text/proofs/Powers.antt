-- What the proofs of `digits::digit_count` and `put_decimal` want of powers of a base.
use Prim.Native.Nat.{ℕ, ◌+◌, ◌-◌, ◌*◌, ◌^◌, ◌≤◌, ◌<◌}
use native.Mathlib.Nat.{mul_comm, le_of_suc-le-suc, pow-suc, one-le-pow, pow-le-pow_right, lt_of_not-le}
use native.Mathlib.Numerals.{add-one}
use native.Mathlib.Omega.{arith}
use mathlib.Core.Path.{◌≡◌, sym, ap, subst, ◌∙◌}
use Rattle.text.specs.Digits.{IsDigitCount}

pub count-some : (n b k : ℕ) → b ^ k ≤ n → n < b * b ^ k → IsDigitCount b 1 n (k + 1)
count-some n b k h l =
    let e : b ^ (k + 1) ≡ b ^ k * b = ap (λ (j : ℕ). b ^ j) (add-one k) ∙ pow-suc b k in
    let m = mul_comm b (b ^ k) in
    (omega arith, omega arith, λ _. subst (λ (j : ℕ). b ^ j ≤ n) (same k) h)
  where
    same : (k : ℕ) → k ≡ k + 1 - 1
    same k = omega arith

pub count-none : (n b : ℕ) → 0 < b → n ≡ 0 → IsDigitCount b 1 n 1
count-none n b h e = let p = one-le-pow 1 b h in (omega arith, omega arith, λ l. absurd (omega arith))

-- more digits than the fewest hold n too
pub count-padded : (n b width k most : ℕ) → 0 < b → 0 < width → IsDigitCount b 1 n k → width ≤ most → k ≤ most → (width < most → most ≡ k) → IsDigitCount b width n most
count-padded n b width k most h w f a c e =
    let q : b ^ k ≤ b ^ most = pow-le-pow_right h c in
    let g = f.1 in
    (a, omega arith, λ l. let i : most ≡ k = e l in subst (λ (j : ℕ). b ^ (j - 1) ≤ n) (sym i) (f.2 (omega arith)))

digit_count_not_above : (b width n k most : ℕ) → 0 < b → IsDigitCount b width n k → width ≤ most → n < b ^ most → most < k → ⊥
digit_count_not_above b width n k most h fewest within holds over =
    let p : b ^ (k - 1) ≤ n = fewest.2 (omega arith) in
    let q : b ^ most ≤ b ^ (k - 1) = pow-le-pow_right h (omega arith) in
    omega arith

-- where `most` digits hold n, the fewest are no more
pub digit_count_le : (b width n k most : ℕ) → 0 < b → IsDigitCount b width n k → width ≤ most → n < b ^ most → k ≤ most
digit_count_le b width n k most h fewest within holds = le_of_suc-le-suc (lt_of_not-le (digit_count_not_above b width n k most h fewest within holds))

-- a number below 2 ^ 64 has at most 20 decimal digits
pub few : (n k : ℕ) → n < 2 ^ 64 → IsDigitCount 10 1 n k → k ≤ 20
few n k h f = digit_count_le 10 1 n k 20 (omega arith) f (omega arith) (omega arith)
