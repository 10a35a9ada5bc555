-- A number's digits in a base of 16 at most. Definitions only.
--     digit_ascii d              the byte of the digit d: `0` to `9`, then `a` to `f`
--     last_digits b k n          the last k digits of n in base b, the most significant first
--     IsDigitCount b width n k   n takes k digits in base b, when padded to `width` digits
use Rattle.std.specs.Prelude.{ℕ, zero, suc, ◌+◌, ◌-◌, ◌/◌, ◌%◌, ◌^◌, ◌<◌, ◌≤◌, cond, List, [], ◌∷◌, ◌++◌, nat_lt}

abbrev pub digit_ascii : ℕ → ℕ
digit_ascii d = cond (nat_lt d 10) (48 + d) (87 + d)

abbrev pub last_digits : ℕ → ℕ → ℕ → List ℕ
last_digits b zero n = []
last_digits b (suc k) n = last_digits b k (n / b) ++ (digit_ascii (n % b) ∷ [])

abbrev pub IsDigitCount : ℕ → ℕ → ℕ → ℕ → Type 0
IsDigitCount b width n k = (width ≤ k) × (n < b ^ k) × (width < k → b ^ (k - 1) ≤ n)
