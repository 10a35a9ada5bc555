-- Numbers as text. Definitions only.
--     Decimal n t        t is n in decimal digits, no more of them than it takes
--     Appended n s t     t is s with n in decimal digits behind it
use Rattle.std.specs.Prelude.{◌≡◌, List, ◌++◌, ℕ}
use Rattle.text.specs.Digits.{last_digits, IsDigitCount}

pub record Decimal (n : ℕ) (t : List ℕ) : Type 0 where
  pub places : ℕ
  pub fewest : IsDigitCount 10 1 n places
  pub is : t ≡ last_digits 10 places n

pub record Appended (n : ℕ) (s t : List ℕ) : Type 0 where
  pub text : List ℕ
  pub decimal : Decimal n text
  pub joined : t ≡ s ++ text
