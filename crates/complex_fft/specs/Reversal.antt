-- The reversal table: "The 256-entry reversal table holds at i the eight bits of i in reverse order; it is its own inverse."
use Rattle.std.specs.Prelude.{◌≡◌, List, ℕ, ◌+◌, ◌*◌, ◌/◌, ◌%◌, ◌<◌}
use Rattle.laws.specs.Tables.{table}

-- the eight bits of i in reverse order (`reverse_low_bits`)
abbrev pub rev8 : ℕ → ℕ
rev8 i =
    128 * (i % 2) + 64 * (i / 2 % 2) + 32 * (i / 4 % 2) + 16 * (i / 8 % 2) + 8 * (i / 16 % 2) + 4 * (i / 32 % 2) + 2 * (i / 64 % 2) + i / 128 % 2

unfoldable pub reversal_table : List ℕ
reversal_table = table 256 rev8

-- what is said of entry r at place i
pub record Reversed (i r : ℕ) : Type 0 where
  pub is : r ≡ rev8 i
  pub back : rev8 r ≡ i
  pub small : r < 256
