-- Samples as bytes: f32, the lowest byte first. Definitions only, over a list of bytes s and a list of samples xs.
--     pattern_at s k      the pattern that the four bytes of sample k make
--     sample_at s k       sample k. A NaN's pattern, whichever, is read as the one NaN
--     pairs_in s          how many whole pairs s holds. A pair is two samples, near and then far
--     byte_of p j         byte j of a pattern
--     near_in s, far_in s  the near samples of the whole pairs, and the far samples
--     rest_in s           the bytes behind the last whole pair
--     written_at xs i     byte i of the samples in a row. The NaN is written 7FC00000
--     bytes_of xs         the samples' bytes in a row
use Rattle.std.specs.Prelude.{List, ℕ, ◌+◌, ◌*◌, ◌/◌, ◌%◌, eqb, Float, length, get_or, drop}
use Rattle.std.specs.Float.{nan, binary32}
use Rattle.std.specs.Float.Ieee.{of_bits, to_bits}
use Rattle.laws.specs.Choice.{pick}
use Rattle.laws.specs.Tables.{table}

unfoldable pub pattern_at : List ℕ → ℕ → ℕ
pattern_at s k = get_or s (4 * k) 0 + 256 * get_or s (4 * k + 1) 0 + 65536 * get_or s (4 * k + 2) 0 + 16777216 * get_or s (4 * k + 3) 0

unfoldable pub sample_at : List ℕ → ℕ → Float
sample_at s k = of_bits binary32 (pattern_at s k)

abbrev pub pairs_in : List ℕ → ℕ
pairs_in s = length s / 8

unfoldable pub near_in : List ℕ → List Float
near_in s = table (pairs_in s) (λ k. sample_at s (2 * k))

unfoldable pub far_in : List ℕ → List Float
far_in s = table (pairs_in s) (λ k. sample_at s (2 * k + 1))

abbrev pub rest_in : List ℕ → List ℕ
rest_in s = drop (8 * pairs_in s) s

-- what byte j counts
unfoldable pub place_of : ℕ → ℕ
place_of j = pick (eqb j 0) 1 (pick (eqb j 1) 256 (pick (eqb j 2) 65536 16777216))

unfoldable pub byte_of : ℕ → ℕ → ℕ
byte_of p j = p / place_of j % 256

unfoldable pub written_at : List Float → ℕ → ℕ
written_at xs i = byte_of (to_bits binary32 (get_or xs (i / 4) nan)) (i % 4)

unfoldable pub bytes_of : List Float → List ℕ
bytes_of xs = table (4 * length xs) (written_at xs)
