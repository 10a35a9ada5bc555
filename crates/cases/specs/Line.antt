-- The form of a line, and the numbers in it, over a list of bytes. Definitions only.
--     digit_of b          the value of the hex digit b
--     number_at s at n    the number that the n digits from `at` on spell
--     fits_at size k b    b may stand at place k of a line of `size` bytes
--     is_case s           every byte of s fits at its place
use Rattle.std.specs.Prelude.{Bool, true, ◌&&◌, List, ℕ, ◌+◌, ◌-◌, ◌*◌, ◌%◌, eqb, ltb, leb, length, get_or}
use Rattle.laws.specs.Choice.{pick}
use Rattle.laws.specs.Loops.{iter}

-- `0` to `9` are 48 to 57, and `a` to `f` 97 to 102. Any other byte gives 16, which no digit is.
unfoldable pub digit_of : ℕ → ℕ
digit_of b = pick (ltb b 48) 16 (pick (leb b 57) (b - 48) (pick (ltb b 97) 16 (pick (leb b 102) (b - 87) 16)))

-- the first digit counts most; a byte that is no digit counts as 0
unfoldable pub number_at : List ℕ → ℕ → ℕ → ℕ
number_at s at n = iter (λ k x. 16 * x + digit_of (get_or s (at + k) 0) % 16) 0 n

-- first the letter, which may be any byte, at the end the line's end, at 1, 18, 35 and so on a blank, elsewhere a digit
unfoldable pub fits_at : ℕ → ℕ → ℕ → Bool
fits_at size k b = pick (eqb k 0) true (pick (eqb (k + 1) size) (eqb b 10) (pick (eqb (k % 17) 1) (eqb b 32) (ltb (digit_of b) 16)))

unfoldable pub is_case : List ℕ → Bool
is_case s = iter (λ k fits. fits && fits_at (length s) k (get_or s k 0)) true (length s)
