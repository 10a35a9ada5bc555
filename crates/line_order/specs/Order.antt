-- The order of two lines of a manifest, over lists of bytes. Definitions only.
--     is_digit b           b is one of the ten digits
--     run s               the digits that s begins with
--     spelled ds          the number that the digits ds spell
--     key s               s with each run of digits put as 48 and the number that it spells
--     earlier tie s t     s comes before t; where they are the same, the answer is `tie`
--     at_most a b          the line a comes before the line b, or is the same
use Rattle.std.specs.Prelude.{Bool, true, false, ◌&&◌, ℕ, ◌+◌, ◌-◌, ◌*◌, eqb, ltb, leb}
use mathlib.Core.List.{List, [], ◌∷◌, foldl}
use Rattle.laws.specs.Choice.{pick}

-- The digits are the bytes from 48 to 57.
unfoldable pub is_digit : ℕ → Bool
is_digit b = leb 48 b && leb b 57

-- The run ends before the first byte that is no digit.
unfoldable pub run : List ℕ → List ℕ
run [] = []
run (b ∷ s) = pick (is_digit b) (b ∷ run s) []

-- What n's digits and one more, d, spell.
unfoldable pub with_digit : ℕ → ℕ → ℕ
with_digit n d = 10 * n + (d - 48)

-- The digits are read from left to right.
unfoldable pub spelled : List ℕ → ℕ
spelled ds = foldl with_digit 0 ds

-- A run's first digit gives 48 and the number, and the run's other digits, which stand `inside` it, give nothing. Any other byte gives itself.
unfoldable pub key_from : Bool → List ℕ → List ℕ
key_from inside [] = []
key_from inside (b ∷ s) = pick (is_digit b) (pick inside (key_from true s) (48 ∷ spelled (run (b ∷ s)) ∷ key_from true s)) (b ∷ key_from false s)

-- The 48 says that a number follows: a byte that gives itself is no digit, and so not 48. Hence a number is compared only with a number,
-- and where one line has a number and the other a byte, 48 is compared with that byte, as a digit would be.
unfoldable pub key : List ℕ → List ℕ
key s = key_from false s

-- The first place that differs decides. A list that ends first comes first.
unfoldable pub earlier : Bool → List ℕ → List ℕ → Bool
earlier tie [] [] = tie
earlier tie [] (y ∷ t) = true
earlier tie (x ∷ s) [] = false
earlier tie (x ∷ s) (y ∷ t) = pick (eqb x y) (earlier tie s t) (ltb x y)

-- The keys decide, and where these are the same the bytes.
unfoldable pub at_most : List ℕ → List ℕ → Bool
at_most a b = earlier (earlier true a b) (key a) (key b)
