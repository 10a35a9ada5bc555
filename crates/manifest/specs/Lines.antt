-- A text and its lines. A text is a list of bytes, and a line a list of bytes that has no newline, which is the byte 10.
-- Definitions only.
--     lines_of s           the lines of the text s. "a\n" has one, "a\nb" two, "\n\n" two empty ones and "" none
--     on_first b ls        the lines ls, the first of them with the byte b before it; a line of its own where there is none
--     ends_in_newline s     whether the text's last byte is a newline
--     joined_of e ls       the lines ls as a text: a newline after each but the last, and after the last too where e says so
use Rattle.std.specs.Prelude.{Bool, false, List, [], ◌∷◌, ◌++◌, ℕ, eqb}
use Rattle.laws.specs.Choice.{pick}

unfoldable pub on_first : ℕ → List (List ℕ) → List (List ℕ)
on_first b [] = (b ∷ []) ∷ []
on_first b (l ∷ ls) = (b ∷ l) ∷ ls

unfoldable pub lines_of : List ℕ → List (List ℕ)
lines_of [] = []
lines_of (b ∷ s) = pick (eqb b 10) ([] ∷ lines_of s) (on_first b (lines_of s))

unfoldable pub ends_in_newline : List ℕ → Bool
ends_in_newline [] = false
ends_in_newline (b ∷ []) = eqb b 10
ends_in_newline (b ∷ c ∷ s) = ends_in_newline (c ∷ s)

unfoldable pub joined_of : Bool → List (List ℕ) → List ℕ
joined_of e [] = []
joined_of e (l ∷ []) = l ++ pick e (10 ∷ []) []
joined_of e (l ∷ m ∷ ls) = l ++ (10 ∷ joined_of e (m ∷ ls))
