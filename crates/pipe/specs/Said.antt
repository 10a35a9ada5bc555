-- The line that a program says on standard error. Definitions only.
--     line_of name text      the name, a colon and a blank, the text, and a newline
use Rattle.std.specs.Prelude.{List, ◌∷◌, [], ◌++◌, ℕ}

abbrev pub line_of : List ℕ → List ℕ → List ℕ
line_of name text = name ++ (58 ∷ 32 ∷ (text ++ (10 ∷ [])))
