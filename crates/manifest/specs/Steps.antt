-- What the steps of the sort work on. Definitions only.
--     up_to s                 the bytes of s before its first newline
--     lines_in lent           the lines that a slice of slices lends
--     Holds lent ls n         the first n entries of the slice are the lines ls
--     piece_of room l         the line l with a newline behind it, as much of the two as there is room for
use Rattle.std.specs.Prelude.{◌≡◌, List, [], ◌∷◌, ◌++◌, map, ℕ, ◌≤◌, eqb, length, take}
use Rattle.std.specs.Borrow.{Bor}
use Rattle.laws.specs.Choice.{pick}

unfoldable pub up_to : List ℕ → List ℕ
up_to [] = []
up_to (b ∷ s) = pick (eqb b 10) [] (b ∷ up_to s)

abbrev pub lines_in : List (Bor (List ℕ)) → List (List ℕ)
lines_in lent = map (λ l. l.now) lent

pub record Holds (lent : List (Bor (List ℕ))) (ls : List (List ℕ)) (n : ℕ) : Type 0 where
  pub within : n ≤ length lent
  pub count : n ≡ length ls
  pub same : lines_in (take n lent) ≡ ls

unfoldable pub piece_of : ℕ → List ℕ → List ℕ
piece_of room l = take room (l ++ (10 ∷ []))
