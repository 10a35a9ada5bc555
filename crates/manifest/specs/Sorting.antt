-- Sorting by insertion, for any order of lines, and what a sorted list is. Definitions only.
--     insert_of le x ls     the line x put into ls, before the first line that it is at most
--     sort_of le ls         the lines ls, put one after another into the empty list
--     InOrder le ls        every line of ls is at most each line after it
--     same_line a b         whether two lines are the same bytes
--     times_in x ls         how often the line x stands in ls
--     Permuted ls ms       ls and ms have the same lines, each as often
use Rattle.std.specs.Prelude.{◌≡◌, Bool, true, false, List, [], ◌∷◌, ℕ, ◌+◌, T, eqb}
use Rattle.laws.specs.Choice.{pick}
use Rattle.laws.specs.Kinds.{Each}

module _ (le : List ℕ → List ℕ → Bool) where
  unfoldable pub insert_of : List ℕ → List (List ℕ) → List (List ℕ)
  insert_of x [] = x ∷ []
  insert_of x (l ∷ ls) = pick (le x l) (x ∷ l ∷ ls) (l ∷ insert_of x ls)

  unfoldable pub sort_of : List (List ℕ) → List (List ℕ)
  sort_of [] = []
  sort_of (l ∷ ls) = insert_of l (sort_of ls)

  abbrev pub InOrder : List (List ℕ) → Type 0
  InOrder [] = T true
  InOrder (l ∷ ls) = Each (λ m. le l m ≡ true) ls × InOrder ls

unfoldable pub same_line : List ℕ → List ℕ → Bool
same_line [] [] = true
same_line [] (y ∷ b) = false
same_line (x ∷ a) [] = false
same_line (x ∷ a) (y ∷ b) = pick (eqb x y) (same_line a b) false

unfoldable pub times_in : List ℕ → List (List ℕ) → ℕ
times_in x [] = 0
times_in x (l ∷ ls) = pick (same_line x l) 1 0 + times_in x ls

abbrev pub Permuted : List (List ℕ) → List (List ℕ) → Type 0
Permuted ls ms = (x : List ℕ) → times_in x ls ≡ times_in x ms
