-- The release list: the order of two lines is total, and numbers in them go by their value; a sorted manifest is its lines in that order, and
-- no other text is. Statements; proved in proofs/Manifest.antt.
use Rattle.std.specs.Prelude.{◌≡◌, true, false, ◌&&◌, List, ◌∷◌, ◌++◌, ℕ, ltb, leb, length}
use Rattle.laws.specs.Kinds.{All}
use Rattle.line_order.specs.Order.{is_digit, spelled, at_most}
use Rattle.manifest.specs.Lines.{lines_of, ends_in_newline, joined_of}
use Rattle.manifest.specs.Sorting.{InOrder, Permuted}
use Rattle.manifest.specs.Sorted.{sorted_of}

-- reflexive, transitive, total and antisymmetric
abbrev pub Ordered : Type 0
Ordered =
    ((a : List ℕ) → at_most a a ≡ true)
    × ((a b c : List ℕ) → at_most a b ≡ true → at_most b c ≡ true → at_most a c ≡ true)
    × ((a b : List ℕ) → at_most a b ≡ false → at_most b a ≡ true)
    × ((a b : List ℕ) → at_most a b ≡ true → at_most b a ≡ true → a ≡ b)

-- two numerals, by themselves and behind a beginning that ends in a byte that is no digit: where they spell different numbers, these decide
abbrev pub Numerals : Type 0
Numerals = (ds es : List ℕ) → All (λ d. is_digit d ≡ true) ds → All (λ d. is_digit d ≡ true) es → (spelled ds ≡ spelled es → ⊥)
    → (at_most ds es ≡ leb (spelled ds) (spelled es))
    × ((q : List ℕ) (c : ℕ) → is_digit c ≡ false → at_most (q ++ c ∷ ds) (q ++ c ∷ es) ≡ leb (spelled ds) (spelled es))

-- two bytes that differ and are not both digits, at the beginning or behind a byte that is no digit: they decide
abbrev pub Bytes : Type 0
Bytes =
    ((x y : ℕ) (s t : List ℕ) → (is_digit x && is_digit y) ≡ false → (x ≡ y → ⊥) → at_most (x ∷ s) (y ∷ t) ≡ ltb x y)
    × ((q : List ℕ) (c : ℕ) (u v : List ℕ) → is_digit c ≡ false → at_most (q ++ c ∷ u) (q ++ c ∷ v) ≡ at_most u v)

-- and zeros that lead do not change the number
abbrev pub Zeros : Type 0
Zeros = (ds : List ℕ) → spelled (48 ∷ ds) ≡ spelled ds

pub record Sorted (text : List ℕ) : Type 0 where
  -- the answer's lines are in order,
  pub ordered : InOrder at_most (lines_of (sorted_of text))
  -- they are the manifest's lines, each as often, and no byte is added or lost,
  pub same : Permuted (lines_of (sorted_of text)) (lines_of text)
  pub long : length (sorted_of text) ≡ length text
  pub whole : joined_of (ends_in_newline text) (lines_of text) ≡ text
  -- and whoever puts the manifest's lines in order gets this text
  pub only : (ls : List (List ℕ)) → Permuted ls (lines_of text) → InOrder at_most ls → joined_of (ends_in_newline text) ls ≡ sorted_of text
  -- so to sort it again changes nothing
  pub again : sorted_of (sorted_of text) ≡ sorted_of text

abbrev pub Sorts : Type 0
Sorts = (text : List ℕ) → Sorted text
