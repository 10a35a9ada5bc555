-- How many blocks had each reason, in how many a sample went over, and the summary at the end of a run. Definitions only.
--     counted_of number counts            one more under this number
--     block_counted number overs counts   the counts after a block with this reason and so many overs: number 10 is that of blocks with any
--     Heading blocks t                   t is how many blocks there were, behind a blank line where there were any
--     Row count number s t               t is s with a number's row behind it, where blocks had it
--     Rows counts n s t                  t is s with the rows of the numbers 1 to n behind it
--     Summary blocks counts t            t is the heading, and all rows
use Rattle.std.specs.Prelude.{◌≡◌, ℕ, zero, suc, ◌<◌, List, [], ◌∷◌, ◌++◌, ◌==◌, slice_index, slice_set}
use Rattle.laws.specs.Choice.{pick}
use Rattle.laws.specs.Counting.{one_more}
use Rattle.text.specs.Text.{Appended}
use Rattle.reasons.specs.Words.{words_of}

abbrev pub counted_of : ℕ → List ℕ → List ℕ
counted_of number counts = slice_set counts number (one_more (slice_index counts number))

unfoldable pub block_counted : ℕ → ℕ → List ℕ → List ℕ
block_counted number overs counts = pick (overs == 0) (counted_of number counts) (counted_of 10 (counted_of number counts))

-- "0 blocks", " block" and " blocks", each with the line's end
abbrev pub none_words : List ℕ
none_words = 48 ∷ 32 ∷ 98 ∷ 108 ∷ 111 ∷ 99 ∷ 107 ∷ 115 ∷ 10 ∷ []

abbrev pub one_word : List ℕ
one_word = 32 ∷ 98 ∷ 108 ∷ 111 ∷ 99 ∷ 107 ∷ 10 ∷ []

abbrev pub more_word : List ℕ
more_word = 32 ∷ 98 ∷ 108 ∷ 111 ∷ 99 ∷ 107 ∷ 115 ∷ 10 ∷ []

-- `counted` is the text up to the number
pub record Some (blocks : ℕ) (word t : List ℕ) : Type 0 where
  pub counted : List ℕ
  pub is_number : Appended blocks (10 ∷ []) counted
  pub is-heading : t ≡ counted ++ word

pub record Heading (blocks : ℕ) (t : List ℕ) : Type 0 where
  pub none : blocks ≡ 0 → t ≡ none_words
  pub one : blocks ≡ 1 → Some blocks one_word t
  pub more : 1 < blocks → Some blocks more_word t

pub record Had (count number : ℕ) (s t : List ℕ) : Type 0 where
  pub counted : List ℕ
  pub is-count : Appended count s counted
  pub is_row : t ≡ ((counted ++ (32 ∷ [])) ++ words_of number) ++ (10 ∷ [])

pub record Row (count number : ℕ) (s t : List ℕ) : Type 0 where
  pub none : count ≡ 0 → t ≡ s
  pub some : 0 < count → Had count number s t

-- the rows of the numbers 1 to n, and behind them that of n + 1
pub record Next (Before : List ℕ → Type 0) (count number : ℕ) (t : List ℕ) : Type 0 where
  pub above : List ℕ
  pub is-above : Before above
  pub is_row : Row count number above t

unfoldable pub Rows : List ℕ → ℕ → List ℕ → List ℕ → Type 0
Rows counts zero s t = t ≡ s
Rows counts (suc n) s t = Next (Rows counts n s) (slice_index counts (suc n)) (suc n) t

pub record Summary (blocks : ℕ) (counts t : List ℕ) : Type 0 where
  pub heading : List ℕ
  pub is-heading : Heading blocks heading
  pub is-summary : Rows counts 10 heading t
