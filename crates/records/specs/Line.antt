-- A record's line: its number, the place of its first byte, what it is; and the line's end. Definitions only.
--     What kind size s t                 t is s with what the record is behind it: `pairs N`, `output N`, `flush` or `reset`
--     Line number place kind size t      t is the line of a record whose payload has `size` bytes
use Rattle.std.specs.Prelude.{◌≡◌, List, [], ◌∷◌, ◌++◌, ℕ, ◌/◌}
use Rattle.text.specs.Text.{Appended}

-- words in ASCII, with the blank before each and, where a count follows, the blank behind it
abbrev pub pairs_word : List ℕ
pairs_word = 32 ∷ 112 ∷ 97 ∷ 105 ∷ 114 ∷ 115 ∷ 32 ∷ []

abbrev pub output_word : List ℕ
output_word = 32 ∷ 111 ∷ 117 ∷ 116 ∷ 112 ∷ 117 ∷ 116 ∷ 32 ∷ []

abbrev pub flush_word : List ℕ
flush_word = 32 ∷ 102 ∷ 108 ∷ 117 ∷ 115 ∷ 104 ∷ []

abbrev pub reset_word : List ℕ
reset_word = 32 ∷ 114 ∷ 101 ∷ 115 ∷ 101 ∷ 116 ∷ []

pub record What (kind size : ℕ) (s t : List ℕ) : Type 0 where
  pub pairs : kind ≡ 1 → Appended (size / 8) (s ++ pairs_word) t
  pub output : kind ≡ 2 → Appended (size / 4) (s ++ output_word) t
  pub flush : kind ≡ 3 → t ≡ s ++ flush_word
  pub reset : kind ≡ 4 → t ≡ s ++ reset_word

-- `counted` is the line up to the number, `placed` up to the place, `named` all but its end
pub record Line (number place kind size : ℕ) (t : List ℕ) : Type 0 where
  pub counted : List ℕ
  pub placed : List ℕ
  pub named : List ℕ
  pub is_number : Appended number [] counted
  pub is-place : Appended place (counted ++ (32 ∷ [])) placed
  pub is-what : What kind size placed named
  pub is-line : t ≡ named ++ (10 ∷ [])
