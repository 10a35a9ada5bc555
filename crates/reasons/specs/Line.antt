-- A stretch's line: which blocks, why the output filter stood still in them, and how many samples went over in each. Definitions only.
--     Blocks first last t                    t is `block N` or `blocks N-M`
--     Why number leak s t                    t is s with the reason behind it, and where it moved the leak
--     Overs overs s t                        t is s with how many went over behind it, where any did
--     Line first last number leak overs t    t is the line
use Rattle.std.specs.Prelude.{◌≡◌, ℕ, ◌<◌, ◌≤◌, List, [], ◌∷◌, ◌++◌, ◌≢◌, Float}
use Rattle.text.specs.Text.{Appended}
use Rattle.reasons.specs.Words.{words_of, over_words}
use Rattle.reasons.specs.Leak.{Leak}

-- "block "
abbrev pub block_word : List ℕ
block_word = 98 ∷ 108 ∷ 111 ∷ 99 ∷ 107 ∷ 32 ∷ []

-- "blocks "
abbrev pub blocks_word : List ℕ
blocks_word = 98 ∷ 108 ∷ 111 ∷ 99 ∷ 107 ∷ 115 ∷ 32 ∷ []

-- ", leak "
abbrev pub leak_word : List ℕ
leak_word = 44 ∷ 32 ∷ 108 ∷ 101 ∷ 97 ∷ 107 ∷ 32 ∷ []

-- `begun` is the text up to the first number; a dash follows
pub record Span (first last : ℕ) (t : List ℕ) : Type 0 where
  pub begun : List ℕ
  pub is-first : Appended first blocks_word begun
  pub is_last : Appended last (begun ++ (45 ∷ [])) t

pub record Blocks (first last : ℕ) (t : List ℕ) : Type 0 where
  pub one : last ≤ first → Appended first block_word t
  pub more : first < last → Span first last t

pub record Why (number : ℕ) (leak : Float) (s t : List ℕ) : Type 0 where
  pub still : (number ≢ 9) → t ≡ s ++ words_of number
  pub moved : number ≡ 9 → Leak leak ((s ++ words_of number) ++ leak_word) t

-- `number` is the text up to the count; a comma and a blank stand before it, and a blank behind
pub record Many (overs : ℕ) (s t : List ℕ) : Type 0 where
  pub number : List ℕ
  pub is_number : Appended overs (s ++ (44 ∷ 32 ∷ [])) number
  pub is-many : t ≡ number ++ (32 ∷ over_words)

pub record Overs (overs : ℕ) (s t : List ℕ) : Type 0 where
  pub none : overs ≡ 0 → t ≡ s
  pub some : 0 < overs → Many overs s t

-- `named` is the line up to the blocks, `said` up to the reason, `counted` all but its end; a colon and a blank stand behind the blocks
pub record Line (first last number : ℕ) (leak : Float) (overs : ℕ) (t : List ℕ) : Type 0 where
  pub named : List ℕ
  pub said : List ℕ
  pub counted : List ℕ
  pub is-named : Blocks first last named
  pub is_said : Why number leak (named ++ (58 ∷ 32 ∷ [])) said
  pub is-counted : Overs overs said counted
  pub is-line : t ≡ counted ++ (10 ∷ [])
