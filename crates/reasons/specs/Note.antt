-- What a call's last block, and a reset, add to a run. Definitions only.
--     number_in last                   the number of the block's reason, 0 where none ran
--     leak_with last                  the leak that it moved with, 0.0 where it did not move
--     course_after c last              where the run is then; counts_after likewise
--     Stretch c t                     t is the line of the stretch, or nothing where it has no blocks
--     Ended c number leak overs t     t is that line where a block with this reason and so many overs ends the stretch, or nothing
--     Ends c last t                   the same of a call's report, which may tell of no block
--     Reset c t                       t is the line of the stretch, and behind it that of a reset
use Rattle.std.specs.Prelude.{◌≡◌, ℕ, ◌-◌, ◌<◌, ◌≤◌, true, false, List, [], ◌∷◌, ◌++◌, ◌==◌, Float}
use Rattle.laws.specs.Choice.{pick}
use Rattle.tau_state.specs.declared.report.Last.{Last}
use Rattle.tau_state.specs.Report.{reason_number, outcome_of, leak_in, reason_in, overs_in}
use Rattle.reasons.specs.declared.course.Course.{Course}
use Rattle.reasons.specs.Line.{Line}
use Rattle.reasons.specs.Course.{goes_on, after_of}
use Rattle.reasons.specs.Tally.{block_counted}

abbrev pub number_in : Last → ℕ
number_in last = reason_number (reason_in last)

abbrev pub leak_with : Last → Float
leak_with last = leak_in (outcome_of (reason_in last))

unfoldable pub course_after : Course → Last → Course
course_after c last = pick (number_in last == 0) c (after_of c (number_in last) (leak_with last) (overs_in last))

unfoldable pub counts_after : Last → List ℕ → List ℕ
counts_after last counts = pick (number_in last == 0) counts (block_counted (number_in last) (overs_in last) counts)

-- the block before the next is the last
pub record Stretch (c : Course) (t : List ℕ) : Type 0 where
  pub none : c.blocks ≤ c.first → t ≡ []
  pub some : c.first < c.blocks → Line c.first (c.blocks - 1) c.number c.leak c.overs t

pub record Ended (c : Course) (number : ℕ) (leak : Float) (overs : ℕ) (t : List ℕ) : Type 0 where
  pub same : goes_on c number leak overs ≡ true → t ≡ []
  pub other : goes_on c number leak overs ≡ false → Stretch c t

pub record Ends (c : Course) (last : Last) (t : List ℕ) : Type 0 where
  pub none : number_in last ≡ 0 → t ≡ []
  pub some : 0 < number_in last → Ended c (number_in last) (leak_with last) (overs_in last) t

-- "reset", with the line's end
abbrev pub reset_word : List ℕ
reset_word = 114 ∷ 101 ∷ 115 ∷ 101 ∷ 116 ∷ 10 ∷ []

pub record Reset (c : Course) (t : List ℕ) : Type 0 where
  pub stretch : List ℕ
  pub is-stretch : Stretch c stretch
  pub is-reset : t ≡ stretch ++ reset_word
