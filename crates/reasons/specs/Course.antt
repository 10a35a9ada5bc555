-- Where a run is, block after block. Definitions only.
--     number_of told, leak_told told   the number of a block's reason, and the leak that it moved with, 0.0 where it did not move
--     start_of                         before the first block
--     goes_on c number leak overs      a block with this reason and so many overs is of the stretch: all three are the same, bit for bit
--     first_with c number leak overs   where the stretch of that block begins
--     after_of c number leak overs     after that block
--     closed_of c                      the same, with no stretch
use Rattle.std.specs.Prelude.{ℕ, Bool, false, ◌==◌, to_bits, Float}
use Rattle.std.specs.Float.{binary64}
use Rattle.laws.specs.Choice.{pick}
use Rattle.laws.specs.Counting.{one_more}
use Rattle.tau_state.specs.Constants.{zero64}
use Rattle.tau_state.specs.declared.report.Told.{Told}
use Rattle.tau_state.specs.Report.{reason_number, outcome_of, leak_in}
use Rattle.reasons.specs.declared.course.Course.{Course}

abbrev pub number_of : Told → ℕ
number_of told = reason_number told.reason

abbrev pub leak_told : Told → Float
leak_told told = leak_in (outcome_of told.reason)

abbrev pub start_of : Course
start_of = record { blocks = 0; first = 0; number = 0; leak = zero64; overs = 0 }

unfoldable pub goes_on : Course → ℕ → Float → ℕ → Bool
goes_on c number leak overs =
    pick (c.number == number) (pick (c.overs == overs) (to_bits binary64 c.leak == to_bits binary64 leak) false) false

unfoldable pub first_with : Course → ℕ → Float → ℕ → ℕ
first_with c number leak overs = pick (goes_on c number leak overs) c.first c.blocks

abbrev pub after_of : Course → ℕ → Float → ℕ → Course
after_of c number leak overs = record {
  blocks = one_more c.blocks;
  first = first_with c number leak overs;
  number = number;
  leak = leak;
  overs = overs;
}

abbrev pub closed_of : Course → Course
closed_of c = record { blocks = c.blocks; first = c.blocks; number = 0; leak = zero64; overs = 0 }
