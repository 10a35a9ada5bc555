-- What a call of `sort` gives. Definitions only, over the manifest, a text, and the buffer that the call is lent.
--     sorted_of text          the manifest's lines in order, as a text. It ends in a newline where the manifest does
--     refused_of n out        the answer of a refused call: nothing is written. n is 1 for a manifest of more than 65,536 bytes, 2 for one
--                            of more than 4,096 lines, 3 for a buffer shorter than the manifest
--     answer_of text out      the answer of any call. A sorted manifest stands at the buffer's start, and what lies behind it stays
use Rattle.std.specs.Prelude.{List, ◌++◌, ℕ, ltb, length, drop}
use Rattle.laws.specs.Choice.{pick}
use Rattle.line_order.specs.Order.{at_most}
use Rattle.manifest.specs.Lines.{lines_of, ends_in_newline, joined_of}
use Rattle.manifest.specs.Sorting.{sort_of}

unfoldable pub sorted_of : List ℕ → List ℕ
sorted_of text = joined_of (ends_in_newline text) (sort_of at_most (lines_of text))

-- the refusal, 0 where there is none; how many bytes are written; and the buffer after the call
pub record Answer : Type 0 where
  pub refusal : ℕ
  pub written : ℕ
  pub out : List ℕ

unfoldable pub refused_of : ℕ → List ℕ → Answer
refused_of n out = record { refusal = n; written = 0; out = out }

unfoldable pub answer_of : List ℕ → List ℕ → Answer
answer_of text out =
    pick (ltb 65536 (length text)) (refused_of 1 out)
    (pick (ltb 4096 (length (lines_of text))) (refused_of 2 out)
    (pick (ltb (length out) (length text)) (refused_of 3 out)
    (record { refusal = 0; written = length text; out = sorted_of text ++ drop (length text) out })))
