-- What each call leaves: its answer, the four lent buffers and the buffer for records. Definitions only.
--     whole_in s            the bytes of the whole pairs among s
--     taken_of pairs        the bytes that a feed takes: of the whole pairs, at most 512 of them
--     feed_of e pairs out   a feed: at out's front a record of kind 1 with the bytes taken, and behind it one of kind 2 with the bytes of
--                          what they delivered
--     finish_of e out       a flush: a record of kind 3, and behind it one of kind 2 with the bytes of what it delivered
-- A call is refused as the canceller's own is, and then with 5 where out has fewer places than such a call may need: 6,156 for the
-- records of 4,096 and of 2,048 bytes, 1,036 for those of none and of 1,024. The canceller's call writes to capture's buffers, so that what
-- is proved there of its program holds of these calls.
use Rattle.std.specs.Prelude.{List, [], ◌++◌, ℕ, ◌*◌, eqb, leb, Float, length, take, drop, Result, Ok, Err}
use Rattle.laws.specs.Choice.{pick}
use Rattle.tau_state.specs.declared.state.TauCanceller.{TauCanceller}
use Rattle.tau_fresh.specs.Refusals.{state_refusal}
use Rattle.tau_frame.specs.Pairs.{Engine}
use Rattle.wire.specs.Wire.{pairs_in}
use Rattle.capture.specs.Feeds.{Fed, fed_of, finished_of}
use Rattle.capture.specs.Program.{sent_by, buffer, last_buffer}
use Rattle.refusal.specs.declared.Refusal.{Refusal}
use Rattle.refusal.specs.Refusal.{number_of}
use Rattle.record.specs.Record.{record_of}
use Rattle.recorded.specs.declared.Recorded as declared

abbrev pub whole_in : List ℕ → List ℕ
whole_in s = take (8 * pairs_in s) s

abbrev pub taken_of : List ℕ → List ℕ
taken_of pairs = whole_in (take 4096 pairs)

-- the answer by numbers, of which the promises speak: what is refused has written nothing, and leaves the state as it was
pub record Recorded : Type 0 where
  pub refusal : ℕ
  pub written : ℕ
  pub state : TauCanceller

abbrev pub recorded_of : TauCanceller → Result declared.Recorded Refusal → Recorded
recorded_of s (Ok r) = record { refusal = 0; written = r.written; state = r.state }
recorded_of s (Err refusal) = record { refusal = number_of refusal; written = 0; state = s }

-- after a call
pub record Left : Type 0 where
  pub answer : Recorded
  pub shadow : List Float
  pub output : List Float
  pub spectra : List Float
  pub powers : List Float
  pub out : List ℕ

-- a refusal leaves all as it was
abbrev pub refused_of : ℕ → Engine → List ℕ → Left
refused_of refusal e out = record {
  answer = record { refusal = refusal; written = 0; state = e.state };
  shadow = e.shadow;
  output = e.output;
  spectra = e.spectra;
  powers = e.powers;
  out = out;
}

-- a call of the canceller with its records in front of out
abbrev pub accepted_of : Fed → List ℕ → List ℕ → Left
accepted_of f records out = record {
  answer = record { refusal = 0; written = length records; state = f.answer.state };
  shadow = f.shadow;
  output = f.output;
  spectra = f.spectra;
  powers = f.powers;
  out = records ++ drop (length records) out;
}

-- the canceller's own refusal comes first
unfoldable pub recorded_by : Engine → Fed → List ℕ → ℕ → List ℕ → Left
recorded_by e f records places out =
    let refusal = f.answer.refusal in
    pick (eqb refusal 0) (pick (leb places (length out)) (accepted_of f records out) (refused_of 5 e out)) (refused_of refusal e out)

-- two records in a row: what went in, and what came out
abbrev pub both_of : ℕ → List ℕ → List ℕ → List ℕ
both_of kind payload delivered = record_of kind payload ++ record_of 2 delivered

unfoldable pub feed_of : Engine → List ℕ → List ℕ → Left
feed_of e pairs out =
    let taken = taken_of pairs in
    let f = fed_of e taken buffer in
    recorded_by e f (both_of 1 taken (sent_by f)) 6156 out

unfoldable pub finish_of : Engine → List ℕ → Left
finish_of e out = let f = finished_of e last_buffer in recorded_by e f (both_of 3 [] (sent_by f)) 1036 out

-- the refusal by the state, the lent buffers and the places of out alone, which the code finds before it begins
unfoldable pub first_refusal : TauCanceller → ℕ → ℕ → ℕ → ℕ → ℕ → ℕ → ℕ
first_refusal s shadow output spectra powers places room =
    let first = state_refusal s shadow output spectra powers in
    pick (eqb first 0) (pick (leb places room) 0 5) first
