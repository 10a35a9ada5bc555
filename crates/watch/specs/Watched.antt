-- TauCanceller watched: the engine, where the run is and the counts, call by call. Definitions only.
--     lent_at, lent_begun      of a state, a course, four lent buffers and counts
--     begun_of                 before the first pair
--     fed_by w s               after a call with the pairs of s
--     flushed_by w             after a flush
--     reset_by e c             after a reset
--     pieces_of n w s          after the pairs of s in n pieces at most, each of which fills one block at most
--     Finished c counts s t    of an output with s written, t is what is written once the run is told to its end
use Rattle.std.specs.Prelude.{true, List, ◌++◌, ℕ, zero, suc, ◌-◌, ◌*◌, min, eqb, Float, Option, length, take, drop}
use Rattle.std.specs.Io.KnownBytes.{Appends}
use Rattle.laws.specs.Choice.{pick}
use Rattle.reasons.specs.declared.course.Course.{Course}
use Rattle.reasons.specs.Course.{start_of, closed_of}
use Rattle.reasons.specs.Note.{Stretch, course_after, counts_after}
use Rattle.reasons.specs.Tally.{Summary}
use Rattle.tau_state.specs.declared.state.TauCanceller.{TauCanceller}
use Rattle.tau_frame.specs.Pairs.{Engine}
use Rattle.tau.specs.Calls.{create_of, reset_of}
use Rattle.tau_streams.specs.Stream.{begun_by}
use Rattle.capture.specs.Feeds.{Fed, fed_of}
use Rattle.capture.specs.Program.{left_by, buffer, ended_of}

-- the engine, and where the run is
pub record Begun : Type 0 where
  pub engine : Engine
  pub course : Course

-- and how many blocks had each reason, and overs
pub record Watched : Type 0 where
  pub engine : Engine
  pub course : Course
  pub counts : List ℕ

abbrev pub lent_engine : TauCanceller → List Float → List Float → List Float → List Float → Engine
lent_engine s shadow output spectra powers = record { state = s; shadow = shadow; output = output; spectra = spectra; powers = powers }

abbrev pub lent_begun : TauCanceller → Course → List Float → List Float → List Float → List Float → Begun
lent_begun s c shadow output spectra powers = record { engine = lent_engine s shadow output spectra powers; course = c }

abbrev pub lent_at : TauCanceller → Course → List Float → List Float → List Float → List Float → List ℕ → Watched
lent_at s c shadow output spectra powers counts = record { engine = lent_engine s shadow output spectra powers; course = c; counts = counts }

abbrev pub begun_of : List Float → List Float → List Float → List Float → Begun
begun_of shadow output spectra powers = record { engine = begun_by (create_of 4 true shadow output spectra powers); course = start_of }

-- what a call leaves, and what the block that it reports on adds
abbrev pub told_by : Watched → Fed → Watched
told_by w f =
    let last = f.answer.report.last in
    record { engine = left_by f; course = course_after w.course last; counts = counts_after last w.counts }

abbrev pub fed_by : Watched → List ℕ → Watched
fed_by w s = told_by w (fed_of w.engine s buffer)

abbrev pub flushed_by : Watched → Watched
flushed_by w = told_by w (ended_of w.engine)

abbrev pub reset_by : Engine → Course → Begun
reset_by e c = record { engine = begun_by (reset_of e); course = closed_of c }

-- how many bytes of n go into the next call: the pairs that its block still takes, where so many are left
abbrev pub piece_of : ℕ → ℕ → ℕ
piece_of carried n = min n (8 * (256 - carried))

unfoldable pub pieces_of : ℕ → Watched → List ℕ → Watched
pieces_of zero w s = w
pieces_of (suc n) w s =
    let m = piece_of w.engine.state.carried (length s) in
    pick (eqb (length s) 0) w (pieces_of n (fed_by w (take m s)) (drop m s))

-- the last stretch, where it has blocks, and the summary
pub record Finished (c : Course) (counts : List ℕ) (s t : Option (List ℕ)) : Type 0 where
  pub stretch : List ℕ
  pub is-stretch : Stretch c stretch
  pub summary : List ℕ
  pub is-summary : Summary c.blocks counts summary
  pub written : Appends s t (stretch ++ summary)
