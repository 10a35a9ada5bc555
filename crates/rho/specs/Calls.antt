-- What each call leaves: its answer, the two lent buffers and the output buffer. Definitions only.
use Rattle.std.specs.Prelude.{ℕ, List, [], ◌++◌, eqb, Float, Result, Ok, Err, length, drop, replicate}
use Rattle.laws.specs.Choice.{pick}
use Rattle.refusal.specs.declared.Refusal.{Refusal}
use Rattle.refusal.specs.Refusal.{number_of}
use Rattle.numbers.specs.Finite.{plus}
use Rattle.rho_state.specs.declared.state.RhoCanceller.{RhoCanceller}
use Rattle.rho.specs.declared.calls.Started.{Started}
use Rattle.rho.specs.declared.calls.Answer.{Answer}
use Rattle.rho_state.specs.State.{taps_of, hangover_of, fresh_of, empty_of, report_of}
unfoldable pub use Rattle.rho_state.specs.Refusals.{settings_of, sized_of, ranged_of, create_refusal, state_refusal, pairs_refusal, process_refusal}
use Rattle.rho_sample.specs.Sample.{Engine}
use Rattle.rho.specs.Pairs.{pairs_of}

-- after creation and reset
pub record Begun : Type 0 where
  pub answer : Started
  pub weights : List Float
  pub history : List Float

-- after process and flush (which has no output buffer: [])
pub record Called : Type 0 where
  pub answer : Answer
  pub weights : List Float
  pub history : List Float
  pub out : List Float

-- "Two lent f32 buffers .. both filled with +0.0", and the fresh state
abbrev pub begun_of : ℕ → ℕ → ℕ → Begun
begun_of taps hangover resets =
    record {
      answer = record { refusal = 0; state = fresh_of taps hangover resets };
      weights = replicate taps plus;
      history = replicate taps plus;
    }

unfoldable pub create_of : ℕ → ℕ → List Float → List Float → Begun
create_of rate tail weights history =
    let refusal = create_refusal rate tail (length weights) (length history) in
    pick (eqb refusal 0) (begun_of (taps_of rate tail) (hangover_of rate) 0)
    (record { answer = record { refusal = refusal; state = empty_of }; weights = weights; history = history })

-- "Reset keeps the settings and the counters; all else becomes the fresh state."
unfoldable pub reset_of : Engine → Begun
reset_of e =
    let s = e.state in
    let refusal = state_refusal s (length e.weights) (length e.history) in
    pick (eqb refusal 0) (begun_of s.taps s.hangover_samples s.divergence_resets)
    (record { answer = record { refusal = refusal; state = s }; weights = e.weights; history = e.history })

-- "returns its number, zero delivered and the state as given"
abbrev pub answer_of : ℕ → ℕ → RhoCanceller → Answer
answer_of refusal delivered s = record { refusal = refusal; delivered = delivered; state = s; report = report_of s }

-- what C is answered where `create` answers this, and where `process` or `flush` answers this and leaves the state s
abbrev pub started_of : Result RhoCanceller Refusal → Started
started_of (Ok s) = record { refusal = 0; state = s }
started_of (Err refusal) = record { refusal = number_of refusal; state = empty_of }

abbrev pub answered_of : Result ℕ Refusal → RhoCanceller → Answer
answered_of (Ok delivered) s = answer_of 0 delivered s
answered_of (Err refusal) s = answer_of (number_of refusal) 0 s

-- a call that changes nothing
abbrev pub untouched_of : ℕ → Engine → List Float → Called
untouched_of refusal e out = record { answer = answer_of refusal 0 e.state; weights = e.weights; history = e.history; out = out }

-- "Flush delivers nothing."
unfoldable pub flush_of : Engine → Called
flush_of e = untouched_of (state_refusal e.state (length e.weights) (length e.history)) e []

unfoldable pub process_of : Engine → List Float → List Float → List Float → Called
process_of e near far out =
    let refusal = process_refusal e.state (length e.weights) (length e.history) (length near) (length far) (length out) in
    let run = pairs_of e near far in
    pick (eqb refusal 0)
    (record {
      answer = answer_of 0 (length near) run.engine.state;
      weights = run.engine.weights;
      history = run.engine.history;
      out = run.samples ++ drop (length near) out;
    })
    (untouched_of refusal e out)
