-- What each call leaves: its answer, the four lent buffers and the output buffer. Definitions only.
use Rattle.std.specs.Prelude.{ℕ, ◌*◌, Bool, List, ◌++◌, eqb, Float, length, drop, replicate}
use Rattle.laws.specs.Choice.{pick}
use Rattle.tau_state.specs.Constants.{zero64}
use Rattle.tau_state.specs.Report.{report_of}
use Rattle.tau_state.specs.declared.state.TauCanceller.{TauCanceller}
use Rattle.tau_state.specs.declared.report.Last.{Last}
use Rattle.tau_state.specs.declared.report.Last.TheVariants.{NoneRan}
use Rattle.tau.specs.declared.calls.Started.{Started}
use Rattle.tau.specs.declared.calls.Answer.{Answer}
use Rattle.tau.specs.declared.calls.Unreported.{Unreported}
use Rattle.tau_fresh.specs.Fresh.{fresh_of, empty_of}
unfoldable pub use Rattle.tau_fresh.specs.Refusals.{settings_of, sized_of, create_refusal, state_refusal, pairs_refusal, process_refusal, flush_refusal}
use Rattle.tau_frame.specs.Pairs.{Engine, Run, pairs_of, flushed_of}

-- after creation and reset
pub record Begun : Type 0 where
  pub answer : Started
  pub shadow : List Float
  pub output : List Float
  pub spectra : List Float
  pub powers : List Float

-- after process and flush
pub record Called : Type 0 where
  pub answer : Answer
  pub shadow : List Float
  pub output : List Float
  pub spectra : List Float
  pub powers : List Float
  pub out : List Float

-- "Creation writes +0.0 to all and gives the state that `reset` gives"
abbrev pub begun_of : ℕ → Bool → ℕ → ℕ → Begun
begun_of parts flag transfers resets = record {
  answer = record { refusal = 0; state = fresh_of parts flag transfers resets };
  shadow = replicate (514 * parts) zero64;
  output = replicate (514 * parts) zero64;
  spectra = replicate (514 * parts) zero64;
  powers = replicate (257 * parts) zero64;
}

-- ".., with both counters zero"
unfoldable pub create_of : ℕ → Bool → List Float → List Float → List Float → List Float → Begun
create_of parts flag sh ou xs ps =
    let refusal = create_refusal parts (length sh) (length ou) (length xs) (length ps) in
    pick (eqb refusal 0) (begun_of parts flag 0 0)
    (record { answer = record { refusal = refusal; state = empty_of }; shadow = sh; output = ou; spectra = xs; powers = ps })

-- "Reset keeps the settings and the counters; all else becomes the fresh state."
unfoldable pub reset_of : Engine → Begun
reset_of e =
    let s = e.state in
    let refusal = state_refusal s (length e.shadow) (length e.output) (length e.spectra) (length e.powers) in
    pick (eqb refusal 0) (begun_of s.partitions s.suppress s.mic.transfers s.mic.divergence_resets)
    (record { answer = record { refusal = refusal; state = s }; shadow = e.shadow; output = e.output; spectra = e.spectra; powers = e.powers })

-- the report is of the last block; "Where none ran, refusals included, the outcome is a fourth case .. and the rest is read from the state"
abbrev pub answer_of : ℕ → ℕ → TauCanceller → Last → Answer
answer_of refusal delivered s last = record { refusal = refusal; delivered = delivered; state = s; report = report_of s.mic last }

-- what an answer is before its report is made of it
abbrev pub reported_of : Unreported → Answer
reported_of u = answer_of u.refusal u.delivered u.state u.last

-- "Each of 1 to 6 returns its number, zero delivered and the state as given, and writes nothing."
abbrev pub refused_of : ℕ → Engine → List Float → Called
refused_of refusal e out = record { answer = answer_of refusal 0 e.state NoneRan; shadow = e.shadow; output = e.output; spectra = e.spectra; powers = e.powers; out = out }

-- "Answer 0 writes only the first `delivered` places of the output buffer."
abbrev pub served_of : Run → List Float → Called
served_of r out =
    let n = length r.samples in
    record {
      answer = answer_of 0 n r.engine.state r.last;
      shadow = r.engine.shadow;
      output = r.engine.output;
      spectra = r.engine.spectra;
      powers = r.engine.powers;
      out = r.samples ++ drop n out;
    }

unfoldable pub process_of : Engine → List Float → List Float → List Float → Called
process_of e near far out =
    let refusal = process_refusal e.state (length e.shadow) (length e.output) (length e.spectra) (length e.powers) (length near) (length far) (length out) in
    pick (eqb refusal 0) (served_of (pairs_of e near far) out) (refused_of refusal e out)

unfoldable pub flush_of : Engine → List Float → Called
flush_of e out =
    let refusal = flush_refusal e.state (length e.shadow) (length e.output) (length e.spectra) (length e.powers) (length out) in
    pick (eqb refusal 0) (served_of (flushed_of e) out) (refused_of refusal e out)

-- the number of a reset's refusal, of a process's and of a flush's
abbrev pub state_number : Engine → ℕ
state_number e = state_refusal e.state (length e.shadow) (length e.output) (length e.spectra) (length e.powers)

abbrev pub process_number : Engine → List Float → List Float → List Float → ℕ
process_number e near far out =
    process_refusal e.state (length e.shadow) (length e.output) (length e.spectra) (length e.powers) (length near) (length far) (length out)

abbrev pub flush_number : Engine → List Float → ℕ
flush_number e out = flush_refusal e.state (length e.shadow) (length e.output) (length e.spectra) (length e.powers) (length out)
