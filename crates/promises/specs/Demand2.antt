-- Demand 2: "the transform and RhoCanceller equal the Rust on every accepted input; TauCanceller equals the Rust completed with document
-- 01's house detector." What a call equals is its contract: docs/PROMISES.md names the definition of each, and the definitions follow
-- document 01's steps. Here is what a reader may want to be told of them: an accepted call is the definition's run and nothing else,
-- and writes only what it delivers; what a report says; the counter of transfers counts moves, and the counter of resets counts clears.
-- Statements; proved in proofs/Demand2.antt.
use Rattle.std.specs.Prelude.{◌≡◌, Bool, List, ℕ, ◌+◌, ◌-◌, ◌^◌, ◌≤◌, min, Float, length}
use Rattle.trig.specs.Tables.{recombination}
use Rattle.complex_fft.specs.Reversal.{reversal_table}
use Rattle.complex_fft.specs.ComplexFft.{run_of}
use Rattle.complex_fft.specs.Calls.{complex_of}
use Rattle.fft.specs.RealFft.{spectrum_with, samples_with, overs_with}
use Rattle.fft.specs.Calls.{forward_of, inverse_of, spectrum_of, samples_of, overs_of, forward_with_of, inverse_with_of, half_of_samples, half_with_of}
use Rattle.rho_sample.specs.Sample as sample
use Rattle.rho.specs.Calls as rho
use Rattle.rho_state.specs.State as rho_states
use Rattle.rho_streams.specs.Stream as rho_stream
use Rattle.tau_steps.specs.Bounds.{Leak}
use Rattle.tau_paths.specs.Paths.{counted}
use Rattle.tau_state.specs.Report.{outcome_of, report_of}
use Rattle.tau_state.specs.declared.report.Outcome.TheVariants.{NotRun, Move}
use Rattle.tau_block.specs.Block.{Block, run_block}
use Rattle.tau_block_laws.specs.Resets.{clears_of, how_many, more_by, ShadowClears, OutputClears, UpdateClears, GuardClears}
use Rattle.tau_frame.specs.Pairs.{Engine, delivers_of, pairs_of, flushed_of}
use Rattle.tau.specs.Calls as tau
use Rattle.tau_streams.specs.Stream as tau_stream

-- the transform, where the lengths are right
abbrev pub TransformRuns : Type 0
TransformRuns = (x s out : List Float) → length x ≡ 512 → length s ≡ 514
    → (length out ≡ 514 → forward_of x out ≡ record { answer = 0; out = spectrum_of x })
    × (length out ≡ 512 → inverse_of s out ≡ record { answer = 0; overs = overs_of s; out = samples_of s })

-- the transform of 256 points, and the forms over a lent table t and a lent scratch
abbrev pub ComplexRuns : Type 0
ComplexRuns = (inverse : Bool) (points : List Float) → length points ≡ 512
    → complex_of inverse points ≡ record { answer = 0; out = run_of recombination reversal_table inverse points }

abbrev pub LentRuns : Type 0
LentRuns = (t scratch x s out : List Float) (later : Bool) → length t ≡ 514 → length scratch ≡ 1024 → length x ≡ 512 → length s ≡ 514
    → (length out ≡ 514 → forward_with_of t scratch x out ≡ record { answer = 0; out = spectrum_with t reversal_table x })
    × (length out ≡ 512 → inverse_with_of t scratch s out ≡ record { answer = 0; overs = overs_with t reversal_table s; out = samples_with t reversal_table s })
    × (length out ≡ 256 → half_with_of t scratch s later out ≡ record { answer = 0; overs = overs_with t reversal_table s; out = half_of_samples later (samples_with t reversal_table s) })

-- ---- accepted calls

-- "Creation writes +0.0 to all and gives the state that `reset` gives, with both counters zero." "Reset keeps the settings and the
-- counters; all else becomes the fresh state."
abbrev pub TauBegins : Type 0
TauBegins =
    ((parts : ℕ) (flag : Bool) (sh ou xs ps : List Float) → (tau.create_of parts flag sh ou xs ps).answer.refusal ≡ 0
    → tau.create_of parts flag sh ou xs ps ≡ tau.begun_of parts flag 0 0)
    × ((e : Engine) → (tau.reset_of e).answer.refusal ≡ 0
    → let s = e.state in
    tau.reset_of e ≡ tau.begun_of s.partitions s.suppress s.mic.transfers s.mic.divergence_resets)

abbrev pub RhoBegins : Type 0
RhoBegins =
    ((rate tail : ℕ) (w h : List Float) → (rho.create_of rate tail w h).answer.refusal ≡ 0
    → rho.create_of rate tail w h ≡ rho.begun_of (rho_states.taps_of rate tail) (rho_states.hangover_of rate) 0)
    × ((e : sample.Engine) → (rho.reset_of e).answer.refusal ≡ 0
    → let s = e.state in
    rho.reset_of e ≡ rho.begun_of s.taps s.hangover_samples s.divergence_resets)

-- an accepted process is the run over its pairs, and an accepted flush the flushed engine's
abbrev pub TauRuns : Type 0
TauRuns = (e : Engine) (near far out : List Float)
    → ((tau.process_of e near far out).answer.refusal ≡ 0 → tau.process_of e near far out ≡ tau.served_of (pairs_of e near far) out)
    × ((tau.flush_of e out).answer.refusal ≡ 0 → tau.flush_of e out ≡ tau.served_of (flushed_of e) out)

abbrev pub RhoRuns : Type 0
RhoRuns = (e : sample.Engine) (near far out : List Float) → (rho.process_of e near far out).answer.refusal ≡ 0
    → rho.process_of e near far out ≡ rho_stream.served_of e near far out

-- "Answer 0 writes only the first `delivered` places of the output buffer."
abbrev pub TauWrites : Type 0
TauWrites = (e : Engine) (near far out : List Float)
    → ((tau.process_of e near far out).answer.refusal ≡ 0
    → tau_stream.Delivery (pairs_of e near far) (delivers_of e.state.carried (length near)) out (tau.process_of e near far out))
    × ((tau.flush_of e out).answer.refusal ≡ 0 → tau_stream.Delivery (flushed_of e) e.state.carried out (tau.flush_of e out))

abbrev pub RhoWrites : Type 0
RhoWrites = (e : sample.Engine) (near far out : List Float) → (rho.process_of e near far out).answer.refusal ≡ 0
    → rho_stream.Delivery e near far out (rho.process_of e near far out)

-- "Flush with an empty carry delivers nothing and changes nothing": it hands all back as a refused call does, and answers 0
abbrev pub TauIdle : Type 0
TauIdle = (e : Engine) (out : List Float) → (tau.flush_of e out).answer.refusal ≡ 0 → e.state.carried ≡ 0 → tau.flush_of e out ≡ tau.refused_of 0 e out

-- ---- reports

-- "It describes the last block run. Where none ran, refusals included, the outcome is a fourth case that says so and the rest is read from
-- the state."
pub record Reported (e : Engine) (near far out : List Float) : Type 0 where
  pub process : let a = (tau.process_of e near far out).answer in
      a.report ≡ report_of a.state.mic a.report.last
  pub flush : let a = (tau.flush_of e out).answer in
      a.report ≡ report_of a.state.mic a.report.last
  -- a refused call ran none,
  pub process_refused : let a = (tau.process_of e near far out).answer in
      (a.refusal ≡ 0 → ⊥) → a.report.outcome ≡ NotRun
  pub flush_refused : let a = (tau.flush_of e out).answer in
      (a.refusal ≡ 0 → ⊥) → a.report.outcome ≡ NotRun
  -- and an accepted one did exactly where a block is full, or where a flush has something to run
  pub process_waits : let a = (tau.process_of e near far out).answer in
      a.refusal ≡ 0 → e.state.carried + length near ≤ 255 → a.report.outcome ≡ NotRun
  pub process_ran : let a = (tau.process_of e near far out).answer in
      a.refusal ≡ 0 → 256 ≤ e.state.carried + length near → a.report.outcome ≡ NotRun → ⊥
  pub flush_waits : let a = (tau.flush_of e out).answer in
      a.refusal ≡ 0 → e.state.carried ≡ 0 → a.report.outcome ≡ NotRun
  pub flush_ran : let a = (tau.flush_of e out).answer in
      a.refusal ≡ 0 → 1 ≤ e.state.carried → a.report.outcome ≡ NotRun → ⊥

abbrev pub TauReports : Type 0
TauReports = (e : Engine) (near far out : List Float) → Reported e near far out

-- "Rho returns its resets and whether any freeze is left."
abbrev pub RhoReports : Type 0
RhoReports = (e : sample.Engine) (near far out : List Float)
    → (let a = (rho.process_of e near far out).answer in a.report ≡ rho_states.report_of a.state)
    × (let a = (rho.flush_of e).answer in a.report ≡ rho_states.report_of a.state)

-- "the leak is above 0 and at most 0.75", in every report of process and flush
abbrev pub Leaks : Type 0
Leaks = (e : Engine) (near far out : List Float) (leak : Float)
    → ((tau.process_of e near far out).answer.report.outcome ≡ Move leak → Leak leak) × ((tau.flush_of e out).answer.report.outcome ≡ Move leak → Leak leak)

-- ---- the counters

-- over a block of which the first n samples are valid: 256 in a process, and 1 to 255 in a flush

-- "transfers goes up by 1" in a block that moves, and in no other
abbrev pub Transfers : Type 0
Transfers = (e : Engine) (far : List Float) (b : Block)
    → (run_block e far b).engine.state.mic.transfers ≡ counted (outcome_of (run_block e far b).told.reason) e.state.mic.transfers

-- the counter of resets goes up by 1 for each clear of a block, and by nothing else: after the block it is as many times one more as the
-- block clears, which is so many more, held at the largest number of 64 bits
abbrev pub Resets : Type 0
Resets = (e : Engine) (far : List Float) (b : Block)
    → let before = e.state.mic.divergence_resets in
    let after = (run_block e far b).engine.state.mic.divergence_resets in
    let clears = how_many (clears_of e far b) in
    (after ≡ more_by clears before) × (before ≤ 2 ^ 64 - 1 → after ≡ min (before + clears) (2 ^ 64 - 1))

-- and what is counted are clears: at each of the four places in a block the test that is counted says whether the step does its clear
abbrev pub StepsClear : Type 0
StepsClear = ShadowClears × OutputClears × UpdateClears × GuardClears
