-- What the rule for silence speaks of: an engine before the first far sound, what passes through it, and calls in a row, flushes and
-- resets among them. Definitions only, and no contract cites them.
use Rattle.std.specs.Prelude.{◌≡◌, Bool, true, List, [], ◌∷◌, ◌++◌, ℕ, ◌+◌, ◌≤◌, T, eqb, Float, length, take}
use Rattle.laws.specs.Choice.{pick}
use Rattle.laws.specs.Kinds.{All}
use Rattle.numbers.specs.Zeros.{Zero, Finite, Fits, Still}
use Rattle.tau_block_laws.specs.Silence.{Silent}
use Rattle.tau_frame.specs.Pairs.{Engine, Run, waits_of, delivers_of}
use Rattle.tau.specs.Calls.{create_of, reset_of, process_of, flush_of}
use Rattle.streams.specs.Parts.{Made}
use Rattle.tau_streams.specs.Stream.{begun_by, ran_by, joined, Call, feed, flush, reset}

-- ---- samples and engines

-- the near samples that wait for their block, and the far samples
abbrev pub held_near : Engine → List Float
held_near e = take e.state.carried e.state.near_carry

abbrev pub held_far : Engine → List Float
held_far e = take e.state.carried e.state.far_carry

-- An engine that has heard no far sound: its state and its buffers are silent, at most 255 pairs wait in carries of 256 numbers, the near
-- samples that wait are finite f32s, and the far samples that wait are zeros, of either sign.
pub record Hushed (e : Engine) : Type 0 where
  pub silent : Silent e.state e.shadow e.output e.spectra
  pub room : e.state.carried ≤ 255
  pub nears : length e.state.near_carry ≡ 256
  pub fars : length e.state.far_carry ≡ 256
  pub fit : All Fits (held_near e)
  pub finite : All Finite (held_near e)
  pub still : All Zero (held_far e)

-- an engine as an accepted creation, or an accepted reset, leaves it
pub data Begins (e : Engine) : Type 0 where
  created : (parts : ℕ) (flag : Bool) (sh ou xs ps : List Float) → (create_of parts flag sh ou xs ps).answer.refusal ≡ 0 → e ≡ begun_by (create_of parts flag sh ou xs ps) → Begins e
  renewed : (d : Engine) → (reset_of d).answer.refusal ≡ 0 → e ≡ begun_by (reset_of d) → Begins e

-- ---- what passes

-- The near samples l passed through e, to the run r: what r delivered, and then what waits after it, is what waited before, and then l.
-- And no far sound has been heard.
pub record Passes (e : Engine) (l : List Float) (r : Run) : Type 0 where
  pub hushed : Hushed r.engine
  pub passed : r.samples ++ held_near r.engine ≡ held_near e ++ l

-- What waited was delivered, and nothing waits.
pub record Emptied (e : Engine) (r : Run) : Type 0 where
  pub hushed : Hushed r.engine
  pub empty : r.engine.state.carried ≡ 0
  pub samples : r.samples ≡ held_near e

-- ---- calls of every kind in a row

-- a call on an engine: what it leaves and delivers, and its refusal
unfoldable pub made_by : Engine → Call → Run
made_by e (feed p) = ran_by (process_of e p.near p.far p.out)
made_by e (flush out) = ran_by (flush_of e out)
made_by e reset = waits_of (begun_by (reset_of e))

unfoldable pub refusal_by : Engine → Call → ℕ
refusal_by e (feed p) = (process_of e p.near p.far p.out).answer.refusal
refusal_by e (flush out) = (flush_of e out).answer.refusal
refusal_by e reset = (reset_of e).answer.refusal

-- the calls one after the other, each on the state and the buffers that the one before it left: what the last left, all delivered samples
-- joined, and each call's refusal
unfoldable pub calls_of : Engine → List Call → Made Run
calls_of e [] = record { run = waits_of e; refusals = [] }
calls_of e (c ∷ cs) =
    let r = made_by e c in
    let rest = calls_of r.engine cs in
    record { run = joined r rest.run; refusals = refusal_by e c ∷ rest.refusals }

-- every call is accepted
abbrev pub AllTaken : Engine → List Call → Type 0
AllTaken e cs = All (λ r. r ≡ 0) (calls_of e cs).refusals

-- the accepted ones of the calls
unfoldable pub taken_of : Engine → List Call → List Call
taken_of e [] = []
taken_of e (c ∷ cs) = pick (eqb (refusal_by e c) 0) (c ∷ taken_of (made_by e c).engine cs) (taken_of e cs)

-- all near samples that the calls were given
unfoldable pub given_of : List Call → List Float
given_of [] = []
given_of (feed p ∷ cs) = p.near ++ given_of cs
given_of (flush out ∷ cs) = given_of cs
given_of (reset ∷ cs) = given_of cs

-- How many samples are of blocks that are filled by the calls and n pairs more: what the calls delivered, and the whole blocks of what then
-- waits and n.
abbrev pub filled_by : Engine → List Call → ℕ → ℕ
filled_by e cs n = let r = (calls_of e cs).run in length r.samples + delivers_of r.engine.state.carried n

-- a process of f32 near samples and still far samples, or a flush
abbrev pub GentleCall : Call → Type 0
GentleCall (feed p) = All Fits p.near × All Still p.far
GentleCall (flush out) = T true
GentleCall reset = ⊥

pub record Gentle (c : Call) : Type 0 where
  pub gentle : GentleCall c
