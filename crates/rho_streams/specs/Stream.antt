-- What the theorems on streams speak of: a stream cut into calls, any calls since a creation or reset, far silence, and quiet pairs in a
-- row. Definitions only, and no contract cites them.
use Rattle.std.specs.Prelude.{◌≡◌, Bool, false, List, [], ◌∷◌, ◌++◌, ℕ, ◌≤◌, ◌<◌, eqb, Float, length, set, take, drop}
use Rattle.std.specs.Float.{binary64}
use Rattle.std.specs.Float.Ieee.{sub}
use Rattle.laws.specs.Choice.{pick}
use Rattle.laws.specs.Kinds.{All, Kept}
use Rattle.numbers.specs.Finite.{is_finite, finite_or_zero}
use Rattle.numbers.specs.Narrowing.{narrow_of}
use Rattle.numbers.specs.Zeros.{Zero, Plus}
use Rattle.rho_taps.specs.Ring.{next_of, estimate_of, window_energy_of, peak_of}
use Rattle.rho_sample.specs.Sample.{Engine, Stepped, loud_of, step_of}
use Rattle.rho_taps.specs.Update.{Adapted, scale_of, updated_of, sound_of, cleared_of}
use Rattle.rho.specs.Pairs.{Run, pairs_of}
use Rattle.rho.specs.Calls.{state_refusal, process_refusal, Begun, Called, answer_of, reset_of, process_of, flush_of}
use Rattle.streams.specs.Parts.{Part, Made}

-- ---- calls

-- the state and the two buffers that creation or reset leaves, and that process or flush leaves
abbrev pub begun_by : Begun → Engine
begun_by b = record { state = b.answer.state; weights = b.weights; history = b.history }

abbrev pub left_by : Called → Engine
left_by c = record { state = c.answer.state; weights = c.weights; history = c.history }

-- the samples that a call delivered
abbrev pub delivered_by : Called → List Float
delivered_by c = take c.answer.delivered c.out

-- both, as a run
abbrev pub ran_by : Called → Run
ran_by c = record { engine = left_by c; samples = delivered_by c }

-- the number of a reset's and of a flush's refusal, and of a process's
abbrev pub state_number : Engine → ℕ
state_number e = state_refusal e.state (length e.weights) (length e.history)

abbrev pub process_number : Engine → List Float → List Float → List Float → ℕ
process_number e near far out = process_refusal e.state (length e.weights) (length e.history) (length near) (length far) (length out)

-- what an accepted process leaves: the run's engine, and its samples over the front of the output buffer
abbrev pub served_of : Engine → List Float → List Float → List Float → Called
served_of e near far out =
    let run = pairs_of e near far in
    record { answer = answer_of 0 (length near) run.engine.state; weights = run.engine.weights; history = run.engine.history; out = run.samples ++ drop (length near) out }

-- An accepted process answers 0 and delivers a sample for each pair: they are the first places of its output buffer, which keeps
-- its length, and the rest of it is as it was.
pub record Delivery (e : Engine) (near far out : List Float) (c : Called) : Type 0 where
  pub accepted : c.answer.refusal ≡ 0
  pub count : c.answer.delivered ≡ length near
  pub long : length c.out ≡ length out
  pub samples : take (length near) c.out ≡ (pairs_of e near far).samples
  pub rest : drop (length near) c.out ≡ drop (length near) out

-- ---- a stream cut into parts

-- an output buffer that holds the part's samples
pub record Room (p : Part) : Type 0 where
  pub room : length p.near ≤ length p.out

-- where no pair has come
abbrev pub waits_of : Engine → Run
waits_of e = record { engine = e; samples = [] }

-- two runs one after the other: the last engine, and the samples of both
abbrev pub joined : Run → Run → Run
joined first second = record { engine = second.engine; samples = first.samples ++ second.samples }

-- A run over a and c, and from where it ended one over b and d.
abbrev pub then_of : Engine → List Float → List Float → List Float → List Float → Run
then_of e a c b d = let first = pairs_of e a c in joined first (pairs_of first.engine b d)

-- the parts processed one after the other, each call on the state and the buffers that the one before it left
unfoldable pub processed_of : Engine → List Part → Made Run
processed_of e [] = record { run = waits_of e; refusals = [] }
processed_of e (p ∷ ps) =
    let call = process_of e p.near p.far p.out in
    let rest = processed_of (left_by call) ps in
    record { run = joined (ran_by call) rest.run; refusals = call.answer.refusal ∷ rest.refusals }

-- every call of the row is accepted
abbrev pub AllAccepted : Engine → List Part → Type 0
AllAccepted e ps = All (λ r. r ≡ 0) (processed_of e ps).refusals

-- ---- calls of every kind

-- a call on an engine: a process of a part, a flush, or a reset
pub data Call : Type 0 where
  feed : Part → Call
  flush : Call
  reset : Call

-- What has come since the last creation or reset: the engine as that left it, the pairs that were accepted since, and what the calls
-- since have made of it: the engine now, and all samples delivered since.
pub record Since : Type 0 where
  pub start : Engine
  pub near : List Float
  pub far : List Float
  pub run : Run

-- nothing yet
abbrev pub anew : Engine → Since
anew e = record { start = e; near = []; far = []; run = waits_of e }

-- a call more, that began nothing anew: all pairs with its own, and what it did
abbrev pub onward : Since → List Float → List Float → Run → Since
onward t near far r = record { start = t.start; near = near; far = far; run = joined t.run r }

-- One call more, on the engine as it is now. A refused one adds no pairs.
unfoldable pub after_call : Since → Call → Since
after_call t (feed p) =
    let c = process_of t.run.engine p.near p.far p.out in
    pick (eqb c.answer.refusal 0) (onward t (t.near ++ p.near) (t.far ++ p.far) (ran_by c)) (onward t t.near t.far (ran_by c))
after_call t flush = onward t t.near t.far (ran_by (flush_of t.run.engine))
after_call t reset =
    let b = reset_of t.run.engine in
    pick (eqb b.answer.refusal 0) (anew (begun_by b)) (onward t t.near t.far (waits_of (begun_by b)))

-- all calls of a list, one after the other
unfoldable pub after_calls : Since → List Call → Since
after_calls t [] = t
after_calls t (c ∷ cs) = after_calls (after_call t c) cs

-- ---- far silence

-- an engine that has heard no far sound: every weight is +0.0, and every far sample kept is a zero, of either sign
pub record Quiet (e : Engine) : Type 0 where
  pub ring : e.state.pos < e.state.taps
  pub weights : Kept Plus e.state.taps e.weights
  pub history : Kept Zero e.state.taps e.history

-- From an engine that is accepted and has heard no far sound, as many near as far samples, and all is as one run over the uncut stream
-- since makes it.
pub record Uncut (t : Since) : Type 0 where
  pub accepted : state_number t.start ≡ 0
  pub quiet : Quiet t.start
  pub level : length t.near ≡ length t.far
  pub run : t.run ≡ pairs_of t.start t.near t.far

-- ---- one pair, near x and far y, as an engine meets it: the names of what `step_of` computes

-- the pair taken, non-finite samples read as 0.0
abbrev pub taken_by : Engine → Float → Float → Stepped
taken_by e x y = step_of e (finite_or_zero x) (finite_or_zero y)

-- the place of its far sample, and the history with that put in
abbrev pub place_of : Engine → ℕ
place_of e = next_of e.state.pos e.state.taps

abbrev pub heard_of : Engine → Float → List Float
heard_of e y = set e.history (place_of e) (finite_or_zero y)

-- the hangover count H, and what is left of the freeze
abbrev pub hangover : Engine → ℕ
hangover e = e.state.hangover_samples

abbrev pub remaining : Engine → ℕ
remaining e = e.state.hangover_remaining

-- whether it is loud, "peak including the new far sample"
unfoldable pub loud_at : Engine → Float → Float → Bool
loud_at e x y = loud_of (finite_or_zero x) (peak_of (heard_of e y) (place_of e) e.state.taps)

-- its error: near less the echo estimate
unfoldable pub error_at : Engine → Float → Float → Float
error_at e x y = sub binary64 (finite_or_zero x) (estimate_of e.weights (heard_of e y) (place_of e) e.state.taps)

-- whether its output is finite; else it diverged
abbrev pub fine_at : Engine → Float → Float → Bool
fine_at e x y = is_finite (narrow_of (error_at e x y))

-- the weights after an update by it
unfoldable pub update_at : Engine → Float → Float → List Float
update_at e x y =
    let n = e.state.taps in
    let pos = place_of e in
    let history = heard_of e y in
    updated_of (scale_of (error_at e x y) (window_energy_of history pos n)) history pos n e.weights

-- the weights and the count of resets after the pair
abbrev pub kept_by : Engine → Float → Float → Adapted
kept_by e x y = let after = (taken_by e x y).engine in record { weights = after.weights; resets = after.state.divergence_resets }

-- the same where the pair updates: the updated weights where all of them are finite, else +0.0 for each and a reset counted
unfoldable pub updated_by : Engine → Float → Float → Adapted
updated_by e x y =
    let n = e.state.taps in
    let resets = e.state.divergence_resets in
    pick (sound_of n (update_at e x y)) (record { weights = update_at e x y; resets = resets }) (cleared_of n resets)

-- for each pair in turn, whether it is loud for the engine that it meets
unfoldable pub louds_of : Engine → List Float → List Float → List Bool
louds_of e [] far = []
louds_of e (x ∷ near) [] = []
louds_of e (x ∷ near) (y ∷ far) = loud_at e x y ∷ louds_of (taken_by e x y).engine near far

-- "quiet pairs in a row"
abbrev pub AllQuiet : Engine → List Float → List Float → Type 0
AllQuiet e near far = All (λ b. b ≡ false) (louds_of e near far)
