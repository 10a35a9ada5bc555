-- Demand 3: what holds of any calls. For TauCanceller, "from creation or reset, over any accepted calls however the stream between two
-- flushes is cut: N pairs since the last creation, reset or flush have delivered exactly the whole 256-blocks of N, and flush delivers the
-- rest; the samples are demand 2's on the uncut stream"; "RhoCanceller delivers at once, passes likewise sample by sample, and ends any
-- freeze after its hangover count of quiet pairs in a row". Statements; proved in proofs/Demand3.antt.
use Rattle.std.specs.Prelude.{◌≡◌, Bool, true, false, List, [], ◌∷◌, ◌++◌, map, ℕ, ◌+◌, ◌-◌, ◌*◌, ◌/◌, ◌%◌, ◌≤◌, ◌<◌, Float, length, get_or, take}
use Rattle.std.specs.Float.{nan, binary32}
use Rattle.std.specs.Float.Ieee.{of_bits}
use Rattle.laws.specs.Kinds.{All}
use Rattle.numbers.specs.Finite.{plus, is_finite, finite_or_zero}
use Rattle.numbers.specs.Zeros.{Zero, Fits, Still}
use Rattle.streams.specs.Parts.{Part, Level, all_near, all_far}
use Rattle.rho_sample.specs.Sample as sample
use Rattle.rho.specs.Pairs as rho_pairs
use Rattle.rho.specs.Calls as rho
use Rattle.rho_taps.specs.Update.{cleared_of}
use Rattle.rho_streams.specs.Stream as rho_stream
use Rattle.tau_state.specs.Ranges.{ranged_of}
use Rattle.tau_frame.specs.Pairs.{Engine, delivers_of, block_of, flushed_of}
use Rattle.tau.specs.Calls as tau
use Rattle.tau_streams.specs.Stream.{Roomy, processed_of, AllAccepted, ran_by, begun_by, Call, Since, anew, after_calls, by_blocks, padded_rest}
use Rattle.tau_streams.specs.Stream.Call.{feed, flush}
use Rattle.tau_streams.specs.Silence.{Begins, calls_of, AllTaken, taken_of, given_of, Gentle, filled_by}
use Rattle.promises.specs.Demand1.{tau_sized, rho_sized}

-- ---- TauCanceller

-- An engine that works: its state is in range and its buffers have their lengths, so 6 and 2 are not given. A reset is accepted, a flush
-- with room for what waits, and a process of as many near as far samples, at most 4,096, with room for what it delivers.
pub record TauReady (e : Engine) : Type 0 where
  pub ranged : ranged_of e.state ≡ true
  pub sized : tau_sized e.state.partitions e.shadow e.output e.spectra e.powers ≡ true
  pub resets : (tau.reset_of e).answer.refusal ≡ 0
  pub flushes : (out : List Float) → e.state.carried ≤ length out → (tau.flush_of e out).answer.refusal ≡ 0
  pub feeds : (near far out : List Float) → length near ≡ length far → length near ≤ 4096
      → delivers_of e.state.carried (length near) ≤ length out → (tau.process_of e near far out).answer.refusal ≡ 0

-- What holds after any calls since the last creation, reset or flush: t has the engine from where they started, the pairs that came since,
-- and what the calls made of them.
pub record TauHolds (t : Since) : Type 0 where
  -- "N pairs .. have delivered exactly the whole 256-blocks of N",
  pub delivered : length t.run.samples ≡ length t.near / 256 * 256
  -- at most 255 wait,
  pub waiting : (t.run.engine.state.carried ≡ length t.near % 256) × (t.run.engine.state.carried ≤ 255)
  -- "and flush delivers the rest"
  pub flushed : (out : List Float) → (tau.flush_of t.run.engine out).answer.refusal ≡ 0
      → (tau.flush_of t.run.engine out).answer.delivered ≡ length t.near % 256
  -- "the samples are demand 2's on the uncut stream": block by block of 256 pairs, by the block rule; the engine too
  pub samples : t.run ≡ by_blocks t.start t.near t.far
  -- and what a flush then runs, where pairs wait, is the block rule on the rest, padded, without adapting
  pub rest : 1 ≤ length t.near % 256
      → flushed_of t.run.engine ≡ block_of t.run.engine (padded_rest t.near) (padded_rest t.far) (length t.near % 256) false
  -- and the engine works on
  pub ready : TauReady t.run.engine

-- from an accepted creation, and from an accepted reset, over any calls, refused ones among them
abbrev pub TauCalls : Type 0
TauCalls =
    ((parts : ℕ) (flag : Bool) (sh ou xs ps : List Float) (cs : List Call) → (tau.create_of parts flag sh ou xs ps).answer.refusal ≡ 0
    → TauHolds (after_calls (anew (begun_by (tau.create_of parts flag sh ou xs ps))) cs))
    × ((e : Engine) (cs : List Call) → (tau.reset_of e).answer.refusal ≡ 0 → TauHolds (after_calls (anew (begun_by (tau.reset_of e))) cs))

-- any two ways to cut a stream into accepted calls give the same samples, state, buffers and last block,
abbrev pub TauCuts : Type 0
TauCuts = (e : Engine) (ps qs : List Part) → AllAccepted e ps → AllAccepted e qs → all_near ps ≡ all_near qs → all_far ps ≡ all_far qs
    → (processed_of e ps).run ≡ (processed_of e qs).run

-- and the parts of an accepted call are accepted where each has its room, and come to the same
abbrev pub TauParts : Type 0
TauParts = (e : Engine) (ps : List Part) (out : List Float) → All Level ps → Roomy e.state.carried ps
    → (tau.process_of e (all_near ps) (all_far ps) out).answer.refusal ≡ 0
    → AllAccepted e ps × ((processed_of e ps).run ≡ ran_by (tau.process_of e (all_near ps) (all_far ps) out))

-- ---- the singer, for TauCanceller

-- What is no sound: 0.0, -0.0, and what is not finite; of the finite samples only zeros. And a near -0.0 is read as it is.
abbrev pub Sounds : Type 0
Sounds =
    let minus = of_bits binary32 0x8000_0000 in
    Still plus
    × Still minus
    × ((y : Float) → is_finite y ≡ false → Still y)
    × ((y : Float) → Still y → is_finite y ≡ true → Zero y)
    × (finite_or_zero minus ≡ minus)

-- "every block before the first with a finite non-zero far sample is the near block bit for bit (non-finite read as 0.0)". From creation
-- or reset e, cs are the calls before the one that holds that far sample, flushes and refused calls among them, p is the process that
-- holds it, at its pair n or later, and ds any calls behind it. Every place i of the blocks that are full before it, and of each flush,
-- has been delivered (a place that was not would read as NaN), and is near's place i, which is counted over the accepted calls.
abbrev pub TauSilence : Type 0
TauSilence = (e : Engine) (cs : List Call) (p : Part) (ds : List Call) (n : ℕ) → Begins e → All Gentle (taken_of e cs)
    → (tau.process_of (calls_of e cs).run.engine p.near p.far p.out).answer.refusal ≡ 0
    → n ≤ length p.near → All Fits (take n p.near) → All Still (take n p.far) → (i : ℕ) → i < filled_by e cs n
    → get_or (calls_of e (cs ++ (feed p ∷ ds))).run.samples i nan ≡ finite_or_zero (get_or (given_of (taken_of e cs) ++ p.near) i nan)

-- a stream without a far sound: every place that has been delivered is near's, and after a flush all of near has been. The singer's lesson
abbrev pub TauSinger : Type 0
TauSinger = (e : Engine) (cs : List Call) → Begins e → All Gentle (taken_of e cs)
    → ((i : ℕ) → i < length (calls_of e cs).run.samples
    → get_or (calls_of e cs).run.samples i nan ≡ finite_or_zero (get_or (given_of (taken_of e cs)) i nan))
    × ((out : List Float) → (tau.flush_of (calls_of e cs).run.engine out).answer.refusal ≡ 0
    → (calls_of e (cs ++ (flush out ∷ []))).run.samples ≡ map finite_or_zero (given_of (taken_of e cs)))

-- "near 1.0, -0.0, NaN with far 0.0 three times", in one process, and a flush: 1.0, -0.0, 0.0
abbrev pub TauThree : Type 0
TauThree = (e : Engine) (p : Part) (out : List Float) →
    let one = of_bits binary32 0x3f80_0000 in
    let minus = of_bits binary32 0x8000_0000 in
    let zero = of_bits binary32 0 in
    Begins e → p.near ≡ one ∷ minus ∷ nan ∷ [] → p.far ≡ zero ∷ zero ∷ zero ∷ []
    → AllTaken e (feed p ∷ flush out ∷ []) → (calls_of e (feed p ∷ flush out ∷ [])).run.samples ≡ one ∷ minus ∷ zero ∷ []

-- ---- RhoCanceller

-- An engine that works: 6 and 2 are not given. A reset and a flush are accepted, and a process of as many near as far samples, at most
-- 4,096, with room for as many.
pub record RhoReady (e : sample.Engine) : Type 0 where
  pub ranged : rho.ranged_of e.state ≡ true
  pub sized : rho_sized e.state.taps e.weights e.history ≡ true
  pub resets : (rho.reset_of e).answer.refusal ≡ 0
  pub flushes : (rho.flush_of e).answer.refusal ≡ 0
  pub feeds : (near far out : List Float) → length near ≡ length far → length near ≤ 4096 → length near ≤ length out
      → (rho.process_of e near far out).answer.refusal ≡ 0

-- What holds after any calls since the last creation or reset.
pub record RhoHolds (t : rho_stream.Since) : Type 0 where
  -- "delivers at once": a sample for each pair,
  pub delivered : length t.run.samples ≡ length t.near
  -- and they are demand 2's on the uncut stream; the engine too
  pub samples : t.run ≡ rho_pairs.pairs_of t.start t.near t.far
  -- "passes likewise sample by sample": n are the pairs before the first far sound, and each of their places is near's
  pub passes : (n : ℕ) → n ≤ length t.near → All Fits (take n t.near) → All Still (take n t.far) → (i : ℕ) → i < n
      → get_or t.run.samples i nan ≡ finite_or_zero (get_or t.near i nan)
  -- and the engine works on
  pub ready : RhoReady t.run.engine

-- from an accepted creation, and from an accepted reset, over any calls, refused ones among them
abbrev pub RhoCalls : Type 0
RhoCalls =
    ((rate tail : ℕ) (w h : List Float) (cs : List rho_stream.Call) → (rho.create_of rate tail w h).answer.refusal ≡ 0
    → RhoHolds (rho_stream.after_calls (rho_stream.anew (rho_stream.begun_by (rho.create_of rate tail w h))) cs))
    × ((e : sample.Engine) (cs : List rho_stream.Call) → (rho.reset_of e).answer.refusal ≡ 0
    → RhoHolds (rho_stream.after_calls (rho_stream.anew (rho_stream.begun_by (rho.reset_of e))) cs))

-- "Flush delivers nothing", and changes nothing, accepted or not
abbrev pub RhoFlush : Type 0
RhoFlush = (e : sample.Engine)
    → ((rho.flush_of e).answer.delivered ≡ 0) × (rho_stream.delivered_by (rho.flush_of e) ≡ []) × (rho_stream.left_by (rho.flush_of e) ≡ e)

-- from any state: a sample for each pair of accepted calls,
abbrev pub RhoCounts : Type 0
RhoCounts = (e : sample.Engine) (ps : List Part) → rho_stream.AllAccepted e ps → length (rho_stream.processed_of e ps).run.samples ≡ length (all_near ps)

-- any two ways to cut a stream into accepted calls give the same samples, state and buffers,
abbrev pub RhoCuts : Type 0
RhoCuts = (e : sample.Engine) (ps qs : List Part) → rho_stream.AllAccepted e ps → rho_stream.AllAccepted e qs
    → all_near ps ≡ all_near qs → all_far ps ≡ all_far qs → (rho_stream.processed_of e ps).run ≡ (rho_stream.processed_of e qs).run

-- and the parts of an accepted call are accepted where each has its room, and come to the same
abbrev pub RhoParts : Type 0
RhoParts = (e : sample.Engine) (ps : List Part) (out : List Float) → All Level ps → All rho_stream.Room ps
    → (rho.process_of e (all_near ps) (all_far ps) out).answer.refusal ≡ 0
    → rho_stream.AllAccepted e ps × ((rho_stream.processed_of e ps).run ≡ rho_stream.ran_by (rho.process_of e (all_near ps) (all_far ps) out))

-- ---- Rho's freeze

-- "Loud sets the freeze to H; a quiet pair takes 1 off, if any is left."
abbrev pub RhoPair : Type 0
RhoPair = (e : sample.Engine) (x y : Float)
    → (rho_stream.loud_at e x y ≡ true → rho_stream.remaining (rho_stream.taken_by e x y).engine ≡ rho_stream.hangover e)
    × (rho_stream.loud_at e x y ≡ false → rho_stream.remaining (rho_stream.taken_by e x y).engine ≡ rho_stream.remaining e - 1)

-- "ends any freeze after its hangover count of quiet pairs in a row", and the call says so; after a loud pair any fewer leave some
abbrev pub RhoFreeze : Type 0
RhoFreeze =
    ((e : sample.Engine) (near far : List Float) → rho_stream.remaining e ≤ rho_stream.hangover e → length near ≡ length far
    → rho_stream.hangover e ≤ length near → rho_stream.AllQuiet e near far → rho_stream.remaining (rho_pairs.pairs_of e near far).engine ≡ 0)
    × ((e : sample.Engine) (near far out : List Float) → (rho.process_of e near far out).answer.refusal ≡ 0 → rho_stream.hangover e ≤ length near
    → rho_stream.AllQuiet e near far → (rho.process_of e near far out).answer.report.double_talk ≡ false)
    × ((e : sample.Engine) (x y : Float) (near far : List Float) → rho_stream.loud_at e x y ≡ true → length near ≡ length far
    → length near < rho_stream.hangover e → rho_stream.AllQuiet (rho_stream.taken_by e x y).engine near far
    → 0 < rho_stream.remaining (rho_pairs.pairs_of (rho_stream.taken_by e x y).engine near far).engine)

-- "H quiet pairs in a row end it, and the H-th updates already, unless its output diverged": a and c are the pairs before it, x and y the
-- H-th; and while any freeze is left a pair whose output did not diverge keeps the weights, and one that did clears them
abbrev pub RhoUpdates : Type 0
RhoUpdates =
    ((e : sample.Engine) (a c : List Float) (x y : Float) → rho_stream.remaining e ≤ rho_stream.hangover e → length a ≡ length c
    → rho_stream.hangover e ≤ length a + 1 → rho_stream.AllQuiet e a c
    → rho_stream.loud_at (rho_pairs.pairs_of e a c).engine x y ≡ false → rho_stream.fine_at (rho_pairs.pairs_of e a c).engine x y ≡ true
    → rho_stream.kept_by (rho_pairs.pairs_of e a c).engine x y ≡ rho_stream.updated_by (rho_pairs.pairs_of e a c).engine x y)
    × ((e : sample.Engine) (x y : Float) → rho_stream.fine_at e x y ≡ true → 0 < rho_stream.remaining (rho_stream.taken_by e x y).engine
    → rho_stream.kept_by e x y ≡ record { weights = e.weights; resets = e.state.divergence_resets })
    × ((e : sample.Engine) (x y : Float) → rho_stream.fine_at e x y ≡ false
    → rho_stream.kept_by e x y ≡ cleared_of e.state.taps e.state.divergence_resets)
