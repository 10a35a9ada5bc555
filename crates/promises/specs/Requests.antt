-- What is promised of the requests that came after document 01, besides what they changed in its rules: those stand in the definitions,
-- each beside the sentence that it mends. Statements; proved in proofs/Requests.antt.
use Rattle.std.specs.Prelude.{◌≡◌, Bool, true, false, not, ◌&&◌, ◌||◌, List, [], ◌∷◌, ◌++◌, ℕ, suc, ◌+◌, ◌*◌, ◌/◌, ◌^◌, ◌≤◌, ◌<◌, min, ◌-◌, T, leb, ltb, ℤ, pos, negsuc, get_or, length, take, drop, Float}
use Rattle.std.specs.Float.{nan, inf, fin, binary64}
use Rattle.std.specs.Float.Ieee.{up, down, mul, eq, lt, le, fits}
use Rattle.laws.specs.Choice.{pick}
use Rattle.laws.specs.Loops.{iter}
use Rattle.laws.specs.Counting.{one_more}
use Rattle.numbers.specs.Finite.{is_finite}
use Rattle.numbers.specs.Narrowing.{narrow_of, is_plain, plain_squares, rounded_of, kind_of}
use Rattle.numbers.specs.declared.narrowing.Kind.TheVariants.{Exact, Rounded, Over}
use Rattle.numbers.specs.Zeros.{Zero, Fits}
use Rattle.narrow_list.specs.Overs.{over_count}
use Rattle.trig.specs.Tables.{recombination}
use Rattle.complex_fft.specs.Reversal.{reversal_table}
use Rattle.complex_fft.specs.ComplexFft.{run_of}
use Rattle.fft.specs.RealFft.{halves_of}
use Rattle.fft.specs.Calls.{spectrum_of, overs_of, inverse_of, inverse_with_of, half_with_of}
use Rattle.tau_state.specs.Constants.{zero64, f0·1}
use Rattle.tau_state.specs.Sums.{energy_of, cross_of}
use Rattle.tau_state.specs.Report.{reason_number, outcome_of, reason_in, overs_in}
use Rattle.tau_state.specs.declared.state.Detector.{Detector}
use Rattle.tau_state.specs.declared.state.Paths.{Paths}
use Rattle.tau_state.specs.declared.state.Suppressor.{Suppressor}
use Rattle.tau_state.specs.declared.report.Outcome.TheVariants.{NoMove}
use Rattle.tau_state.specs.declared.report.Reason.{Reason}
use Rattle.tau_state.specs.declared.report.Reason.TheVariants.{FlushBlock, OutputDiverged, FarNotActive, NotEstablished, Rescued, QuietStreakShort, NoOutputPower, NoAdvantage, Moved}
use Rattle.tau_state.specs.declared.report.Last.TheVariants.{NoneRan}
use Rattle.tau_clears.specs.Weights.{leaked}
use Rattle.tau_detector.specs.Detector.{coherence_of, learned, judged}
use Rattle.tau_paths.specs.Paths.{leak_of, advantage_of, acted, weighed_if}
use Rattle.tau_spectra.specs.Ring.{Ring, ring_of, met_by}
use Rattle.tau_filter.specs.Filter.{shadowed, echo_of, estimated}
use Rattle.tau_update.specs.Update.{updated, framed, rates_of, gradient_of}
use Rattle.tau_suppressor.specs.Suppressor.{averaged, shaped, suppressed}
use Rattle.tau_block.specs.Block.{Block, Listened, Engine, quiet, heard_in, run_block}
use Rattle.tau_block.specs.Groups.{Filtered, Judgement, filtered, asked_of, updates, suppresses, delivered, gathered, compares}
use Rattle.tau.specs.Calls as tau
use Rattle.tau_streams.specs.Stream.{Good, block_on, blocks_of}

-- ---- K2. Why the output filter did not move

-- A reason of the row, and whether what it says is so.
pub record Cause : Type 0 where
  pub holds : Bool
  pub reason : Reason

abbrev pub cause : Bool → Reason → Cause
cause b r = record { holds = b; reason = r }

-- "the first that holds of ..; otherwise"
unfoldable pub first_of : List Cause → Reason → Reason
first_of [] otherwise = otherwise
first_of (c ∷ cs) otherwise = pick c.holds c.reason (first_of cs otherwise)

-- none of a row holds
abbrev pub NoneHolds : List Cause → Type 0
NoneHolds [] = T true
NoneHolds (c ∷ cs) = (c.holds ≡ false) × NoneHolds cs

abbrev pub FirstHolds : Type 0
FirstHolds =
    ((cs : List Cause) (otherwise : Reason) → NoneHolds cs → first_of cs otherwise ≡ otherwise)
    × ((before after : List Cause) (c : Cause) (otherwise : Reason) → NoneHolds before → c.holds ≡ true
    → first_of (before ++ (c ∷ after)) otherwise ≡ c.reason)

-- What a block has come to before anything is decided: what was heard (steps 1 and 4, `heard_in`), the two filters (2 and 3) and the
-- detector (5),
abbrev pub ring_in : Engine → List Float → Ring
ring_in e far = let heard = heard_in e far in ring_of e.state.partitions heard.far.head heard.spectra

abbrev pub filtered_in : Engine → List Float → Block → Filtered
filtered_in e far b = filtered (ring_in e far) b.near e.state.mic e.shadow e.output

abbrev pub detector_in : Engine → List Float → Block → Detector
detector_in e far b =
    judged (heard_in e far).active (energy_of b.near b.valid) b.near (filtered_in e far b).estimate b.valid e.state.mic.detector

-- and "the powers and streak .. after this block's smoothing", before a rescue, the update or the guard change them
abbrev pub paths_in : Engine → List Float → Block → Paths
paths_in e far b =
    let f = filtered_in e far b in
    let d = detector_in e far b in
    weighed_if (asked_of b.adapt (heard_in e far).active f d) (quiet d) f.shadow_error f.output.error b.valid f.output.paths

-- "the first that holds of .. flush block, output diverged, far not active, detector not established, rescued, quiet streak below 6, output
-- power not above 0, advantage not at least 0.1; otherwise moved, with its leak": of every block, whatever the state, the buffers and the
-- samples. A NaN is not above 0, and not at least 0.1.
abbrev pub WhyFirst : Type 0
WhyFirst = (e : Engine) (far : List Float) (b : Block)
    → let paths = paths_in e far b in
    (run_block e far b).told.reason
    ≡ first_of
    (cause (not b.adapt) FlushBlock
    ∷ cause (filtered_in e far b).output.diverged OutputDiverged
    ∷ cause (not (heard_in e far).active) FarNotActive
    ∷ cause (not (leb 64 (detector_in e far b).dtd_blocks)) NotEstablished
    ∷ cause (leb 8 paths.rescue_streak) Rescued
    ∷ cause (ltb paths.quiet_streak 6) QuietStreakShort
    ∷ cause (not (lt zero64 paths.output_error_power)) NoOutputPower
    ∷ cause (not (le f0·1 (advantage_of paths))) NoAdvantage
    ∷ [])
    (Moved (leak_of (advantage_of paths)))

-- "The reason must be the one that the block rule acted on": the block is what comes of acting on the reason that it tells. Step 5 leaves the
-- paths, the counter and both weights of that act, and steps 6 to 9 go on from these.
abbrev pub acted_in : Engine → List Float → Block → Listened
acted_in e far b =
    let s = e.state in
    let heard = heard_in e far in
    let f = filtered_in e far b in
    let d = detector_in e far b in
    let why = (run_block e far b).told.reason in
    let j : Judgement = record {
      detector = d;
      comparison = acted why (paths_in e far b) s.mic.transfers f.output.shadow f.output.output;
    } in
    let u = updated (updates b.adapt f j) (ring_in e far) heard.far_power f.shadow_error d.step_scale s.mic.far_power_mean j.comparison.paths f.output.resets j.comparison.shadow in
    gathered f j u
    (delivered (suppresses s.suppress heard.far.far_active f) d.protect_output b.near (energy_of b.near b.valid) b.valid
    f.output s.mic u.paths u.resets j.comparison.output)

abbrev pub WhyActed : Type 0
WhyActed = (e : Engine) (far : List Float) (b : Block)
    → let ran = run_block e far b in
    let left = acted_in e far b in
    (ran.engine.state.mic ≡ left.microphone.mic)
    × (ran.engine.shadow ≡ left.microphone.shadow)
    × (ran.engine.output ≡ left.microphone.output)
    × (ran.block ≡ left.block)

-- and the act does what its reason says: a move moves the output's weights by its leak and is counted, a rescue copies them to the shadow,
-- and of every other reason nothing comes
abbrev pub ActsAsSaid : Type 0
ActsAsSaid = (paths : Paths) (transfers : ℕ) (shadow output : List Float)
    → ((leak : Float) → acted (Moved leak) paths transfers shadow output ≡ record {
      paths = paths;
      transfers = one_more transfers;
      rescued = false;
      reason = Moved leak;
      shadow = shadow;
      output = leaked leak shadow output;
    })
    × (acted Rescued paths transfers shadow output ≡ record {
      paths = record {
        shadow_error_power = paths.output_error_power;
        output_error_power = paths.output_error_power;
        quiet_streak = paths.quiet_streak;
        rescue_streak = 0;
      };
      transfers = transfers;
      rescued = true;
      reason = Rescued;
      shadow = output;
      output = output;
    })
    × ((why : Reason) → outcome_of why ≡ NoMove → acted why paths transfers shadow output ≡ record {
      paths = paths;
      transfers = transfers;
      rescued = false;
      reason = why;
      shadow = shadow;
      output = output;
    })

-- In a report outcome and reason are never at odds, and the reason has the number 0 exactly where no block ran: after a refusal, after pairs
-- that fill none, and after a flush of nothing. A flush of something says so.
pub record Reasoned (e : Engine) (near far out : List Float) : Type 0 where
  pub process : let a = (tau.process_of e near far out).answer in
      a.report.outcome ≡ outcome_of (reason_in a.report.last)
  pub flush : let a = (tau.flush_of e out).answer in
      a.report.outcome ≡ outcome_of (reason_in a.report.last)
  pub process_refused : let a = (tau.process_of e near far out).answer in
      (a.refusal ≡ 0 → ⊥) → a.report.last ≡ NoneRan
  pub flush_refused : let a = (tau.flush_of e out).answer in
      (a.refusal ≡ 0 → ⊥) → a.report.last ≡ NoneRan
  pub process_waits : let a = (tau.process_of e near far out).answer in
      a.refusal ≡ 0 → e.state.carried + length near ≤ 255 → a.report.last ≡ NoneRan
  pub process_ran : let a = (tau.process_of e near far out).answer in
      a.refusal ≡ 0 → 256 ≤ e.state.carried + length near → reason_number (reason_in a.report.last) ≡ 0 → ⊥
  pub flush_waits : let a = (tau.flush_of e out).answer in
      a.refusal ≡ 0 → e.state.carried ≡ 0 → a.report.last ≡ NoneRan
  pub flush_ran : let a = (tau.flush_of e out).answer in
      a.refusal ≡ 0 → 1 ≤ e.state.carried → reason_in a.report.last ≡ FlushBlock

abbrev pub WhyReported : Type 0
WhyReported = (e : Engine) (near far out : List Float) → Reasoned e near far out

-- "For the last block run": of a call from an empty carry that fills k + 1 blocks it is block k, run on the engine that the k before it left
abbrev pub WhyLast : Type 0
WhyLast = (e : Engine) (near far out : List Float) (k : ℕ) → Good e → e.state.carried ≡ 0
    → (tau.process_of e near far out).answer.refusal ≡ 0 → length near / 256 ≡ suc k
    → (tau.process_of e near far out).answer.report.last
    ≡ (block_on (blocks_of k e near far).engine (take 256 (drop (256 * k) near)) (take 256 (drop (256 * k) far))).last

-- ---- K3. Narrowing is hot

-- "Most f64 results lie well inside the f32 normal range. Give that range a short way through": the range is that of the numbers whose size
-- is from 2^-126 up to 2^127. (`fin s m e` has the size m * up e / down e.) A NaN and the infinities are not in it.
abbrev pub PlainSizes : Type 0
PlainSizes =
    ((s : Bool) (m : ℕ) (e : ℤ) → T (fits binary64 (fin s m e)) → is_plain (fin s m e) ≡ (leb (down e) (m * up e * 2 ^ 126) && ltb (m * up e) (2 ^ 127 * down e)))
    × ((s : Bool) → is_plain (inf s) ≡ false)
    × (is_plain nan ≡ false)

-- the square that a number is told by
abbrev pub PlainBySquare : Type 0
PlainBySquare = (x : Float) → T (fits binary64 x) → plain_squares (mul binary64 x x) (mul binary64 x x) ≡ is_plain x

-- "the answers stay what they were for every input": of a number in the range, and of a zero, the short way gives the narrowed number
abbrev pub ShortWay : Type 0
ShortWay = (x : Float) → T (fits binary64 x)
    → (is_plain x ≡ true → rounded_of x ≡ narrow_of x)
    × (Zero x → rounded_of x ≡ narrow_of x)

-- and no number in the range becomes infinite
abbrev pub PlainStaysFinite : Type 0
PlainStaysFinite = (x : Float) → T (fits binary64 x) → is_plain x ≡ true → is_finite (narrow_of x) ≡ true

-- ---- K5. A muted microphone is no evidence

-- the near energy of a block over its valid samples is 0
abbrev pub Muted : Block → Type 0
Muted b = T (eq (energy_of b.near b.valid) zero64)

-- "the whole detector as it was, just as a far-inactive block does": double talk is the verdict that is stored
pub record AsItWas (before after : Detector) : Type 0 where
  pub count : after.dtd_blocks ≡ before.dtd_blocks
  pub baseline : after.dtd_baseline ≡ before.dtd_baseline
  pub deviation : after.dtd_deviation ≡ before.dtd_deviation
  pub smooth : after.coherence_smooth ≡ before.coherence_smooth
  pub step_scale : after.step_scale ≡ before.step_scale
  pub collapsed : after.dtd_collapsed ≡ before.dtd_collapsed
  pub protected : after.protect_output ≡ before.protect_output
  pub double_talk : after.double_talk ≡ before.dtd_collapsed || before.protect_output

-- "A block whose near energy over the valid samples is 0 must leave the whole detector as it was": every such block, whatever the state, the
-- buffers and the far samples, a flush's too
abbrev pub MutedStands : Type 0
MutedStands = (e : Engine) (far : List Float) (b : Block) → Muted b → AsItWas e.state.mic.detector (run_block e far b).engine.state.mic.detector

-- And no other far-active one: from each of these the detector learns as document 01 has it, by the block's c, in which the estimate is step 2's.
abbrev pub HeardLearns : Type 0
HeardLearns = (e : Engine) (far : List Float) (b : Block)
    → let s = e.state in
    let heard = heard_in e far in
    let ring = ring_in e far in
    let estimate = (shadowed ring b.near s.mic.paths s.mic.divergence_resets e.shadow).estimate in
    let c = coherence_of (cross_of b.near estimate b.valid) (energy_of b.near b.valid) (energy_of estimate b.valid) in
    heard.active ≡ true → (Muted b → ⊥) → (run_block e far b).engine.state.mic.detector ≡ learned s.mic.detector c

-- of which the count is this: "the count goes up by 1, to 64 at most"
abbrev pub LearnedCounts : Type 0
LearnedCounts = (d : Detector) (c : Float) → d.dtd_blocks ≤ 64 → (learned d c).dtd_blocks ≡ min (d.dtd_blocks + 1) 64

-- Sample by sample: the energy is 0 exactly where every valid sample is 0.0 or -0.0. One f32 that is neither, the least of them, an infinity
-- or a NaN, is a sound.
abbrev pub MutedSamples : Type 0
MutedSamples = (near : List Float) (valid : ℕ) → ((k : ℕ) → k < valid → Fits (get_or near k nan))
    → (T (eq (energy_of near valid) zero64) → (k : ℕ) → k < valid → Zero (get_or near k nan))
    × (((k : ℕ) → k < valid → Zero (get_or near k nan)) → T (eq (energy_of near valid) zero64))

-- ---- K8. Tell me when a sample went over

-- "whether it was exact, rounded, or a finite number that became infinite. .. An infinite or NaN input reads as exact"
abbrev pub KindsTold : Type 0
KindsTold = (x : Float)
    → (is_finite x ≡ false → kind_of x ≡ Exact)
    × (is_finite x ≡ true → is_finite (narrow_of x) ≡ false → kind_of x ≡ Over)
    × (is_finite (narrow_of x) ≡ true → eq x (narrow_of x) ≡ true → kind_of x ≡ Exact)
    × (is_finite (narrow_of x) ≡ true → eq x (narrow_of x) ≡ false → kind_of x ≡ Rounded)

-- at the borders: 2^-149 and -0.0, 2^-150, 2^128 - 2^103 and the f64 below it
abbrev pub KindBorders : Type 0
KindBorders =
    (kind_of (fin false 1 (negsuc 148)) ≡ Exact)
    × (kind_of (fin true 0 (pos 0)) ≡ Exact)
    × (kind_of (fin false 1 (negsuc 149)) ≡ Rounded)
    × (kind_of (fin true (2 ^ 25 - 1) (pos 103)) ≡ Over)
    × (kind_of (fin true (2 ^ 53 - 2 ^ 28 - 1) (pos 75)) ≡ Rounded)

-- by the size: from 2^128 - 2^103 on every number goes over, and none does up to 2^127 (`fin s m e` has the size m * up e / down e)
abbrev pub OverSizes : Type 0
OverSizes = (s : Bool) (m : ℕ) (e : ℤ)
    → ((2 ^ 128 - 2 ^ 103) * down e ≤ m * up e → kind_of (fin s m e) ≡ Over)
    × (m * up e ≤ 2 ^ 127 * down e → kind_of (fin s m e) ≡ Over → ⊥)

-- a count is of each number by itself
abbrev pub CountsEach : Type 0
CountsEach =
    ((xs ys : List Float) → over_count (xs ++ ys) ≡ over_count xs + over_count ys)
    × ((x : Float) → kind_of x ≡ Over → over_count (x ∷ []) ≡ 1)
    × ((x : Float) → (kind_of x ≡ Over → ⊥) → over_count (x ∷ []) ≡ 0)

-- "The real inverse then says how many of its 512 samples went over": of all numbers that it narrows, whichever half is asked for; 0 where it
-- is refused
abbrev pub InverseTells : Type 0
InverseTells = (t scratch x out : List Float) (later : Bool)
    → let points = run_of t reversal_table true (halves_of t x) in
    (length points ≡ 512)
    × (t ≡ recombination → (inverse_of x out).answer ≡ 0 → (inverse_of x out).overs ≡ over_count points)
    × ((inverse_with_of t scratch x out).answer ≡ 0 → (inverse_with_of t scratch x out).overs ≡ over_count points)
    × ((half_with_of t scratch x later out).answer ≡ 0 → (half_with_of t scratch x later out).overs ≡ over_count points)
    × (((inverse_of x out).answer ≡ 0 → ⊥) → (inverse_of x out).overs ≡ 0)
    × (((inverse_with_of t scratch x out).answer ≡ 0 → ⊥) → (inverse_with_of t scratch x out).overs ≡ 0)
    × (((half_with_of t scratch x later out).answer ≡ 0 → ⊥) → (half_with_of t scratch x later out).overs ≡ 0)

-- "the sum over the block's inverses, with or without the suppressor": what each of a block's steps adds. A divergence and a cleared shadow
-- take nothing off.
pub record StepsTell : Type 0 where
  pub shadow : (ring : Ring) (near : List Float) (paths : Paths) (resets : ℕ) (shadow : List Float)
      → (shadowed ring near paths resets shadow).overs ≡ overs_of (echo_of shadow ring)
  pub output : (ring : Ring) (near : List Float) (paths : Paths) (suppressor : Suppressor) (resets : ℕ) (shadow output : List Float)
      → (estimated ring near paths suppressor resets shadow output).overs ≡ overs_of (echo_of output ring)
  pub update : (runs : Bool) (ring : Ring) (far_power error : List Float) (scale : Float) (means : List Float) (paths : Paths) (resets : ℕ) (shadow : List Float)
      → let spectrum = spectrum_of (framed error) in
      let rates = rates_of scale means far_power in
      (updated runs ring far_power error scale means paths resets shadow).overs
      ≡ pick runs (iter (λ p n. n + overs_of (gradient_of (met_by ring p) spectrum rates)) 0 ring.partitions) 0
  pub suppressor : (runs protect : Bool) (error estimate : List Float) (suppressor : Suppressor)
      → let after = (suppressed runs protect error estimate suppressor).suppressor in
      (suppressed runs protect error estimate suppressor).overs
      ≡ pick runs (overs_of (shaped (averaged after.gain) (spectrum_of after.error_window))) 0

-- and a block tells their sum
abbrev pub BlockTells : Type 0
BlockTells = (e : Engine) (far : List Float) (b : Block)
    → let ring = ring_in e far in
    let f = filtered_in e far b in
    let d = detector_in e far b in
    let j = compares b.adapt (heard_in e far).active b.near (energy_of b.near b.valid) b.valid f e.state.mic in
    let update = updated (updates b.adapt f j) ring (heard_in e far).far_power f.shadow_error d.step_scale e.state.mic.far_power_mean j.comparison.paths f.output.resets j.comparison.shadow in
    let suppression = suppressed (suppresses e.state.suppress (heard_in e far).far.far_active f) d.protect_output f.output.error f.output.spectrum f.output.suppressor in
    (run_block e far b).told.overs
    ≡ overs_of (echo_of e.shadow ring) + overs_of (echo_of e.output ring) + update.overs + suppression.overs

-- "The block report everywhere gains one number, 0 where no block ran": refusals included; else it is the last block's alone (WhyLast)
pub record Told (e : Engine) (near far out : List Float) : Type 0 where
  pub process : let a = (tau.process_of e near far out).answer in
      a.report.overs ≡ overs_in a.report.last
  pub flush : let a = (tau.flush_of e out).answer in
      a.report.overs ≡ overs_in a.report.last
  pub process_refused : let a = (tau.process_of e near far out).answer in
      (a.refusal ≡ 0 → ⊥) → a.report.overs ≡ 0
  pub flush_refused : let a = (tau.flush_of e out).answer in
      (a.refusal ≡ 0 → ⊥) → a.report.overs ≡ 0
  pub process_waits : let a = (tau.process_of e near far out).answer in
      a.refusal ≡ 0 → e.state.carried + length near ≤ 255 → a.report.overs ≡ 0
  pub flush_waits : let a = (tau.flush_of e out).answer in
      a.refusal ≡ 0 → e.state.carried ≡ 0 → a.report.overs ≡ 0

abbrev pub OversReported : Type 0
OversReported = (e : Engine) (near far out : List Float) → Told e near far out

-- of a call from an empty carry that fills k + 1 blocks it is the number of block k
abbrev pub OversLast : Type 0
OversLast = (e : Engine) (near far out : List Float) (k : ℕ) → Good e → e.state.carried ≡ 0
    → (tau.process_of e near far out).answer.refusal ≡ 0 → length near / 256 ≡ suc k
    → (tau.process_of e near far out).answer.report.overs
    ≡ overs_in (block_on (blocks_of k e near far).engine (take 256 (drop (256 * k) near)) (take 256 (drop (256 * k) far))).last
