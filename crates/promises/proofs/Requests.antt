-- What is promised of the requests, from what is proved of the steps and the blocks. Assumes nothing.
use mathlib.Core.Path.{◌≡◌, refl, sym, ap, subst, ◌∙◌}
use mathlib.Core.Bool.{Bool, true, false}
use mathlib.Core.List.{List, [], ◌∷◌, ◌++◌}
use Prim.Native.Nat.{ℕ, ◌+◌, ◌≤◌, min, zero, suc}
use native.Mathlib.Omega.{arith}
use borrow.Author.Tests.{ltb-true, ltb-false, eqb-true}
use lib.Dec.{T, ltb, eqb}
use lib.IntN.{ℤ}
use lib.Ieee.{Float, nan, inf, eq, to_bits, fin, round}
use lib.ListN.{length}
use Rattle.laws.specs.Choice.{pick, pick-if}
use Rattle.laws.specs.Loops.{iter}
use Rattle.numbers.specs.Finite.{is_finite}
use Rattle.numbers.specs.declared.narrowing.Kind.{Kind}
use Rattle.numbers.specs.declared.narrowing.Kind.TheVariants.{Exact, Rounded, Over}
use Rattle.numbers.specs.Narrowing.{is_plain, narrow_of, kind_of}
use Rattle.numbers.proofs.NarrowedLaws.{narrow-huge}
use Rattle.numbers.proofs.Overs.{kind-exact, kind-rounded, kind-over, kind-none, size-narrows}
use Rattle.numbers.proofs.Plain.{plain-is, plain_size, plain-rounded, plain-finite, zero-rounded}
use Rattle.narrow_list.specs.Overs.{over_one, over_count}
use Rattle.narrow_list.proofs.OverCounts.{overs-app, finite-none}
use Rattle.complex_fft.specs.Reversal.{reversal_table}
use Rattle.complex_fft.specs.ComplexFft.{run_of}
use Rattle.complex_fft.proofs.Sizes.{run_long}
use Rattle.fft.specs.RealFft.{halves_of, samples_with, overs_with}
use Rattle.fft.specs.Calls.{Sampled, spectrum_of, samples_of, overs_of, half_of_samples, inverse_of, inverse_with_of, half_with_of}
use Rattle.fft.proofs.Sizes.{halves_long}
use Rattle.tau_state.specs.Constants.{zero64}
use Rattle.tau_state.specs.Sums.{energy_of}
use Rattle.tau_state.specs.Report.{reason_number, outcome_of, reason_in, report_of, overs_in}
use Rattle.tau_state.specs.declared.state.Detector.{Detector}
use Rattle.tau_state.specs.declared.state.Paths.{Paths}
use Rattle.tau_state.specs.declared.state.Suppressor.{Suppressor}
use Rattle.tau_state.specs.declared.report.Last.{Last}
use Rattle.tau_state.specs.declared.report.Last.TheVariants.{NoneRan}
use Rattle.tau_state.specs.declared.report.Outcome.{Outcome}
use Rattle.tau_state.specs.declared.report.Outcome.TheVariants.{NotRun, NoMove}
use Rattle.tau_state.specs.declared.report.Reason.{Reason}
use Rattle.tau_state.specs.declared.report.Reason.TheVariants.{NoBlock, FlushBlock, OutputDiverged, FarNotActive, NotEstablished, Rescued, QuietStreakShort, NoOutputPower, NoAdvantage, Moved}
use Rattle.tau_detector.specs.Detector.{count_of, learned, stands}
use Rattle.tau_paths.specs.Paths.{Comparison, reason_of, settled, counted, shadow_after, output_after, is_rescue, acted, compared}
use Rattle.tau_spectra.specs.Ring.{Ring, met_by}
use Rattle.tau_filter.specs.Filter.{Shadowed, Estimated, echo_of, shadowed, estimated}
use Rattle.tau_update.specs.Update.{framed, rates_of, gradient_of, learnt_at, learnt_to, learnt_by, Updated, updated}
use Rattle.tau_suppressor.specs.Suppressor.{averaged, shaped, suppressed}
use Rattle.tau_steps.proofs.Energy.{energy-zeros}
use Rattle.tau_block.specs.Block.{listen, run_block}
use Rattle.tau_block.specs.Groups.{filtered, delivered, compares}
use Rattle.tau_block_laws.proofs.Muted.{muted-block, heard-block}
use Rattle.tau_fresh.proofs.Accepted.{accepted-pairs}
use Rattle.tau_frame.specs.Pairs.{Engine, Run, block_of, flushed_of}
use Rattle.tau.specs.Calls as tau
use Rattle.tau.proofs.Accepted as accepted
use Rattle.tau_streams.specs.Stream.{blocks_of}
use Rattle.tau_streams.proofs.Blocks.{stream-blocks, blocks_last}
use Rattle.tau_streams.proofs.Outcomes.{reported, flush-reported, process-outcome, flush-outcome, process-none, process-some, flush-none, process-idle}
use Rattle.promises.specs.Requests.{Cause, first_of, NoneHolds, FirstHolds, WhyFirst, WhyActed, ActsAsSaid, WhyReported, WhyLast, PlainSizes, PlainBySquare, ShortWay, PlainStaysFinite, AsItWas, MutedStands, HeardLearns, LearnedCounts, MutedSamples, KindsTold, KindBorders, OverSizes, CountsEach, InverseTells, StepsTell, BlockTells, OversReported, OversLast, ring_in}

-- ---- K2

none-holds : (cs : List Cause) (otherwise : Reason) → NoneHolds cs → first_of cs otherwise ≡ otherwise
unfolding first_of pick
none-holds [] otherwise h = refl
none-holds (c ∷ cs) otherwise h = rw h.0 (none-holds cs otherwise h.1)

one_holds : (before after : List Cause) (c : Cause) (otherwise : Reason) → NoneHolds before → c.holds ≡ true
    → first_of (before ++ (c ∷ after)) otherwise ≡ c.reason
unfolding first_of pick
one_holds [] after c otherwise h t = rw t
one_holds (b ∷ before) after c otherwise h t = rw h.0 (one_holds before after c otherwise h.1 t)

pub first_holds : FirstHolds
first_holds = (none-holds, one_holds)

pub why-first : WhyFirst
unfolding first_of run_block listen filtered compared acted reason_of
why-first e far b = refl

pub why-acted : WhyActed
unfolding run_block listen filtered delivered compared acted
why-acted e far b = (refl, refl, refl, refl)

idle-act : (why : Reason) (o : Outcome) → outcome_of why ≡ o → o ≡ NoMove → (paths : Paths) (transfers : ℕ) (shadow output : List Float)
    → ◌≡◌ {A = Comparison} (acted why paths transfers shadow output) (record {
      paths = paths;
      transfers = transfers;
      rescued = false;
      reason = why;
      shadow = shadow;
      output = output;
    })
unfolding acted settled counted shadow_after output_after is_rescue
idle-act why o e h paths transfers shadow output = rw (e, h)

pub acts-as-said : ActsAsSaid
unfolding acted settled counted shadow_after output_after is_rescue outcome_of
acts-as-said paths transfers shadow output =
    (λ leak. refl, refl, λ why h. idle-act why (outcome_of why) refl h paths transfers shadow output)

-- a flush's block says so
flush-why : (e : Engine) (far : List Float) (near : List Float) (n : ℕ) → (run_block e far (record { near = near; valid = n; adapt = false })).told.reason ≡ FlushBlock
unfolding first_of pick
flush-why e far near n = why-first e far (record { near = near; valid = n; adapt = false })

flushed-why : (e : Engine) → 1 ≤ e.state.carried → reason_in (flushed_of e).last ≡ FlushBlock
unfolding flushed_of block_of reason_in
flushed-why e k =
    pick-if (λ (r : Run). reason_in r.last ≡ FlushBlock) (eqb e.state.carried 0) (λ t. absurd (omega (arith, eqb-true e.state.carried 0 t)))
    (λ _. flush-why _ _ _ _)

-- the number 0 is that of no block
zero-none : (r : Reason) → reason_number r ≡ 0 → outcome_of r ≡ NotRun
unfolding reason_number outcome_of
zero-none NoBlock h = refl
zero-none FlushBlock h = absurd (omega arith)
zero-none OutputDiverged h = absurd (omega arith)
zero-none FarNotActive h = absurd (omega arith)
zero-none NotEstablished h = absurd (omega arith)
zero-none Rescued h = absurd (omega arith)
zero-none QuietStreakShort h = absurd (omega arith)
zero-none NoOutputPower h = absurd (omega arith)
zero-none NoAdvantage h = absurd (omega arith)
zero-none (Moved leak) h = absurd (omega arith)

pub why-reported : WhyReported
unfolding report_of
why-reported e near far out =
    let p = accepted.process-answers e near far out in
    let f = accepted.flush-answers e out in
    record {
      process = process-outcome e near far out;
      flush = flush-outcome e out;
      process_refused = λ h. ap (λ (c : tau.Called). c.answer.report.last) (accepted.process-refused e near far out (λ z. h (p ∙ z)));
      flush_refused = λ h. ap (λ (c : tau.Called). c.answer.report.last) (accepted.flush-refused e out (λ z. h (f ∙ z)));
      process_waits = λ h k. process-none e near far out (sym p ∙ h) k;
      process_ran = λ h k z. process-some e near far out (sym p ∙ h) k (process-idle e near far out (process-outcome e near far out ∙ zero-none _ z));
      flush_waits = λ h k. flush-none e out (sym f ∙ h) k;
      flush_ran = λ h k. ap reason_in (flush-reported e out (sym f ∙ h)) ∙ flushed-why e k;
    }

pub why-last : WhyLast
why-last e near far out k g z h n =
    let a = accepted.process-answers e near far out in
    let l = accepted-pairs e.state (length e.shadow) (length e.output) (length e.spectra) (length e.powers) _ _ _ (sym a ∙ h) in
    reported e near far out (sym a ∙ h)
    ∙ ap (λ (r : Run). r.last) (stream-blocks e near far g z l.pairs.level)
    ∙ ap (λ (i : ℕ). (blocks_of i e near far).last) n
    ∙ blocks_last k e near far

-- ---- K3

top-is : (s : Bool) → is_plain (inf s) ≡ false
unfolding is_plain to_bits
top-is true = refl
top-is false = refl

nan_is : is_plain nan ≡ false
unfolding is_plain to_bits
nan_is = refl

pub plain-sizes : PlainSizes
plain-sizes = (plain_size, top-is, nan_is)

pub plain-by-square : PlainBySquare
plain-by-square = plain-is

pub short-way : ShortWay
short-way x f = (plain-rounded x f, zero-rounded x f)

pub plain-stays-finite : PlainStaysFinite
plain-stays-finite = plain-finite

-- ---- K5

stands-as : (d : Detector) → AsItWas d (stands d)
unfolding stands
stands-as d = record {
  count = refl;
  baseline = refl;
  deviation = refl;
  smooth = refl;
  step_scale = refl;
  collapsed = refl;
  protected = refl;
  double_talk = refl;
}

pub muted-stands : MutedStands
muted-stands e far b h = subst (AsItWas e.state.mic.detector) (sym (muted-block e far b h)) (stands-as e.state.mic.detector)

count-is : (n : ℕ) → n ≤ 64 → count_of n ≡ min (n + 1) 64
unfolding count_of
count-is n h = pick-if (λ r. r ≡ min (n + 1) 64) (ltb n 64) (λ l. omega (arith, ltb-true n 64 l)) (λ l. omega (arith, ltb-false n 64 l, h))

not_so : (b : Bool) → (T b → ⊥) → b ≡ false
not_so true h = absurd (h tt)
not_so false h = refl

pub heard-learns : HeardLearns
heard-learns e far b a h = heard-block e far b a (not_so (eq (energy_of b.near b.valid) zero64) h)

pub learned-counts : LearnedCounts
unfolding learned
learned-counts d c h = count-is d.dtd_blocks h

pub muted-samples : MutedSamples
muted-samples near valid f = energy-zeros near valid (λ k i. (f k i).fit)

-- ---- K8

pub kinds-told : KindsTold
kinds-told x =
    (λ h. sym (kind-none x h), λ h k. sym (kind-over x refl k h), λ h k. sym (kind-exact x refl h refl k), λ h k. sym (kind-rounded x refl h refl k))

pub kind-borders : KindBorders
unfolding kind_of is_finite narrow_of round eq pick
kind-borders = (refl, refl, refl, refl, refl)

huge-over : (s : Bool) (m : ℕ) (e : ℤ) → narrow_of (fin s m e) ≡ inf s → kind_of (fin s m e) ≡ Over
unfolding is_finite
huge-over s m e h = sym (kind-over (fin s m e) refl (ap is_finite h) refl)

not-over : (x : Float) → is_finite (narrow_of x) ≡ true → kind_of x ≡ Over → ⊥
unfolding over_one
not-over x h k = let z : ◌≡◌ {A = ℕ} 0 1 = sym (finite-none x h) ∙ ap over_one k in omega arith

pub over-sizes : OverSizes
over-sizes s m e = (λ h. huge-over s m e (narrow-huge s m e h), λ h. not-over (fin s m e) (size-narrows s m e h))

one-over : (x : Float) → kind_of x ≡ Over → over_count (x ∷ []) ≡ 1
unfolding over_count over_one
one-over x h = rw h

none_over : (x : Float) (k : Kind) → kind_of x ≡ k → (k ≡ Over → ⊥) → over_count (x ∷ []) ≡ 0
unfolding over_count over_one
none_over x Exact e h = rw e
none_over x Rounded e h = rw e
none_over x Over e h = absurd (h refl)

pub counts_each : CountsEach
counts_each = (overs-app, one-over, λ x h. none_over x (kind_of x) refl h)

tells : (b : Bool) (n : ℕ) (done out : List Float)
    → let w : Sampled = pick b (record { answer = 0; overs = n; out = done }) (record { answer = 2; overs = 0; out = out }) in
    (w.answer ≡ 0 → w.overs ≡ n) × ((w.answer ≡ 0 → ⊥) → w.overs ≡ 0)
unfolding pick
tells true n done out = (λ _. refl, λ h. absurd (h refl))
tells false n done out = (λ h. absurd (omega (arith, h)), λ _. refl)

pub inverse-tells : InverseTells
unfolding inverse_of inverse_with_of half_with_of overs_of overs_with
inverse-tells t scratch x out later =
    let i = tells _ (overs_of x) (samples_of x) out in
    let w = tells _ (overs_with t reversal_table x) (samples_with t reversal_table x) out in
    let h = tells _ (overs_with t reversal_table x) (half_of_samples later (samples_with t reversal_table x)) out in (
      run_long 512 t reversal_table true (halves_of t x) (halves_long t x),
      λ e a. i.0 a ∙ ap (λ (r : List Float). over_count (run_of r reversal_table true (halves_of r x))) (sym e),
      w.0,
      h.0,
      i.1,
      w.1,
      h.1,
    )

learnt-overs : (ring : Ring) (error rates shadow : List Float) (n : ℕ)
    → (learnt_to ring error rates shadow n).overs ≡ iter (λ p m. m + overs_of (gradient_of (met_by ring p) error rates)) 0 n
unfolding learnt_to learnt_at iter
learnt-overs ring error rates shadow zero = refl
learnt-overs ring error rates shadow (suc n) = ap (λ (m : ℕ). m + overs_of (gradient_of (met_by ring n) error rates)) (learnt-overs ring error rates shadow n)

by-verdict : (runs finite : Bool) (n : ℕ) (a b c : Updated) → a.overs ≡ n → b.overs ≡ n → c.overs ≡ 0 → (pick runs (pick finite a b) c).overs ≡ pick runs n 0
unfolding pick
by-verdict true true n a b c p q r = p
by-verdict true false n a b c p q r = q
by-verdict false finite n a b c p q r = r

suppressor-tells : (runs protect : Bool) (error estimate : List Float) (s : Suppressor)
    → let after = (suppressed runs protect error estimate s).suppressor in
    (suppressed runs protect error estimate s).overs ≡ pick runs (overs_of (shaped (averaged after.gain) (spectrum_of after.error_window))) 0
unfolding suppressed pick
suppressor-tells true protect error estimate s = refl
suppressor-tells false protect error estimate s = refl

update-tells : (runs : Bool) (ring : Ring) (far_power error : List Float) (scale : Float) (means : List Float) (paths : Paths) (resets : ℕ) (shadow : List Float)
    → (updated runs ring far_power error scale means paths resets shadow).overs
    ≡ pick runs (iter (λ p n. n + overs_of (gradient_of (met_by ring p) (spectrum_of (framed error)) (rates_of scale means far_power))) 0 ring.partitions) 0
unfolding updated
update-tells runs ring far_power error scale means paths resets shadow =
    let l = learnt-overs ring (spectrum_of (framed error)) (rates_of scale means far_power) shadow ring.partitions in
    by-verdict runs (learnt_by ring far_power error scale means shadow).finite _ _ _ _ l l refl

pub steps-tell : StepsTell
unfolding shadowed estimated
steps-tell = record {
  shadow = λ ring near paths resets shadow. pick-if (λ (s : Shadowed). s.overs ≡ overs_of (echo_of shadow ring)) _ (λ _. refl) (λ _. refl);
  output = λ ring near paths suppressor resets shadow output. pick-if (λ (s : Estimated). s.overs ≡ overs_of (echo_of output ring)) _ (λ _. refl) (λ _. refl);
  update = update-tells;
  suppressor = suppressor-tells;
}

pub block-tells : BlockTells
unfolding run_block listen filtered compares
block-tells e far b =
    let m = e.state.mic in
    let first = shadowed (ring_in e far) b.near m.paths m.divergence_resets e.shadow in
    rw (
      ← steps-tell.shadow (ring_in e far) b.near m.paths m.divergence_resets e.shadow,
      ← steps-tell.output (ring_in e far) b.near first.paths m.suppressor first.resets first.shadow e.output,
    )

process-overs : (e : Engine) (near far out : List Float) → (tau.process_of e near far out).answer.report.overs ≡ overs_in (tau.process_of e near far out).answer.report.last
unfolding tau.process_of report_of
process-overs e near far out = pick-if (λ (c : tau.Called). c.answer.report.overs ≡ overs_in c.answer.report.last) _ (λ _. refl) (λ _. refl)

flush-overs : (e : Engine) (out : List Float) → (tau.flush_of e out).answer.report.overs ≡ overs_in (tau.flush_of e out).answer.report.last
unfolding tau.flush_of report_of
flush-overs e out = pick-if (λ (c : tau.Called). c.answer.report.overs ≡ overs_in c.answer.report.last) _ (λ _. refl) (λ _. refl)

none_told : {last : Last} → last ≡ NoneRan → overs_in last ≡ 0
unfolding overs_in
none_told h = ap overs_in h

pub overs-reported : OversReported
overs-reported e near far out =
    let r = why-reported e near far out in
    let p = process-overs e near far out in
    let f = flush-overs e out in
    record {
      process = p;
      flush = f;
      process_refused = λ h. p ∙ none_told (r.process_refused h);
      flush_refused = λ h. f ∙ none_told (r.flush_refused h);
      process_waits = λ h k. p ∙ none_told (r.process_waits h k);
      flush_waits = λ h k. f ∙ none_told (r.flush_waits h k);
    }

pub overs-last : OversLast
overs-last e near far out k g z h n = process-overs e near far out ∙ ap overs_in (why-last e near far out k g z h n)
