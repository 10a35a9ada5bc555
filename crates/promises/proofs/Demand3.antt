-- Demand 3, from the theorems on streams of the two engines. Assumes nothing.
use mathlib.Core.Path.{◌≡◌, sym, ap, ◌∙◌}
use mathlib.Core.Bool.{true}
use Prim.Native.Nat.{ℕ}
use native.Mathlib.Omega.{arith}
use lib.ListN.{length}
use Rattle.laws.specs.Choice.{pick-if}
use Rattle.streams.proofs.Sounds.{still-zero, still-minus, still-other, still-finite, minus-read}
use Rattle.rho_sample.specs.Sample as sample
use Rattle.rho.specs.Calls as rho
use Rattle.rho_streams.specs.Stream as rho_stream
use Rattle.rho_streams.proofs.Counts as rho_counts
use Rattle.rho_streams.proofs.Cut as rho_cut
use Rattle.rho_streams.proofs.Since as rho_since
use Rattle.rho_streams.proofs.Freeze as rho_freeze
use Rattle.tau_state.specs.Ranges.{ranged_of}
use Rattle.tau_frame.specs.Pairs.{Engine}
use Rattle.tau.specs.Calls as tau
use Rattle.tau.proofs.Accepted as accepted
use Rattle.tau_fresh.proofs.Accepted as fresh
use Rattle.tau_streams.specs.Stream.{Good, Since, Uncut}
use Rattle.tau_streams.proofs.Counts.{intact-accepted}
use Rattle.tau_streams.proofs.Cut.{rows_agree, cut-call}
use Rattle.tau_streams.proofs.Since.{now-good, created-calls, reset-calls, since-delivers, since-waits, since-flush, since-blocks, since-rest}
use Rattle.tau_streams.proofs.Silence.{singer-places, singer-flushed, first-places, three-samples}
use Rattle.promises.specs.Demand1.{tau_sized, rho_sized}
use Rattle.promises.specs.Demand3.{TauReady, TauHolds, TauCalls, TauCuts, TauParts, Sounds, TauSilence, TauSinger, TauThree, RhoReady, RhoHolds, RhoCalls, RhoFlush, RhoCounts, RhoCuts, RhoParts, RhoPair, RhoFreeze, RhoUpdates}

-- ---- TauCanceller

-- where a state is accepted, its two tests hold
tau-tests : (e : Engine) → tau.state_number e ≡ 0
    → (ranged_of e.state ≡ true) × (tau_sized e.state.partitions e.shadow e.output e.spectra e.powers ≡ true)
unfolding tau.state_refusal
tau-tests e =
    let sized = tau_sized e.state.partitions e.shadow e.output e.spectra e.powers in
    let Both = (ranged_of e.state ≡ true) × (sized ≡ true) in
    pick-if (λ (n : ℕ). n ≡ 0 → Both) (ranged_of e.state)
    (λ r. pick-if (λ (n : ℕ). n ≡ 0 → Both) sized (λ z _. (r, z)) (λ _ q. absurd (omega (arith, q))))
    (λ _ q. absurd (omega (arith, q)))

tau-ready : (e : Engine) → Good e → TauReady e
tau-ready e g =
    let z = intact-accepted e g in
    let t = tau-tests e z in
    let s = fresh.accepted-state e.state (length e.shadow) (length e.output) (length e.spectra) (length e.powers) z in
    record {
      ranged = t.0;
      sized = t.1;
      resets = accepted.reset-answers e ∙ z;
      flushes = λ out k. accepted.flush-answers e out ∙ fresh.flush-accepted e.state _ _ _ _ _ (record { state = s; room = k });
      feeds = λ near far out l m k.
          accepted.process-answers e near far out
          ∙ fresh.process-accepted e.state _ _ _ _ _ _ _ (record { state = s; pairs = record { level = l; few = m; room = k } });
    }

holds : (t : Since) → Uncut t → TauHolds t
holds t h = record {
  delivered = since-delivers t h;
  waiting = since-waits t h;
  flushed = λ out z. (since-flush t out h (sym (accepted.flush-answers t.run.engine out) ∙ z)).count;
  samples = since-blocks t h;
  rest = since-rest t h;
  ready = tau-ready t.run.engine (now-good t h);
}

pub tau-calls : TauCalls
tau-calls = (
  λ parts flag sh ou xs ps cs z. holds _ (created-calls parts flag sh ou xs ps cs (sym (accepted.create-answers parts flag sh ou xs ps) ∙ z)),
  λ e cs z. holds _ (reset-calls e cs (sym (accepted.reset-answers e) ∙ z)),
)

pub tau-cuts : TauCuts
tau-cuts = rows_agree

pub tau-parts : TauParts
tau-parts e ps out l r z = let s = cut-call e ps out l r z in (s.accepted, s.run)

pub sounds : Sounds
sounds = (still-zero, still-minus, still-other, still-finite, minus-read)

pub tau-silence : TauSilence
tau-silence = first-places

pub tau-singer : TauSinger
tau-singer e cs b g = (singer-places e cs b g, λ out f. singer-flushed e cs out b g f)

pub tau-three : TauThree
tau-three = three-samples

-- ---- RhoCanceller

rho-tests : (e : sample.Engine) → rho_stream.state_number e ≡ 0
    → (rho.ranged_of e.state ≡ true) × (rho_sized e.state.taps e.weights e.history ≡ true)
unfolding rho.state_refusal
rho-tests e =
    let sized = rho_sized e.state.taps e.weights e.history in
    let Both = (rho.ranged_of e.state ≡ true) × (sized ≡ true) in
    pick-if (λ (n : ℕ). n ≡ 0 → Both) (rho.ranged_of e.state)
    (λ r. pick-if (λ (n : ℕ). n ≡ 0 → Both) sized (λ z _. (r, z)) (λ _ q. absurd (omega (arith, q))))
    (λ _ q. absurd (omega (arith, q)))

rho-ready : (e : sample.Engine) → rho_cut.Ready e → RhoReady e
rho-ready e r =
    let z = rho_cut.ready-accepted e.state _ _ r in
    let t = rho-tests e z in
    record {
      ranged = t.0;
      sized = t.1;
      resets = rho_counts.reset-answers e ∙ z;
      flushes = rho_counts.flush-answers e ∙ z;
      feeds = λ near far out l m k.
          rho_counts.process-answers e near far out ∙ rho_cut.process-accepted e near far out r (record { level = l; few = m; room = k });
    }

rho-holds : (t : rho_stream.Since) → rho_stream.Uncut t → RhoHolds t
rho-holds t h = record {
  delivered = rho_since.since-delivers t h;
  samples = h.run;
  passes = λ n. rho_since.since-passes t n h;
  ready = rho-ready t.run.engine (rho_since.since-ready t h);
}

pub rho-calls : RhoCalls
rho-calls =
    (λ rate tail w h cs z. rho-holds _ (rho_since.created-calls rate tail w h cs z), λ e cs z. rho-holds _ (rho_since.reset-calls e cs z))

pub rho-flush : RhoFlush
rho-flush e =
    let u = rho_counts.flush-untouched e in
    (ap (λ (c : rho.Called). c.answer.delivered) u, ap rho_stream.delivered_by u, ap rho_stream.left_by u)

pub rho-counts : RhoCounts
rho-counts = rho_cut.row-delivers

pub rho-cuts : RhoCuts
rho-cuts = rho_cut.rows_agree

pub rho-parts : RhoParts
rho-parts e ps out l r z = let s = rho_cut.cut-call e ps out l r z in (s.accepted, s.run)

pub rho-pair : RhoPair
rho-pair e x y = (rho_freeze.loud-sets e x y, rho_freeze.quiet-counts e x y)

pub rho-freeze : RhoFreeze
rho-freeze = (rho_freeze.freeze-ends, rho_freeze.call_ends, rho_freeze.loud-lasts)

pub rho-updates : RhoUpdates
rho-updates = (rho_freeze.last-updates, rho_freeze.frozen-keeps, rho_freeze.diverged-clears)
