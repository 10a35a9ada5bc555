-- The last block that a call reports: whether one ran in it, and what its outcome may be. Assumes nothing.
--     pairs-none, pairs-some     after pairs that fill no block the report has none, and else it has one
--     flushed-some         so has that of a flush of what is carried (with nothing carried it has none: flushed-waits)
--     process-none, process-some, flush-none, flush-some     the same of the reports of accepted calls
--     none-outcome, process-idle, flush-idle     the outcome that none ran is reported where none ran, and only there
--     process-reports, flush-reports     the rest of a report is read from the state and from the last block
--     process-outcome, flush-outcome     of this its outcome is the reason's
--     process-leak, flush-leak     the leak of every report is above 0 and at most 0.75
use mathlib.Core.Path.{◌≡◌, refl, sym, ap, ◌∙◌, subst}
use mathlib.Core.Bool.{Bool, true, false}
use mathlib.Core.List.{List, [], ◌∷◌}
use Prim.Native.Nat.{ℕ, ◌+◌, ◌≤◌}
use native.Mathlib.Omega.{arith}
use borrow.Author.Tests.{eqb-true}
use lib.Dec.{eqb}
use lib.Ieee.{Float}
use lib.ListN.{length, length-append}
use Rattle.laws.specs.Choice.{pick-if}
use Rattle.tau_steps.specs.Bounds.{Leak}
use Rattle.tau_state.specs.Ranges.{Ranged}
use Rattle.tau_state.specs.Report.{leak_in, outcome_of, reason_in, report_of}
use Rattle.tau_state.specs.declared.report.Outcome.{Outcome}
use Rattle.tau_state.specs.declared.report.Outcome.TheVariants.{NotRun, NoMove, Rescue, Move}
use Rattle.tau_state.specs.declared.report.Last.{Last}
use Rattle.tau_state.specs.declared.report.Report.{Report}
use Rattle.tau_state.specs.declared.report.Last.TheVariants.{NoneRan, Did}
use Rattle.tau_block_laws.proofs.Ran.{ran-bounded}
use Rattle.tau_frame.specs.Pairs.{Engine, Run, block_of, fill_of, pair_of, last_of, pairs_of, flushed_of}
use Rattle.tau.specs.Calls.{Called, process_of, flush_of}
use Rattle.tau_streams.specs.Stream.{ran_by, joined}
use Rattle.tau.specs.Calls.{process_number, flush_number}
use Rattle.tau_fresh.proofs.Accepted.{accepted-pairs}
use Rattle.tau.proofs.Accepted.{flush-ran}
use Rattle.tau_streams.proofs.Counts.{block-delivers, delivers, flushed-waits}
use Rattle.tau_streams.proofs.Cut.{served-ran, call-ran}

-- ---- what a block's outcome is

-- it is not that none ran, and a move has a leak in its bounds
record Told (o : Outcome) : Type 0 where
  ran : o ≡ NotRun → ⊥
  bounded : (leak : Float) → o ≡ Move leak → Leak leak

no_move : Told NoMove
no_move = record {
  ran = λ e. let z : ◌≡◌ {A = ℕ} 0 1 = cc in absurd (omega arith);
  bounded = λ leak e. let z : ◌≡◌ {A = ℕ} 0 1 = cc in absurd (omega arith);
}

rescue : Told Rescue
rescue = record {
  ran = λ e. let z : ◌≡◌ {A = ℕ} 0 1 = cc in absurd (omega arith);
  bounded = λ leak e. let z : ◌≡◌ {A = ℕ} 0 1 = cc in absurd (omega arith);
}

move : (leak : Float) → Leak leak → Told (Move leak)
unfolding leak_in
move leak h = record {
  ran = λ e. let z : ◌≡◌ {A = ℕ} 0 1 = cc in absurd (omega arith);
  bounded = λ l e. subst Leak (ap leak_in e) h;
}

not-run : (leak : Float) → NotRun ≡ Move leak → Leak leak
not-run leak e = let z : ◌≡◌ {A = ℕ} 0 1 = cc in absurd (omega arith)

-- of the last block, where there is one
abbrev ToldIn : Last → Type 0
ToldIn NoneRan = ℕ
ToldIn (Did told) = Told (outcome_of told.reason)

-- ---- a run

-- no block ran where nothing was delivered, and only there
record Says (r : Run) : Type 0 where
  none : length r.samples ≡ 0 → r.last ≡ NoneRan
  some : 1 ≤ length r.samples → r.last ≡ NoneRan → ⊥
  told : ToldIn r.last

last_none : (a b : Last) → last_of a b ≡ NoneRan → (a ≡ NoneRan) × (b ≡ NoneRan)
unfolding last_of
last_none a NoneRan e = (e, refl)
last_none a (Did told) e = let z : ◌≡◌ {A = ℕ} 0 1 = cc in absurd (omega arith)

last-told : (a b : Last) → ToldIn a → ToldIn b → ToldIn (last_of a b)
unfolding last_of
last-told a NoneRan p q = p
last-told a (Did told) p q = q

joined_says : (p q : Run) → Says p → Says q → Says (joined p q)
unfolding last_of
joined_says p q a b =
    let j = length-append p.samples q.samples in
    record {
      none = λ z. rw (a.none (omega arith), b.none (omega arith));
      some = λ k e.
          let l = last_none p.last q.last e in
          let x : 1 ≤ length p.samples → ⊥ = λ m. a.some m l.0 in
          let y : 1 ≤ length q.samples → ⊥ = λ m. b.some m l.1 in
          omega arith;
      told = last-told p.last q.last a.told b.told;
    }

block-told : (e : Engine) (near far : List Float) (n : ℕ) (adapt : Bool) → ToldIn (block_of e near far n adapt).last
unfolding block_of
block-told e near far n adapt = ran-bounded Told no_move rescue move _ far _

block_last : (e : Engine) (near far : List Float) (n : ℕ) (adapt : Bool) → (block_of e near far n adapt).last ≡ NoneRan → ⊥
unfolding block_of
block_last e near far n adapt h = let z : ◌≡◌ {A = ℕ} 0 1 = cc in absurd (omega arith)

block-says : (e : Engine) (near far : List Float) (n : ℕ) (adapt : Bool) → 1 ≤ n → n ≤ 256 → Says (block_of e near far n adapt)
block-says e near far n adapt a b = record {
  none = λ z. absurd (omega (arith, block-delivers e near far n adapt b));
  some = λ _. block_last e near far n adapt;
  told = block-told e near far n adapt;
}

pair-says : (e : Engine) (x y : Float) → Says (pair_of e x y)
unfolding pair_of
pair-says e x y =
    pick-if Says (eqb e.state.carried 255) (λ _. block-says (fill_of e x y) _ _ 256 true (omega arith) (omega arith))
    (λ _. record { none = λ _. refl; some = λ k. absurd (omega arith); told = 0 })

pairs-say : (e : Engine) (near far : List Float) → Says (pairs_of e near far)
unfolding pairs_of
pairs-say e [] far = record { none = λ _. refl; some = λ k. absurd (omega arith); told = 0 }
pairs-say e (x ∷ near) [] = record { none = λ _. refl; some = λ k. absurd (omega arith); told = 0 }
pairs-say e (x ∷ near) (y ∷ far) = joined_says (pair_of e x y) (pairs_of (pair_of e x y).engine near far) (pair-says e x y) (pairs-say (pair_of e x y).engine near far)

-- After pairs that fill no block there is no last block,
pub pairs-none : (e : Engine) (near far : List Float) → Ranged e.state → length near ≡ length far → e.state.carried + length near ≤ 255
    → (pairs_of e near far).last ≡ NoneRan
pairs-none e near far h l k = (pairs-say e near far).none (omega (arith, delivers e near far h l))

-- and after pairs that fill one there is.
pub pairs-some : (e : Engine) (near far : List Float) → Ranged e.state → length near ≡ length far → 256 ≤ e.state.carried + length near
    → (pairs_of e near far).last ≡ NoneRan → ⊥
pairs-some e near far h l k = (pairs-say e near far).some (omega (arith, delivers e near far h l))

-- So there is after a flush of what is carried.
pub flushed-some : (e : Engine) → 1 ≤ e.state.carried → (flushed_of e).last ≡ NoneRan → ⊥
unfolding flushed_of
flushed-some e k =
    pick-if (λ (r : Run). r.last ≡ NoneRan → ⊥) (eqb e.state.carried 0) (λ t. absurd (omega (arith, eqb-true e.state.carried 0 t)))
    (λ _. block_last e _ _ e.state.carried false)

flushed-told : (e : Engine) → ToldIn (flushed_of e).last
unfolding flushed_of
flushed-told e = pick-if (λ (r : Run). ToldIn r.last) (eqb e.state.carried 0) (λ _. 0) (λ _. block-told e _ _ e.state.carried false)

-- ---- the reports of calls

-- The rest of a report is read from the state that is answered, and from its last block.
pub process-reports : (e : Engine) (near far out : List Float)
    → let a = (process_of e near far out).answer in
    a.report ≡ report_of a.state.mic a.report.last
unfolding process_of report_of
process-reports e near far out =
    pick-if (λ (c : Called). c.answer.report ≡ report_of c.answer.state.mic c.answer.report.last) _ (λ _. refl) (λ _. refl)

pub flush-reports : (e : Engine) (out : List Float)
    → let a = (flush_of e out).answer in
    a.report ≡ report_of a.state.mic a.report.last
unfolding flush_of report_of
flush-reports e out =
    pick-if (λ (c : Called). c.answer.report ≡ report_of c.answer.state.mic c.answer.report.last) _ (λ _. refl) (λ _. refl)

pub process-outcome : (e : Engine) (near far out : List Float)
    → let a = (process_of e near far out).answer in
    a.report.outcome ≡ outcome_of (reason_in a.report.last)
unfolding report_of
process-outcome e near far out = ap (λ (r : Report). r.outcome) (process-reports e near far out)

pub flush-outcome : (e : Engine) (out : List Float)
    → let a = (flush_of e out).answer in
    a.report.outcome ≡ outcome_of (reason_in a.report.last)
unfolding report_of
flush-outcome e out = ap (λ (r : Report). r.outcome) (flush-reports e out)

module _ (e : Engine) (near far out : List Float) (h : process_number e near far out ≡ 0) where
  pub reported : (process_of e near far out).answer.report.last ≡ (pairs_of e near far).last
  reported = ap (λ (r : Run). r.last) (call-ran e near far out h)

  pub process-none : e.state.carried + length near ≤ 255 → (process_of e near far out).answer.report.last ≡ NoneRan
  process-none k =
      let a = accepted-pairs e.state (length e.shadow) (length e.output) (length e.spectra) (length e.powers) _ _ _ h in
      reported ∙ pairs-none e near far a.state.ranged a.pairs.level k

  pub process-some : 256 ≤ e.state.carried + length near → (process_of e near far out).answer.report.last ≡ NoneRan → ⊥
  process-some k z =
      let a = accepted-pairs e.state (length e.shadow) (length e.output) (length e.spectra) (length e.powers) _ _ _ h in
      pairs-some e near far a.state.ranged a.pairs.level k (sym reported ∙ z)

module _ (e : Engine) (out : List Float) (h : flush_number e out ≡ 0) where
  pub flush-reported : (flush_of e out).answer.report.last ≡ (flushed_of e).last
  flush-reported = ap (λ (r : Run). r.last) (ap ran_by (flush-ran e out h) ∙ served-ran (flushed_of e) out)

  pub flush-none : e.state.carried ≡ 0 → (flush_of e out).answer.report.last ≡ NoneRan
  flush-none z = flush-reported ∙ ap (λ (r : Run). r.last) (flushed-waits e z)

  pub flush-some : 1 ≤ e.state.carried → (flush_of e out).answer.report.last ≡ NoneRan → ⊥
  flush-some k z = flushed-some e k (sym flush-reported ∙ z)

-- whatever the state was, accepted or refused
process-told : (e : Engine) (near far out : List Float) → ToldIn (process_of e near far out).answer.report.last
unfolding process_of report_of
process-told e near far out = pick-if (λ (c : Called). ToldIn c.answer.report.last) _ (λ _. (pairs-say e near far).told) (λ _. 0)

flush-told : (e : Engine) (out : List Float) → ToldIn (flush_of e out).answer.report.last
unfolding flush_of report_of
flush-told e out = pick-if (λ (c : Called). ToldIn c.answer.report.last) _ (λ _. flushed-told e) (λ _. 0)

-- the outcome of a last block: that none ran is the outcome of none alone, and a leak is in its bounds
ran-of : (l : Last) → ToldIn l → outcome_of (reason_in l) ≡ NotRun → l ≡ NoneRan
unfolding reason_in
ran-of NoneRan t e = refl
ran-of (Did told) t e = absurd (t.ran e)

leak-of : (l : Last) → ToldIn l → (leak : Float) → outcome_of (reason_in l) ≡ Move leak → Leak leak
unfolding reason_in outcome_of
leak-of NoneRan t leak e = not-run leak e
leak-of (Did told) t leak e = t.bounded leak e

pub none-outcome : (l : Last) → l ≡ NoneRan → outcome_of (reason_in l) ≡ NotRun
unfolding outcome_of reason_in
none-outcome l h = rw h

pub process-idle : (e : Engine) (near far out : List Float) → (process_of e near far out).answer.report.outcome ≡ NotRun
    → (process_of e near far out).answer.report.last ≡ NoneRan
process-idle e near far out h = ran-of _ (process-told e near far out) (sym (process-outcome e near far out) ∙ h)

pub flush-idle : (e : Engine) (out : List Float) → (flush_of e out).answer.report.outcome ≡ NotRun → (flush_of e out).answer.report.last ≡ NoneRan
flush-idle e out h = ran-of _ (flush-told e out) (sym (flush-outcome e out) ∙ h)

-- The leak that a call reports is above 0 and at most 0.75.
pub process-leak : (e : Engine) (near far out : List Float) (leak : Float) → (process_of e near far out).answer.report.outcome ≡ Move leak → Leak leak
process-leak e near far out leak h = leak-of _ (process-told e near far out) leak (sym (process-outcome e near far out) ∙ h)

pub flush-leak : (e : Engine) (out : List Float) (leak : Float) → (flush_of e out).answer.report.outcome ≡ Move leak → Leak leak
flush-leak e out leak h = leak-of _ (flush-told e out) leak (sym (flush-outcome e out) ∙ h)
