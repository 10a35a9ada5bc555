-- What the calls answer: how many samples are delivered, and where they stand. Assumes nothing.
--     delivers             a stream gives a sample for each pair
--     create-answers, reset-answers, process-answers, flush-answers     a call answers the number of its refusal
--     create-began, reset-began, process-ran     what an accepted creation, reset and process leaves
--     create-refused, reset-refused     a refused creation or reset hands all back
--     process-delivers     it answers 0 and counts every pair; the first places of its output buffer are the samples, the rest is as it was
--     process-refused      a refused one delivers nothing and changes nothing
--     flush-untouched, flush-waits     a flush delivers nothing and changes nothing
use mathlib.Core.Path.{◌≡◌, refl, sym, ap, ◌∙◌, subst}
use mathlib.Core.List.{List, [], ◌∷◌}
use Prim.Native.Nat.{ℕ, suc}
use native.Mathlib.Omega.{arith}
use borrow.Author.Tests.{eqb-true, eq-eqb, ne_eqb}
use lib.Dec.{eqb}
use lib.Ieee.{Float}
use lib.ListN.{length, drop, length-append, length-drop}
use lib.Seq.{take_at, drop_at}
use Rattle.laws.specs.Choice.{pick_yes, pick_no, pick-if}
use Rattle.rho_state.specs.State.{taps_of, hangover_of, empty_of}
use Rattle.rho_sample.specs.Sample.{Engine}
use Rattle.rho.specs.Pairs.{pairs_of}
use Rattle.rho.specs.Calls.{create_refusal, Begun, Called, begun_of, create_of, reset_of, untouched_of, process_of, flush_of}
use Rattle.rho_streams.specs.Stream.{state_number, process_number, served_of, Delivery, waits_of, ran_by, taken_by}
use Rattle.rho_state.proofs.Accepted.{accepted-pairs}

-- A stream of N pairs gives N samples.
pub delivers : (e : Engine) (near far : List Float) → length near ≡ length far → length (pairs_of e near far).samples ≡ length near
unfolding pairs_of
delivers e [] far h = refl
delivers e (x ∷ near) [] h = absurd (omega arith)
delivers e (x ∷ near) (y ∷ far) h = ap suc (delivers (taken_by e x y).engine near far (omega arith))

-- ---- creation and reset

-- Creation answers the number of its refusal,
pub create-answers : (rate tail : ℕ) (weights history : List Float) → (create_of rate tail weights history).answer.refusal ≡ create_refusal rate tail (length weights) (length history)
unfolding create_of
create-answers rate tail weights history =
    let r = create_refusal rate tail (length weights) (length history) in
    pick-if (λ (b : Begun). b.answer.refusal ≡ r) (eqb r 0) (λ t. sym (eqb-true r 0 t)) (λ _. refl)

-- and where that is 0 it leaves the fresh state of the settings, and +0.0 all over both buffers.
pub create-began : (rate tail : ℕ) (weights history : List Float) → (create_of rate tail weights history).answer.refusal ≡ 0
    → create_of rate tail weights history ≡ begun_of (taps_of rate tail) (hangover_of rate) 0
unfolding create_of
create-began rate tail weights history h =
    sym (pick_yes _ _ _ (eq-eqb (create_refusal rate tail (length weights) (length history)) 0 (sym (create-answers rate tail weights history) ∙ h)) refl)

-- Reset answers the number of its refusal,
pub reset-answers : (e : Engine) → (reset_of e).answer.refusal ≡ state_number e
unfolding reset_of
reset-answers e =
    let r = state_number e in
    pick-if (λ (b : Begun). b.answer.refusal ≡ r) (eqb r 0) (λ t. sym (eqb-true r 0 t)) (λ _. refl)

-- and where that is 0 it leaves the fresh state of the kept settings, with the resets counted so far, and +0.0 all over both buffers.
pub reset-began : (e : Engine) → (reset_of e).answer.refusal ≡ 0 → reset_of e ≡ begun_of e.state.taps e.state.hangover_samples e.state.divergence_resets
unfolding reset_of
reset-began e h = sym (pick_yes _ _ _ (eq-eqb (state_number e) 0 (sym (reset-answers e) ∙ h)) refl)

-- A refused creation or reset hands all back; a creation's state is then all zero.
pub create-refused : (rate tail : ℕ) (weights history : List Float) → ((create_of rate tail weights history).answer.refusal ≡ 0 → ⊥)
    → create_of rate tail weights history
    ≡ record { answer = record { refusal = create_refusal rate tail (length weights) (length history); state = empty_of }; weights = weights; history = history }
unfolding create_of
create-refused rate tail weights history n =
    sym (pick_no _ _ _ (ne_eqb _ 0 (λ z. n (create-answers rate tail weights history ∙ z))) refl)

pub reset-refused : (e : Engine) → ((reset_of e).answer.refusal ≡ 0 → ⊥)
    → reset_of e ≡ record { answer = record { refusal = state_number e; state = e.state }; weights = e.weights; history = e.history }
unfolding reset_of
reset-refused e n = sym (pick_no _ _ _ (ne_eqb _ 0 (λ z. n (reset-answers e ∙ z))) refl)

-- ---- process

-- A process answers the number of its refusal.
pub process-answers : (e : Engine) (near far out : List Float) → (process_of e near far out).answer.refusal ≡ process_number e near far out
unfolding process_of
process-answers e near far out =
    let r = process_number e near far out in
    pick-if (λ (c : Called). c.answer.refusal ≡ r) (eqb r 0) (λ t. sym (eqb-true r 0 t)) (λ _. refl)

-- An accepted process leaves the run over its pairs.
pub process-ran : (e : Engine) (near far out : List Float) → process_number e near far out ≡ 0 → process_of e near far out ≡ served_of e near far out
unfolding process_of
process-ran e near far out h = sym (pick_yes _ _ _ (eq-eqb (process_number e near far out) 0 h) refl)

-- It answers 0 and delivers a sample for each pair.
pub process-delivers : (e : Engine) (near far out : List Float) → process_number e near far out ≡ 0 → Delivery e near far out (process_of e near far out)
process-delivers e near far out h =
    let p = (accepted-pairs e.state (length e.weights) (length e.history) (length near) (length far) (length out) h).pairs in
    let s = (pairs_of e near far).samples in
    let d : length s ≡ length near = delivers e near far p.level in
    subst (Delivery e near far out) (sym (process-ran e near far out h)) (record {
      accepted = refl;
      count = refl;
      long = omega (arith, length-append s (drop (length near) out), length-drop (length near) out, d, p.room);
      samples = take_at s (drop (length near) out) (length near) d;
      rest = drop_at s (drop (length near) out) (length near) d;
    })

-- A refused process delivers nothing and leaves all as it was.
pub process-refused : (e : Engine) (near far out : List Float) → (process_number e near far out ≡ 0 → ⊥) → process_of e near far out ≡ untouched_of (process_number e near far out) e out
unfolding process_of
process-refused e near far out h = sym (pick_no _ _ _ (ne_eqb (process_number e near far out) 0 h) refl)

-- ---- flush

-- A flush answers the number of its refusal.
pub flush-answers : (e : Engine) → (flush_of e).answer.refusal ≡ state_number e
unfolding flush_of
flush-answers e = refl

-- A flush, accepted or not, hands all back: it delivers nothing and leaves the state and the buffers as they were.
pub flush-untouched : (e : Engine) → flush_of e ≡ untouched_of (state_number e) e []
unfolding flush_of
flush-untouched e = refl

pub flush-waits : (e : Engine) → ran_by (flush_of e) ≡ waits_of e
flush-waits e = ap ran_by (flush-untouched e)
