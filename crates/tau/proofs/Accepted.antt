-- What a call leaves, refused or not. Assumes nothing.
--     create-answers, reset-answers, process-answers, flush-answers     a call answers the number of its refusal
--     create-began, reset-began     what an accepted creation and reset leaves
--     process-ran, flush-ran     what an accepted process and flush leaves
--     create-refused, reset-refused, process-refused, flush-refused     what a refused one leaves: all as it was given, and nothing delivered
use mathlib.Core.Path.{◌≡◌, refl, sym}
use mathlib.Core.Bool.{Bool}
use mathlib.Core.List.{List}
use Prim.Native.Nat.{ℕ}
use borrow.Author.Tests.{eqb-true, eq-eqb, ne_eqb}
use lib.Dec.{eqb}
use lib.Ieee.{Float}
use lib.ListN.{length}
use Rattle.laws.specs.Choice.{pick_yes, pick_no, pick-if}
use Rattle.tau_fresh.specs.Fresh.{empty_of}
use Rattle.tau_frame.specs.Pairs.{Engine, pairs_of, flushed_of}
use Rattle.tau.specs.Calls.{create_refusal, Begun, Called, begun_of, create_of, reset_of, refused_of, served_of, process_of, flush_of, state_number, process_number, flush_number}

-- ---- creation

module _ (parts : ℕ) (flag : Bool) (sh ou xs ps : List Float) where
  -- the number of its refusal
  abbrev create_number : ℕ
  create_number = create_refusal parts (length sh) (length ou) (length xs) (length ps)

  -- Creation answers the number of its refusal.
  pub create-answers : (create_of parts flag sh ou xs ps).answer.refusal ≡ create_refusal parts (length sh) (length ou) (length xs) (length ps)
  unfolding create_of
  create-answers =
      pick-if (λ (b : Begun). b.answer.refusal ≡ create_number) (eqb create_number 0) (λ t. sym (eqb-true create_number 0 t)) (λ _. refl)

  -- Where that is 0 it leaves the fresh state of the settings, both counters 0, and +0.0 all over the four buffers.
  pub create-began : create_refusal parts (length sh) (length ou) (length xs) (length ps) ≡ 0 → create_of parts flag sh ou xs ps ≡ begun_of parts flag 0 0
  unfolding create_of
  create-began h = sym (pick_yes _ _ _ (eq-eqb create_number 0 h) refl)

  -- Else it leaves the buffers as they were, and answers the state that is all zero.
  pub create-refused : (create_refusal parts (length sh) (length ou) (length xs) (length ps) ≡ 0 → ⊥)
      → create_of parts flag sh ou xs ps
      ≡ record { answer = record { refusal = create_refusal parts (length sh) (length ou) (length xs) (length ps); state = empty_of }; shadow = sh; output = ou; spectra = xs; powers = ps }
  unfolding create_of
  create-refused h = sym (pick_no _ _ _ (ne_eqb create_number 0 h) refl)

-- ---- reset

-- Reset answers the number of its refusal.
pub reset-answers : (e : Engine) → (reset_of e).answer.refusal ≡ state_number e
unfolding reset_of
reset-answers e =
    let r = state_number e in
    pick-if (λ (b : Begun). b.answer.refusal ≡ r) (eqb r 0) (λ t. sym (eqb-true r 0 t)) (λ _. refl)

-- Where that is 0 it leaves the fresh state of the kept settings, with both counters as they were, and +0.0 all over the four buffers.
pub reset-began : (e : Engine) → state_number e ≡ 0
    → reset_of e ≡ begun_of e.state.partitions e.state.suppress e.state.mic.transfers e.state.mic.divergence_resets
unfolding reset_of
reset-began e h = sym (pick_yes _ _ _ (eq-eqb (state_number e) 0 h) refl)

-- Else it leaves all as it was.
pub reset-refused : (e : Engine) → (state_number e ≡ 0 → ⊥)
    → reset_of e ≡ record { answer = record { refusal = state_number e; state = e.state }; shadow = e.shadow; output = e.output; spectra = e.spectra; powers = e.powers }
unfolding reset_of
reset-refused e h = sym (pick_no _ _ _ (ne_eqb (state_number e) 0 h) refl)

-- ---- process

-- A process answers the number of its refusal.
pub process-answers : (e : Engine) (near far out : List Float) → (process_of e near far out).answer.refusal ≡ process_number e near far out
unfolding process_of
process-answers e near far out =
    let r = process_number e near far out in
    pick-if (λ (c : Called). c.answer.refusal ≡ r) (eqb r 0) (λ t. sym (eqb-true r 0 t)) (λ _. refl)

-- Where that is 0 it leaves what the run over its pairs does: the engine, and the samples over the front of the output buffer.
pub process-ran : (e : Engine) (near far out : List Float) → process_number e near far out ≡ 0 → process_of e near far out ≡ served_of (pairs_of e near far) out
unfolding process_of
process-ran e near far out h = sym (pick_yes _ _ _ (eq-eqb (process_number e near far out) 0 h) refl)

-- Else it delivers nothing and leaves all as it was; its outcome says that no block ran, and the rest of its report is the state's.
pub process-refused : (e : Engine) (near far out : List Float) → (process_number e near far out ≡ 0 → ⊥)
    → process_of e near far out ≡ refused_of (process_number e near far out) e out
unfolding process_of
process-refused e near far out h = sym (pick_no _ _ _ (ne_eqb (process_number e near far out) 0 h) refl)

-- ---- flush

-- A flush answers the number of its refusal.
pub flush-answers : (e : Engine) (out : List Float) → (flush_of e out).answer.refusal ≡ flush_number e out
unfolding flush_of
flush-answers e out =
    let r = flush_number e out in
    pick-if (λ (c : Called). c.answer.refusal ≡ r) (eqb r 0) (λ t. sym (eqb-true r 0 t)) (λ _. refl)

-- Where that is 0 it leaves what the flushed engine is, and its samples over the front of the output buffer.
pub flush-ran : (e : Engine) (out : List Float) → flush_number e out ≡ 0 → flush_of e out ≡ served_of (flushed_of e) out
unfolding flush_of
flush-ran e out h = sym (pick_yes _ _ _ (eq-eqb (flush_number e out) 0 h) refl)

-- Else it delivers nothing and leaves all as it was, and reports as a refused process does.
pub flush-refused : (e : Engine) (out : List Float) → (flush_number e out ≡ 0 → ⊥) → flush_of e out ≡ refused_of (flush_number e out) e out
unfolding flush_of
flush-refused e out h = sym (pick_no _ _ _ (ne_eqb (flush_number e out) 0 h) refl)
