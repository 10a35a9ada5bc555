-- After every call at most 255 pairs wait, as before it, accepted or refused. So there is room for a pair in each block. Assumes nothing.
--     created-waits, reset-waits, fed-waits, ended-waits     of each call
use mathlib.Core.Path.{refl}
use mathlib.Core.Bool.{Bool}
use mathlib.Core.List.{List}
use Prim.Native.Nat.{ℕ, ◌≤◌}
use native.Mathlib.Omega.{arith}
use borrow.Author.Tests.{eqb-true}
use lib.Dec.{eqb}
use lib.Ieee.{Float}
use lib.ListN.{length, take}
use Rattle.laws.specs.Choice.{pick-if}
use Rattle.tau_fresh.specs.Fresh.{fresh_of, empty_of}
use Rattle.tau_fresh.proofs.Accepted.{accepted-pairs}
use Rattle.tau_frame.specs.Pairs.{Engine}
use Rattle.tau.specs.Calls.{Begun, Called, create_refusal, create_of, reset_of, process_of, flush_of, state_number, process_number, flush_number}
use Rattle.tau_streams.proofs.Counts.{pairs-intact, flushed-empties}
use Rattle.wire.specs.Wire.{near_in, far_in}
use Rattle.capture.specs.Feeds.{room_of, fed_of, finished_of}

abbrev Begins : Begun → Type 0
Begins b = b.answer.state.carried ≤ 255

abbrev Waits : Called → Type 0
Waits c = c.answer.state.carried ≤ 255

pub created-waits : (parts : ℕ) (flag : Bool) (sh ou xs ps : List Float) → (create_of parts flag sh ou xs ps).answer.state.carried ≤ 255
unfolding create_of fresh_of empty_of
created-waits parts flag sh ou xs ps =
    pick-if Begins (eqb (create_refusal parts (length sh) (length ou) (length xs) (length ps)) 0) (λ _. omega arith) (λ _. omega arith)

pub reset-waits : (e : Engine) → e.state.carried ≤ 255 → (reset_of e).answer.state.carried ≤ 255
unfolding reset_of fresh_of
reset-waits e h = pick-if Begins (eqb (state_number e) 0) (λ _. omega arith) (λ _. h)

process-waits : (e : Engine) (near far out : List Float) → e.state.carried ≤ 255 → Waits (process_of e near far out)
unfolding process_of
process-waits e near far out h =
    pick-if Waits (eqb (process_number e near far out) 0)
    (λ t. let a = (accepted-pairs e.state _ _ _ _ _ _ _ (eqb-true (process_number e near far out) 0 t)).state in
    (pairs-intact e near far (record {
      ranged = a.ranged;
      shadow = a.sizes.shadow;
      output = a.sizes.output;
      spectra = a.sizes.spectra;
      powers = a.sizes.powers;
      near = refl;
      far = refl;
    })).ranged.waiting)
    (λ _. h)

pub fed-waits : (e : Engine) (s bytes : List ℕ) → e.state.carried ≤ 255 → (fed_of e s bytes).answer.state.carried ≤ 255
unfolding fed_of
fed-waits e s bytes h = let t = take 32768 s in process-waits e (near_in t) (far_in t) (room_of bytes) h

flush-waits : (e : Engine) (out : List Float) → e.state.carried ≤ 255 → Waits (flush_of e out)
unfolding flush_of
flush-waits e out h = pick-if Waits (eqb (flush_number e out) 0) (λ _. omega (arith, flushed-empties e)) (λ _. h)

pub ended-waits : (e : Engine) (bytes : List ℕ) → e.state.carried ≤ 255 → (finished_of e bytes).answer.state.carried ≤ 255
unfolding finished_of
ended-waits e bytes h = flush-waits e (room_of bytes) h
