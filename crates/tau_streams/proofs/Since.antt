-- Any calls in any order, from creation or reset on: process, flush and reset, refused ones among them. Assumes nothing.
--     begun-uncut          after creation and reset, accepted, nothing has come yet
--     call-uncut, calls-uncut     after each call all is as one run over the uncut stream, since the last creation, reset or flush, makes it
--     now-good             the engine is in order
--     created-calls, reset-calls     so it is after any calls from creation or reset on
--     since-blocks, since-rest     in blocks: the samples since then are those of the whole blocks of the uncut stream, and what a flush runs
--                          is a block of the rest of it, padded
--     since-delivers, since-waits     the N pairs since then have delivered the whole blocks of N, and the rest, at most 255, is carried
--     since-flush          a flush then delivers that rest: the samples are those of the flushed run over the uncut stream
use mathlib.Core.Path.{◌≡◌, refl, sym, ap, ◌∙◌, subst}
use mathlib.Core.Bool.{Bool, false}
use mathlib.Core.List.{List, [], ◌∷◌, ◌++◌}
use Prim.Native.Nat.{ℕ, ◌-◌, ◌*◌, ◌/◌, ◌%◌, ◌≤◌}
use native.Mathlib.Omega.{arith}
use borrow.Author.Tests.{eqb-true, eqb-false}
use lib.Dec.{eqb}
use lib.Ieee.{Float}
use lib.ListN.{length, drop, replicate, length-append, length-drop}
use Rattle.laws.specs.Choice.{pick-if}
use Rattle.tau_state.specs.Constants.{zero32}
use Rattle.tau_state.specs.Report.{report_of}
use Rattle.tau_frame.specs.Pairs.{Engine, Run, waits_of, block_of, pairs_of, flushed_of}
use Rattle.tau.specs.Calls.{create_refusal, create_of, reset_of, refused_of, process_of, flush_of}
use Rattle.streams.specs.Parts.{Part}
use Rattle.tau_streams.specs.Stream.{Good, begun_by, left_by, ran_by, Delivery, joined, clean_of, blocks_of, by_blocks, padded_rest, Call, feed, flush, reset, Since, anew, onward, after_call, after_calls, Uncut}
use Rattle.tau.specs.Calls.{state_number, process_number, flush_number}
use Rattle.tau_fresh.proofs.Accepted.{accepted-pairs}
use Rattle.tau.proofs.Accepted.{process-answers, process-refused, flush-answers, flush-ran, flush-refused, reset-answers, reset-refused}
use Rattle.tau_streams.proofs.Counts.{pairs-intact, flushed-intact, created-good, created-empty, reset-good, reset-empty, delivers, carries, flushed-empties, flush-delivers}
use Rattle.tau_streams.proofs.Cut.{joined-last, cut, call-ran}
use Rattle.tau_streams.proofs.Blocks.{stream-blocks, rest-flushed}

-- ---- the start

-- with nothing come yet
begun-uncut : (e : Engine) → Good e → e.state.carried ≡ 0 → Uncut (anew e)
unfolding pairs_of
begun-uncut e g z = record { good = g; empty = z; level = refl; run = refl }

-- ---- one call

refused-ran : (k : ℕ) (e : Engine) (out : List Float) → ran_by (refused_of k e out) ≡ waits_of e
unfolding report_of
refused-ran k e out = refl

-- so a refused call leaves all as it is
refused-uncut : (t : Since) (r : Run) → r ≡ waits_of t.run.engine → Uncut t → Uncut (onward t t.near t.far r)
refused-uncut t r q h =
    record { good = h.good; empty = h.empty; level = h.level; run = ap (joined t.run) q ∙ joined-last t.run ∙ h.run }

-- The engine now is in order, so its state is accepted.
pub now-good : (t : Since) → Uncut t → Good t.run.engine
now-good t h = subst (λ (r : Run). Good r.engine) (sym h.run) (pairs-intact t.start t.near t.far h.good)

-- an accepted process joins its pairs to those before
process-uncut : (t : Since) (p : Part) → process_number t.run.engine p.near p.far p.out ≡ 0 → Uncut t
    → Uncut (onward t (t.near ++ p.near) (t.far ++ p.far) (ran_by (process_of t.run.engine p.near p.far p.out)))
process-uncut t p z h =
    let e = t.run.engine in
    let level = (accepted-pairs e.state (length e.shadow) (length e.output) (length e.spectra) (length e.powers) _ _ _ z).pairs.level in
    record {
      good = h.good;
      empty = h.empty;
      level = omega (arith, length-append t.near p.near, length-append t.far p.far, h.level, level);
      run =
          ap (joined t.run) (call-ran e p.near p.far p.out z)
          ∙ ap (λ (r : Run). joined r (pairs_of r.engine p.near p.far)) h.run
          ∙ sym (cut t.start t.near p.near t.far p.far h.level);
    }

-- an accepted flush leaves an engine in order with nothing carried
flushed-uncut : (t : Since) (out : List Float) → flush_number t.run.engine out ≡ 0 → Uncut t → Uncut (anew (left_by (flush_of t.run.engine out)))
flushed-uncut t out z h =
    let e = t.run.engine in
    subst (λ (d : Engine). Uncut (anew d)) (sym (ap left_by (flush-ran e out z)))
    (begun-uncut (flushed_of e).engine (flushed-intact e (now-good t h)) (flushed-empties e))

-- After each call all is as one run over the uncut stream, since the last creation, reset or flush, makes it.
pub call-uncut : (t : Since) (c : Call) → Uncut t → Uncut (after_call t c)
unfolding after_call
call-uncut t (feed p) h =
    let e = t.run.engine in
    let q = process-answers e p.near p.far p.out in
    pick-if Uncut (eqb (process_of e p.near p.far p.out).answer.refusal 0)
    (λ a. process-uncut t p (sym q ∙ eqb-true _ 0 a) h)
    (λ a. refused-uncut t _ (ap ran_by (process-refused e p.near p.far p.out (λ z. eqb-false _ 0 a (q ∙ z))) ∙ refused-ran (process_number e p.near p.far p.out) e p.out) h)
call-uncut t (flush out) h =
    let e = t.run.engine in
    let q = flush-answers e out in
    pick-if Uncut (eqb (flush_of e out).answer.refusal 0)
    (λ a. flushed-uncut t out (sym q ∙ eqb-true _ 0 a) h)
    (λ a. refused-uncut t _ (ap ran_by (flush-refused e out (λ z. eqb-false _ 0 a (q ∙ z))) ∙ refused-ran (flush_number e out) e out) h)
call-uncut t reset h =
    let e = t.run.engine in
    let q = reset-answers e in
    pick-if Uncut (eqb (reset_of e).answer.refusal 0)
    (λ a. let z = sym q ∙ eqb-true _ 0 a in begun-uncut (begun_by (reset_of e)) (reset-good e z) (reset-empty e z))
    (λ a. refused-uncut t _ (ap (λ b. waits_of (begun_by b)) (reset-refused e (λ z. eqb-false _ 0 a (q ∙ z)))) h)

-- ---- any calls

pub calls-uncut : (t : Since) (cs : List Call) → Uncut t → Uncut (after_calls t cs)
unfolding after_calls
calls-uncut t [] h = h
calls-uncut t (c ∷ cs) h = calls-uncut (after_call t c) cs (call-uncut t c h)

-- So it is after any calls from an accepted creation on,
pub created-calls : (parts : ℕ) (flag : Bool) (sh ou xs ps : List Float) (cs : List Call) → create_refusal parts (length sh) (length ou) (length xs) (length ps) ≡ 0
    → Uncut (after_calls (anew (begun_by (create_of parts flag sh ou xs ps))) cs)
created-calls parts flag sh ou xs ps cs h =
    calls-uncut _ cs (begun-uncut (begun_by (create_of parts flag sh ou xs ps)) (created-good parts flag sh ou xs ps h) (created-empty parts flag sh ou xs ps h))

-- and from an accepted reset on, whatever the state and the buffers were.
pub reset-calls : (e : Engine) (cs : List Call) → state_number e ≡ 0 → Uncut (after_calls (anew (begun_by (reset_of e))) cs)
reset-calls e cs h = calls-uncut _ cs (begun-uncut (begun_by (reset_of e)) (reset-good e h) (reset-empty e h))

-- ---- the counts

-- N pairs since the last creation, reset or flush have delivered exactly the whole blocks of N,
pub since-delivers : (t : Since) → Uncut t → length t.run.samples ≡ length t.near / 256 * 256
since-delivers t h =
    let z = h.empty in
    let d = delivers t.start t.near t.far h.good.ranged h.level in
    let k = ap (λ (r : Run). length r.samples) h.run in
    omega (arith, d, k, z)

-- and the rest, at most 255, is carried.
pub since-waits : (t : Since) → Uncut t → (t.run.engine.state.carried ≡ length t.near % 256) × (t.run.engine.state.carried ≤ 255)
since-waits t h =
    let z = h.empty in
    let d = carries t.start t.near t.far h.good.ranged h.level in
    let k = ap (λ (r : Run). r.engine.state.carried) h.run in
    (omega (arith, d, k, z), omega (arith, d, k, z))

-- A flush then, accepted, delivers that rest: the samples are those of the flushed run over the uncut stream.
pub since-flush : (t : Since) (out : List Float) → Uncut t → flush_number t.run.engine out ≡ 0
    → Delivery (flushed_of (pairs_of t.start t.near t.far).engine) (length t.near % 256) out (flush_of t.run.engine out)
since-flush t out h z =
    let c = flush_of t.run.engine out in
    subst (λ (n : ℕ). Delivery (flushed_of (pairs_of t.start t.near t.far).engine) n out c) (since-waits t h).0
    (subst (λ (r : Run). Delivery (flushed_of r.engine) t.run.engine.state.carried out c) h.run (flush-delivers t.run.engine out z))

-- ---- in blocks

-- The samples since then are those of the whole blocks of 256 pairs of the uncut stream, one after the other; the engine now is what they
-- leave, with the rest of the pairs in its carry.
pub since-blocks : (t : Since) → Uncut t → t.run ≡ by_blocks t.start t.near t.far
since-blocks t h = h.run ∙ stream-blocks t.start t.near t.far h.good h.empty h.level

-- What a flush then runs, where pairs wait, is a block of that rest, padded with 0.0, that does not adapt.
pub since-rest : (t : Since) → Uncut t → 1 ≤ length t.near % 256
    → flushed_of t.run.engine ≡ block_of t.run.engine (padded_rest t.near) (padded_rest t.far) (length t.near % 256) false
since-rest t h k =
    let m = length t.near % 256 in
    let n = length t.near / 256 in
    let a = drop (256 * n) t.near in
    let c = drop (256 * n) t.far in
    let v = h.level in
    let p : length a ≡ m = omega (arith, length-drop (256 * n) t.near) in
    let q : length c ≡ m = omega (arith, v, length-drop (256 * n) t.far) in
    let s = ap (λ (r : Run). r.engine) (since-blocks t h) in
    let e = (blocks_of n t.start t.near t.far).engine in
    let f : c ≡ drop (256 * (length t.far / 256)) t.far = ap (λ (i : ℕ). drop (256 * (i / 256)) t.far) v in
    let back = sym s in
    ap flushed_of s
    ∙ rest-flushed e a c _ _ m p q k
    ∙ (λ i. block_of (back i) (padded_rest t.near) (let rest = f i in clean_of rest ++ replicate (256 - length rest) zero32) m false)
