-- Any calls in any order, from creation or reset on: process, flush and reset, refused ones among them. Assumes nothing.
--     call-uncut, calls-uncut     after each call all is as one run over the uncut stream, since the last creation or reset, makes it
--     created-calls, reset-calls     so it is after any calls from creation or reset on
--     since-delivers       the N pairs since then have delivered N samples
--     since-ready          the state is in range, and the buffers have their size
--     since-passes         where the first n of the pairs have still far samples, their samples are near's, place by place
use mathlib.Core.Path.{◌≡◌, refl, sym, ap, ◌∙◌, subst}
use mathlib.Core.List.{List, [], ◌∷◌, ◌++◌, append-nil, map}
use Prim.Native.Nat.{ℕ, ◌≤◌, ◌<◌}
use native.Mathlib.Omega.{arith}
use borrow.Author.Tests.{eqb-true, eqb-false}
use lib.Dec.{eqb}
use lib.Ieee.{Float, nan}
use lib.ListN.{length, get_or, take, drop, length-append, take-append-drop}
use lib.Seq.{length-take-le}
use Rattle.laws.specs.Choice.{pick-if}
use Rattle.laws.specs.Kinds.{All}
use Rattle.numbers.specs.Finite.{finite_or_zero}
use Rattle.numbers.specs.Zeros.{Fits, Still}
use Rattle.rho_sample.specs.Sample.{Engine}
use Rattle.rho.specs.Pairs.{Run, pairs_of}
use Rattle.rho.specs.Calls.{Begun, create_of, reset_of, process_of}
use Rattle.streams.specs.Parts.{Part}
use Rattle.streams.proofs.Places.{take-map, alike_at}
use Rattle.rho_streams.specs.Stream.{begun_by, ran_by, process_number, waits_of, joined, Call, feed, flush, reset, Since, anew, onward, after_call, after_calls, Quiet, Uncut}
use Rattle.rho_state.proofs.Accepted.{accepted-state, accepted-pairs}
use Rattle.rho_streams.proofs.Counts.{delivers, reset-refused, process-answers, process-refused, flush-waits}
use Rattle.rho_streams.proofs.Cut.{Ready, cut, pairs-ready, created-ready, reset-ready, ready-accepted, call-ran}
use Rattle.rho_streams.proofs.Silence.{quiet-created, quiet-reset, passes-first}

-- ---- the start

-- an engine that is ready, with nothing come yet
begun-uncut : (e : Engine) → Ready e → Quiet e → Uncut (anew e)
unfolding pairs_of
begun-uncut e r q = record { accepted = ready-accepted e.state _ _ r; quiet = q; level = refl; run = refl }

-- ---- one call

joined-last : (r : Run) → joined r (waits_of r.engine) ≡ r
joined-last r = λ i. record { engine = r.engine; samples = append-nil r.samples i }

-- a call that changes nothing, refused or a flush, leaves all as it is
idle-uncut : (t : Since) (r : Run) → r ≡ waits_of t.run.engine → Uncut t → Uncut (onward t t.near t.far r)
idle-uncut t r q h =
    record { accepted = h.accepted; quiet = h.quiet; level = h.level; run = ap (joined t.run) q ∙ joined-last t.run ∙ h.run }

-- an accepted process joins its pairs to those before
process-uncut : (t : Since) (p : Part) → process_number t.run.engine p.near p.far p.out ≡ 0 → Uncut t
    → Uncut (onward t (t.near ++ p.near) (t.far ++ p.far) (ran_by (process_of t.run.engine p.near p.far p.out)))
process-uncut t p z h =
    let e = t.run.engine in
    let level = (accepted-pairs e.state (length e.weights) (length e.history) _ _ _ z).pairs.level in
    record {
      accepted = h.accepted;
      quiet = h.quiet;
      level = omega (arith, length-append t.near p.near, length-append t.far p.far, h.level, level);
      run =
          ap (joined t.run) (call-ran e p.near p.far p.out z)
          ∙ ap (λ (r : Run). joined r (pairs_of r.engine p.near p.far)) h.run
          ∙ sym (cut t.start t.near p.near t.far p.far h.level);
    }

-- After each call all is as one run over the uncut stream, since the last creation or reset, makes it.
pub call-uncut : (t : Since) (c : Call) → Uncut t → Uncut (after_call t c)
unfolding after_call
call-uncut t (feed p) h =
    let e = t.run.engine in
    let q = process-answers e p.near p.far p.out in
    pick-if Uncut (eqb (process_of e p.near p.far p.out).answer.refusal 0)
    (λ a. process-uncut t p (sym q ∙ eqb-true _ 0 a) h)
    (λ a. idle-uncut t _ (ap ran_by (process-refused e p.near p.far p.out (λ z. eqb-false _ 0 a (q ∙ z)))) h)
call-uncut t flush h = idle-uncut t _ (flush-waits t.run.engine) h
call-uncut t reset h =
    let e = t.run.engine in
    pick-if Uncut (eqb (reset_of e).answer.refusal 0)
    (λ a. let z = eqb-true _ 0 a in begun-uncut (begun_by (reset_of e)) (reset-ready e z) (quiet-reset e z))
    (λ a. idle-uncut t _ (ap (λ (b : Begun). waits_of (begun_by b)) (reset-refused e (eqb-false _ 0 a))) h)

-- ---- any calls

pub calls-uncut : (t : Since) (cs : List Call) → Uncut t → Uncut (after_calls t cs)
unfolding after_calls
calls-uncut t [] h = h
calls-uncut t (c ∷ cs) h = calls-uncut (after_call t c) cs (call-uncut t c h)

-- So it is after any calls from an accepted creation on,
pub created-calls : (rate tail : ℕ) (weights history : List Float) (cs : List Call) → (create_of rate tail weights history).answer.refusal ≡ 0
    → Uncut (after_calls (anew (begun_by (create_of rate tail weights history))) cs)
created-calls rate tail weights history cs h =
    calls-uncut _ cs
    (begun-uncut (begun_by (create_of rate tail weights history)) (created-ready rate tail weights history h) (quiet-created rate tail weights history h))

-- and from an accepted reset on, whatever the state and the buffers were.
pub reset-calls : (e : Engine) (cs : List Call) → (reset_of e).answer.refusal ≡ 0 → Uncut (after_calls (anew (begun_by (reset_of e))) cs)
reset-calls e cs h = calls-uncut _ cs (begun-uncut (begun_by (reset_of e)) (reset-ready e h) (quiet-reset e h))

-- ---- what then holds

-- N pairs have delivered N samples.
pub since-delivers : (t : Since) → Uncut t → length t.run.samples ≡ length t.near
since-delivers t h = ap (λ (r : Run). length r.samples) h.run ∙ delivers t.start t.near t.far h.level

-- The state is in range, and the buffers have their size.
pub since-ready : (t : Since) → Uncut t → Ready t.run.engine
since-ready t h =
    let e = t.start in
    let r = accepted-state e.state (length e.weights) (length e.history) h.accepted in
    subst (λ (r : Run). Ready r.engine) (sym h.run) (pairs-ready e t.near t.far r)

-- Where the first n of the pairs have still far samples, the samples of these n are near's, place by place.
pub since-passes : (t : Since) (n : ℕ) → Uncut t → n ≤ length t.near → All Fits (take n t.near) → All Still (take n t.far) → (i : ℕ) → i < n
    → get_or t.run.samples i nan ≡ finite_or_zero (get_or t.near i nan)
since-passes t n h k a c i j =
    let l : length (take n t.near) ≡ n = length-take-le n t.near k in
    let m : length (take n t.far) ≡ n = length-take-le n t.far (omega (arith, k, h.level)) in
    let p = passes-first t.start (take n t.near) (drop n t.near) (take n t.far) (drop n t.far) (l ∙ sym m) h.quiet a c in
    let s : take n (pairs_of t.start t.near t.far).samples ≡ map finite_or_zero (take n t.near) =
    rw (take-append-drop n t.near, take-append-drop n t.far, l) at p in
    ap (λ (r : Run). get_or r.samples i nan) h.run
    ∙ alike_at finite_or_zero n (pairs_of t.start t.near t.far).samples t.near i nan nan (s ∙ sym (take-map finite_or_zero n t.near)) (omega (arith, delivers t.start t.near t.far h.level, k)) j
