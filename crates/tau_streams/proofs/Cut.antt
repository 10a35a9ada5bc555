-- How a stream is cut into calls does not matter. Assumes nothing.
--     cut                  a stream cut in two: the engine, the samples and the last block are those of the two runs, one after the other
--     served-ran, call-ran     an accepted call leaves, delivers and reports what the run over its pairs does
--     row-accepted         a row of calls on an engine in order, each with as many near as far samples, at most 4,096, and room for what
--                          it delivers, is accepted
--     row-runs             a row of accepted calls leaves, delivers and last reports what the run over the whole stream does
--     row-delivers, row_carries     so N pairs over c carried ones have delivered the whole blocks of c + N, and the rest is carried
--     rows_agree           so two rows of accepted calls over one stream agree
--     cut-call             an accepted call cut anyhow into calls with room: they are accepted, and leave, deliver and last report what it does
use mathlib.Core.Path.{◌≡◌, refl, sym, ap, ◌∙◌, subst}
use mathlib.Core.List.{List, [], ◌∷◌, ◌++◌, append_assoc, append-nil}
use Prim.Native.Nat.{ℕ, ◌+◌, ◌*◌, ◌/◌, ◌%◌}
use native.Mathlib.Omega.{arith}
use lib.Ieee.{Float}
use lib.ListN.{length, drop, length-append}
use lib.Seq.{take-append_seam}
use Rattle.laws.specs.Kinds.{All, all_none, all_cons}
use Rattle.tau_state.specs.Ranges.{Ranged}
use Rattle.tau_state.specs.Report.{report_of}
use Rattle.tau_frame.specs.Pairs.{Engine, Run, waits_of, pair_of, last_of, pairs_of}
use Rattle.tau.specs.Calls.{Called, served_of, process_of}
use Rattle.streams.specs.Parts.{Part, Level, Fair, all_near, all_far}
use Rattle.streams.proofs.Parts.{parts-fair}
use Rattle.tau_streams.specs.Stream.{Intact, left_by, ran_by, Roomy, joined, then_of, processed_of, AllAccepted}
use Rattle.tau.specs.Calls.{process_number}
use Rattle.tau_frame.proofs.Later.{last-first, last-assoc}
use Rattle.tau_fresh.proofs.Accepted.{Process, state-accepted, accepted-pairs, process-accepted}
use Rattle.tau.proofs.Accepted.{process-answers, process-ran}
use Rattle.tau_streams.proofs.Counts.{pairs-intact, state-intact, delivers, carries}

-- ---- over the pairs

-- a run that delivers nothing and runs no block adds nothing, before another or behind it
pub joined-first : (e : Engine) (r : Run) → joined (waits_of e) r ≡ r
joined-first e r = λ i. record { engine = r.engine; samples = r.samples; last = last-first r.last i }

pub joined-last : (r : Run) → joined r (waits_of r.engine) ≡ r
unfolding last_of
joined-last r = λ i. record { engine = r.engine; samples = append-nil r.samples i; last = r.last }

joined-assoc : (p q r : Run) → joined p (joined q r) ≡ joined (joined p q) r
joined-assoc p q r = rw (append_assoc p.samples q.samples r.samples, last-assoc p.last q.last r.last)

-- A stream cut in two: a and c hold the same number of samples.
pub cut : (e : Engine) (a b c d : List Float) → length a ≡ length c → pairs_of e (a ++ b) (c ++ d) ≡ then_of e a c b d
unfolding pairs_of
cut e [] b [] d h = sym (joined-first e (pairs_of e b d))
cut e [] b (y ∷ c) d h = absurd (omega arith)
cut e (x ∷ a) b [] d h = absurd (omega arith)
cut e (x ∷ a) b (y ∷ c) d h =
    let t = pair_of e x y in
    let first = pairs_of t.engine a c in
    ap (joined t) (cut t.engine a b c d (omega arith)) ∙ joined-assoc t first (pairs_of first.engine b d)

-- ---- rows of calls

-- what a call serves is the run
pub served-ran : (r : Run) (out : List Float) → ran_by (served_of r out) ≡ r
unfolding report_of
served-ran r out = λ i. record { engine = r.engine; samples = take-append_seam r.samples (drop (length r.samples) out) i; last = r.last }

-- An accepted call leaves, delivers and reports what the run over its pairs does.
pub call-ran : (e : Engine) (near far out : List Float) → process_number e near far out ≡ 0 → ran_by (process_of e near far out) ≡ pairs_of e near far
call-ran e near far out h = ap ran_by (process-ran e near far out h) ∙ served-ran (pairs_of e near far) out

-- A row of calls is accepted where its first engine is in order, each part has as many near as far samples, at most 4,096, and each has
-- room for what it delivers.
pub row-accepted : {n f : ℕ} (e : Engine) (ps : List Part) → Intact n f e → All Fair ps → Roomy e.state.carried ps → AllAccepted e ps
unfolding processed_of
row-accepted e [] s h r = all_none
row-accepted {n} {f} e (p ∷ ps) s h r =
    let a = h.each.0 in
    let run = pairs_of e p.near p.far in
    let z : process_number e p.near p.far p.out ≡ 0 =
    process-accepted e.state _ _ _ _ _ _ _
    (record {
      state = record { ranged = s.ranged; sizes = record { shadow = s.shadow; output = s.output; spectra = s.spectra; powers = s.powers } };
      pairs = record { level = a.level; few = a.few; room = r.rooms.0 };
    }) in
    let c = carries e p.near p.far s.ranged a.level in
    let t : Roomy run.engine.state.carried ps = subst (λ (k : ℕ). Roomy k ps) (sym c) (record { rooms = r.rooms.1 }) in
    let rest = row-accepted run.engine ps (pairs-intact e p.near p.far s) (record { each = h.each.1 }) t in
    all_cons (process-answers e p.near p.far p.out ∙ z) (subst (λ (r : Run). AllAccepted r.engine ps) (sym (call-ran e p.near p.far p.out z)) rest)

-- what the first call of an accepted row could count on
first-process : (e : Engine) (p : Part) → process_number e p.near p.far p.out ≡ 0
    → Process e.state (length e.shadow) (length e.output) (length e.spectra) (length e.powers) (length p.near) (length p.far) (length p.out)
first-process e p z = accepted-pairs e.state _ _ _ _ _ _ _ z

-- A row of accepted calls leaves the state and the buffers, delivers the samples, and last reports the block, of the run over the whole
-- stream.
pub row-runs : (e : Engine) (ps : List Part) → AllAccepted e ps → (processed_of e ps).run ≡ pairs_of e (all_near ps) (all_far ps)
unfolding processed_of all_near all_far pairs_of
row-runs e [] h = refl
row-runs e (p ∷ ps) h =
    let z = sym (process-answers e p.near p.far p.out) ∙ h.each.0 in
    let k = call-ran e p.near p.far p.out z in
    let run = pairs_of e p.near p.far in
    let rest = row-runs run.engine ps (subst (λ (r : Run). AllAccepted r.engine ps) k (record { each = h.each.1 })) in
    ap (λ (r : Run). joined r (processed_of r.engine ps).run) k
    ∙ ap (joined run) rest
    ∙ sym (cut e p.near (all_near ps) p.far (all_far ps) (first-process e p z).pairs.level)

-- accepted calls are given as many near as far samples
pub row-level : (e : Engine) (ps : List Part) → AllAccepted e ps → length (all_near ps) ≡ length (all_far ps)
unfolding processed_of all_near all_far
row-level e [] h = refl
row-level e (p ∷ ps) h =
    let z = sym (process-answers e p.near p.far p.out) ∙ h.each.0 in
    let one = (first-process e p z).pairs.level in
    let rest = row-level (left_by (process_of e p.near p.far p.out)) ps (record { each = h.each.1 }) in
    omega (arith, length-append p.near (all_near ps), length-append p.far (all_far ps))

-- So from a state in range they have delivered the whole blocks of what was carried at first and all pairs since,
pub row-delivers : (e : Engine) (ps : List Part) → Ranged e.state → AllAccepted e ps
    → length (processed_of e ps).run.samples ≡ (e.state.carried + length (all_near ps)) / 256 * 256
row-delivers e ps s h = ap (λ (r : Run). length r.samples) (row-runs e ps h) ∙ delivers e (all_near ps) (all_far ps) s (row-level e ps h)

-- and the rest is carried.
pub row_carries : (e : Engine) (ps : List Part) → Ranged e.state → AllAccepted e ps
    → (processed_of e ps).run.engine.state.carried ≡ (e.state.carried + length (all_near ps)) % 256
row_carries e ps s h = ap (λ (r : Run). r.engine.state.carried) (row-runs e ps h) ∙ carries e (all_near ps) (all_far ps) s (row-level e ps h)

-- Two rows of accepted calls over one stream agree.
pub rows_agree : (e : Engine) (ps qs : List Part) → AllAccepted e ps → AllAccepted e qs → all_near ps ≡ all_near qs → all_far ps ≡ all_far qs
    → (processed_of e ps).run ≡ (processed_of e qs).run
rows_agree e ps qs hp hq n f =
    let k : pairs_of e (all_near ps) (all_far ps) ≡ pairs_of e (all_near qs) (all_far qs) = rw (n, f) in
    row-runs e ps hp ∙ k ∙ sym (row-runs e qs hq)

-- ---- a call cut into calls

-- An accepted call cut anyhow into calls, each with as many near as far samples and with room for what it delivers: they are all
-- accepted, and what they leave, deliver and last report together is what the uncut call leaves, delivers and reports.
pub record SameCall (e : Engine) (ps : List Part) (call : Called) : Type 0 where
  pub accepted : AllAccepted e ps
  pub run : (processed_of e ps).run ≡ ran_by call

pub cut-call : (e : Engine) (ps : List Part) (out : List Float) → All Level ps → Roomy e.state.carried ps
    → (process_of e (all_near ps) (all_far ps) out).answer.refusal ≡ 0 → SameCall e ps (process_of e (all_near ps) (all_far ps) out)
cut-call e ps out l r h =
    let z = sym (process-answers e (all_near ps) (all_far ps) out) ∙ h in
    let a = accepted-pairs e.state (length e.shadow) (length e.output) (length e.spectra) (length e.powers) _ _ _ z in
    let s = state-intact e (state-accepted e.state _ _ _ _ a.state) in
    let t = row-accepted e ps s (parts-fair ps a.pairs.few l) r in
    record { accepted = t; run = row-runs e ps t ∙ sym (call-ran e (all_near ps) (all_far ps) out z) }
