-- How a stream is cut into calls does not matter. Assumes nothing.
--     cut                  a stream cut in two: the engine and the samples are those of the two runs, one after the other
--     step-ranged, step-ready, pairs-ready     a pair, and a run, keep a state in range and buffers of its size
--     created-ready, reset-ready     and so creation and reset leave it
--     ready-accepted, process-accepted     so it is accepted, and pairs with it that are in order by themselves
--     call-ran             an accepted call leaves and delivers what the run over its pairs does
--     row-accepted         a row of calls on such a state, each in order by itself, is accepted
--     row-runs             a row of accepted calls leaves and delivers what the run over the whole stream does
--     row-delivers         so it has delivered a sample for each pair given
--     rows_agree           so two rows of accepted calls over one stream agree
--     cut-call             an accepted call cut anyhow into calls with room: they are accepted, and leave and deliver what it does
use mathlib.Core.Path.{◌≡◌, refl, sym, ap, ◌∙◌, subst}
use mathlib.Core.Bool.{Bool}
use mathlib.Core.List.{List, [], ◌∷◌, ◌++◌}
use Prim.Native.Nat.{ℕ, ◌≤◌}
use native.Mathlib.Omega.{arith}
use borrow.Author.Tests.{leb-true, le-leb, lt-ltb, eq-eqb}
use lib.Dec.{leb}
use lib.Ieee.{Float}
use lib.ListN.{length, take, length-append, length-set, length-replicate}
use Rattle.laws.specs.Choice.{pick_yes, pick-if, both}
use Rattle.laws.specs.Loops.{length_over}
use Rattle.laws.specs.Kinds.{All, all_none, all_cons}
use Rattle.numbers.specs.Finite.{plus}
use Rattle.rho_state.specs.declared.state.RhoCanceller.{RhoCanceller}
use Rattle.rho_state.specs.State.{taps_of, hangover_of}
use Rattle.rho_sample.specs.Sample.{Engine, freeze_of, after_of, step_of}
use Rattle.rho_taps.specs.Update.{Adapted, updated_of, cleared_of, adapted_of}
use Rattle.rho.specs.Pairs.{Run, pairs_of}
use Rattle.rho.specs.Calls.{settings_of, sized_of, ranged_of, create_refusal, state_refusal, pairs_refusal, process_refusal, Called, begun_of, create_of, reset_of, process_of}
use Rattle.streams.specs.Parts.{Part, Level, Fair, all_near, all_far}
use Rattle.streams.proofs.Parts.{parts-fair}
use Rattle.rho_streams.specs.Stream.{begun_by, left_by, ran_by, process_number, Room, joined, then_of, processed_of, AllAccepted, taken_by}
use Rattle.rho.proofs.Going.{next_small}
use Rattle.rho_state.proofs.Accepted.{Ranged, State, accepted-state, Pairs, accepted-pairs, taps-some}
use Rattle.rho_streams.proofs.Counts.{delivers, create-answers, create-began, reset-answers, reset-began, process-answers, process-ran, process-delivers}

-- ---- over the pairs

-- A stream cut in two: a and c hold the same number of samples.
pub cut : (e : Engine) (a b c d : List Float) → length a ≡ length c → pairs_of e (a ++ b) (c ++ d) ≡ then_of e a c b d
unfolding pairs_of
cut e [] b [] d h = refl
cut e [] b (y ∷ c) d h = absurd (omega arith)
cut e (x ∷ a) b [] d h = absurd (omega arith)
cut e (x ∷ a) b (y ∷ c) d h =
    let t = taken_by e x y in
    ap (λ (r : Run). record { engine = r.engine; samples = t.output ∷ r.samples }) (cut t.engine a b c d (omega arith))

-- ---- a pair keeps the state in range and the buffers' sizes

-- what is left of a freeze is at most the hangover
freeze-most : (H r : ℕ) (loud : Bool) → r ≤ H → freeze_of H r loud ≤ H
unfolding freeze_of
freeze-most H r loud h = pick-if (λ (x : ℕ). x ≤ H) loud (λ _. omega arith) (λ _. omega arith)

-- A pair keeps a state in range.
pub step-ranged : (e : Engine) (x y : Float) → Ranged e.state → Ranged (step_of e x y).engine.state
unfolding step_of after_of
step-ranged e x y h =
    record {
      some = h.some;
      most = h.most;
      ring = next_small e.state.pos e.state.taps h.ring;
      least = h.least;
      longest = h.longest;
      left = freeze-most e.state.hangover_samples e.state.hangover_remaining _ h.left;
    }

-- the update keeps the number of the weights
adapted-long : (fine : Bool) (freeze : ℕ) (scale : Float) (history : List Float) (pos n : ℕ) (weights : List Float) (resets : ℕ)
    → length weights ≡ n → length (adapted_of fine freeze scale history pos n weights resets).weights ≡ n
unfolding adapted_of cleared_of updated_of
adapted-long fine freeze scale history pos n weights resets h =
    let Q : Adapted → Type 0 = λ a. length a.weights ≡ n in
    pick-if Q fine
    (λ _. pick-if Q _ (λ _. pick-if Q _ (λ _. length_over n _ weights ∙ h) (λ _. length-replicate n _)) (λ _. h))
    (λ _. length-replicate n _)

-- a state in range, with two buffers of its size
abbrev pub Ready : Engine → Type 0
Ready e = State e.state (length e.weights) (length e.history)

-- A pair keeps them,
pub step-ready : (e : Engine) (x y : Float) → Ready e → Ready (step_of e x y).engine
unfolding step_of after_of
step-ready e x y h =
    record {
      ranged = step-ranged e x y h.ranged;
      sized = record {
        weights = adapted-long _ _ _ _ _ e.state.taps e.weights _ h.sized.weights;
        history = length-set e.history _ y ∙ h.sized.history;
      };
    }

-- and so does a run.
pub pairs-ready : (e : Engine) (near far : List Float) → Ready e → Ready (pairs_of e near far).engine
unfolding pairs_of
pairs-ready e [] far h = h
pairs-ready e (x ∷ near) [] h = h
pairs-ready e (x ∷ near) (y ∷ far) h = pairs-ready (taken_by e x y).engine near far (step-ready e _ _ h)

-- ---- creation and reset leave a state in range, with buffers of its size

-- the settings of an accepted creation
record Bounds (rate tail : ℕ) : Type 0 where
  least : 8000 ≤ rate
  most : rate ≤ 48000
  taps : taps_of rate tail ≤ 8192

settings-bounds : (rate tail w h : ℕ) → create_refusal rate tail w h ≡ 0 → Bounds rate tail
unfolding create_refusal settings_of
settings-bounds rate tail w h =
    pick-if (λ (x : ℕ). x ≡ 0 → Bounds rate tail) _
    (λ t _.
    let p = both (leb 8000 rate) _ t in
    let q = both (leb rate 48000) _ p.1 in
    let r = both (leb tail 1000) _ q.1 in
    record { least = leb-true 8000 rate p.0; most = leb-true rate 48000 q.0; taps = leb-true (taps_of rate tail) 8192 r.1 })
    (λ _ e. absurd (omega (arith, e)))

-- so the hangover count is in its range
hangover-bounds : (rate : ℕ) → 8000 ≤ rate → rate ≤ 48000 → (120 ≤ hangover_of rate) × (hangover_of rate ≤ 720)
unfolding hangover_of
hangover-bounds rate a b = omega arith

-- a fresh state of such settings
begun-ready : (taps hangover resets : ℕ) → 1 ≤ taps → taps ≤ 8192 → 120 ≤ hangover → hangover ≤ 720 → Ready (begun_by (begun_of taps hangover resets))
begun-ready taps hangover resets a b c d =
    record {
      ranged = record { some = a; most = b; ring = omega arith; least = c; longest = d; left = omega arith };
      sized = record { weights = length-replicate taps plus; history = length-replicate taps plus };
    }

-- An accepted creation leaves a state in range, with buffers of its size,
pub created-ready : (rate tail : ℕ) (weights history : List Float) → (create_of rate tail weights history).answer.refusal ≡ 0 → Ready (begun_by (create_of rate tail weights history))
created-ready rate tail weights history h =
    let b = settings-bounds rate tail (length weights) (length history) (sym (create-answers rate tail weights history) ∙ h) in
    let k = hangover-bounds rate b.least b.most in
    rw (create-began rate tail weights history h) (begun-ready (taps_of rate tail) (hangover_of rate) 0 (taps-some rate tail) b.taps k.0 k.1)

-- and so does an accepted reset.
pub reset-ready : (e : Engine) → (reset_of e).answer.refusal ≡ 0 → Ready (begun_by (reset_of e))
reset-ready e h =
    let s = e.state in
    let a = (accepted-state s (length e.weights) (length e.history) (sym (reset-answers e) ∙ h)).ranged in
    rw (reset-began e h) (begun-ready s.taps s.hangover_samples s.divergence_resets a.some a.most a.least a.longest)

-- ---- what is in order is accepted

-- a state in range, with buffers of its size
pub ready-accepted : (s : RhoCanceller) (w h : ℕ) → State s w h → state_refusal s w h ≡ 0
unfolding state_refusal ranged_of sized_of
ready-accepted s w h r =
    let a = r.ranged in
    let b = r.sized in
    sym (pick_yes _ _ _
    (simp (le-leb 1 s.taps a.some, le-leb s.taps 8192 a.most, lt-ltb s.pos s.taps a.ring, le-leb 120 _ a.least, le-leb _ 720 a.longest, le-leb _ _ a.left))
    (pick_yes _ _ _ (simp (eq-eqb w s.taps b.weights, eq-eqb h s.taps b.history)) refl))

-- as many near as far samples, at most 4,096, with room
pairs-accepted : (n f o : ℕ) → Pairs n f o → pairs_refusal n f o ≡ 0
unfolding pairs_refusal
pairs-accepted n f o h =
    sym (pick_yes _ _ _ (eq-eqb n f h.level) (pick_yes _ _ _ (le-leb n 4096 h.few) (pick_yes _ _ _ (le-leb n o h.room) refl)))

-- both together
pub process-accepted : (e : Engine) (near far out : List Float) → Ready e → Pairs (length near) (length far) (length out) → process_number e near far out ≡ 0
unfolding process_refusal
process-accepted e near far out r p =
    sym (pick_yes _ _ _ (eq-eqb _ 0 (ready-accepted e.state (length e.weights) (length e.history) r)) (sym (pairs-accepted _ _ _ p)))

-- ---- rows of calls

-- An accepted call leaves and delivers what the run over its pairs does.
pub call-ran : (e : Engine) (near far out : List Float) → process_number e near far out ≡ 0 → ran_by (process_of e near far out) ≡ pairs_of e near far
call-ran e near far out h =
    let d = process-delivers e near far out h in
    let c = process_of e near far out in
    let left = ap left_by (process-ran e near far out h) in
    let given = ap (λ (n : ℕ). take n c.out) d.count ∙ d.samples in
    λ i. record { engine = left i; samples = given i }

-- A row of calls is accepted where its first state is in range with buffers of its size, and each part is in order by itself.
pub row-accepted : (e : Engine) (ps : List Part) → Ready e → All Fair ps → All Room ps → AllAccepted e ps
unfolding processed_of
row-accepted e [] r h o = all_none
row-accepted e (p ∷ ps) r h o =
    let a = h.each.0 in
    let z = process-accepted e p.near p.far p.out r (record { level = a.level; few = a.few; room = o.each.0.room }) in
    let next = pairs-ready e p.near p.far r in
    let rest = row-accepted (pairs_of e p.near p.far).engine ps next (record { each = h.each.1 }) (record { each = o.each.1 }) in
    all_cons (process-answers e p.near p.far p.out ∙ z) (subst (λ (r : Run). AllAccepted r.engine ps) (sym (call-ran e p.near p.far p.out z)) rest)

-- A row of accepted calls leaves the state and the buffers, and delivers the samples, of the run over the whole stream.
pub row-runs : (e : Engine) (ps : List Part) → AllAccepted e ps → (processed_of e ps).run ≡ pairs_of e (all_near ps) (all_far ps)
unfolding processed_of all_near all_far pairs_of
row-runs e [] h = refl
row-runs e (p ∷ ps) h =
    let z = sym (process-answers e p.near p.far p.out) ∙ h.each.0 in
    let k = call-ran e p.near p.far p.out z in
    let run = pairs_of e p.near p.far in
    let rest = row-runs run.engine ps (subst (λ (r : Run). AllAccepted r.engine ps) k (record { each = h.each.1 })) in
    let level = (accepted-pairs e.state (length e.weights) (length e.history) _ _ _ z).pairs.level in
    ap (λ (r : Run). joined r (processed_of r.engine ps).run) k
    ∙ ap (joined run) rest
    ∙ sym (cut e p.near (all_near ps) p.far (all_far ps) level)

-- accepted calls are given as many near as far samples
pub row-level : (e : Engine) (ps : List Part) → AllAccepted e ps → length (all_near ps) ≡ length (all_far ps)
unfolding processed_of all_near all_far
row-level e [] h = refl
row-level e (p ∷ ps) h =
    let z = sym (process-answers e p.near p.far p.out) ∙ h.each.0 in
    let one = (accepted-pairs e.state (length e.weights) (length e.history) _ _ _ z).pairs.level in
    let rest = row-level (left_by (process_of e p.near p.far p.out)) ps (record { each = h.each.1 }) in
    omega (arith, length-append p.near (all_near ps), length-append p.far (all_far ps))

-- So they have delivered a sample for each pair given.
pub row-delivers : (e : Engine) (ps : List Part) → AllAccepted e ps → length (processed_of e ps).run.samples ≡ length (all_near ps)
row-delivers e ps h = ap (λ (r : Run). length r.samples) (row-runs e ps h) ∙ delivers e (all_near ps) (all_far ps) (row-level e ps h)

-- Two rows of accepted calls over one stream agree.
pub rows_agree : (e : Engine) (ps qs : List Part) → AllAccepted e ps → AllAccepted e qs → all_near ps ≡ all_near qs → all_far ps ≡ all_far qs
    → (processed_of e ps).run ≡ (processed_of e qs).run
rows_agree e ps qs hp hq n f =
    let k : pairs_of e (all_near ps) (all_far ps) ≡ pairs_of e (all_near qs) (all_far qs) = rw (n, f) in
    row-runs e ps hp ∙ k ∙ sym (row-runs e qs hq)

-- ---- a call cut into calls

-- An accepted call cut anyhow into calls, each with as many near as far samples and with room for as many: they are all accepted,
-- and what they leave and deliver together is what the uncut call leaves and delivers.
pub record SameCall (e : Engine) (ps : List Part) (call : Called) : Type 0 where
  pub accepted : AllAccepted e ps
  pub run : (processed_of e ps).run ≡ ran_by call

pub cut-call : (e : Engine) (ps : List Part) (out : List Float) → All Level ps → All Room ps → (process_of e (all_near ps) (all_far ps) out).answer.refusal ≡ 0
    → SameCall e ps (process_of e (all_near ps) (all_far ps) out)
cut-call e ps out l r h =
    let z = sym (process-answers e (all_near ps) (all_far ps) out) ∙ h in
    let a = accepted-pairs e.state (length e.weights) (length e.history) _ _ _ z in
    let t = row-accepted e ps a.state (parts-fair ps a.pairs.few l) r in
    record { accepted = t; run = row-runs e ps t ∙ sym (call-ran e (all_near ps) (all_far ps) out z) }
