-- While the far end makes no sound, near is delivered as it is. Assumes nothing.
--     quiet-created, quiet-reset     creation and reset, accepted, leave an engine that has heard no far sound
--     pair-passes          a pair with a still far sample: near is delivered bit for bit, and the engine has still heard nothing
--     passes               a stream with still far samples: near is delivered, every sample of it
--     passes-first         whatever pairs come behind it, its samples are delivered so
use mathlib.Core.Path.{◌≡◌, refl, sym, ap, ◌∙◌}
use mathlib.Core.Bool.{Bool, true}
use mathlib.Core.List.{List, [], ◌∷◌, ◌++◌, map}
use mathlib.Core.Logic.{inl, inr}
use Prim.Native.Nat.{ℕ, zero, suc, ◌+◌, ◌-◌, ◌<◌}
use native.Mathlib.Nat.{eq-or-lt_of_le, le_of_suc-le-suc}
use native.Mathlib.Omega.{arith}
use borrow.Author.Tests.{leb-false}
use lib.Dec.{eqb, leb}
use lib.Ieee.{Float, nan, binary32, binary64, add, sub, mul}
use lib.Ieee.Fits.{fits_widens}
use lib.ListN.{length, get_or, take, replicate, length-set, length-replicate, length-map}
use lib.Seq.{take_at}
use Rattle.laws.specs.Choice.{pick-if, both}
use Rattle.laws.specs.Loops.{iter, length_over}
use Rattle.laws.specs.Kinds.{All, Kept, all-get, all_set, all_replicate, all-over-to, all-places, iter-keeps}
use Rattle.numbers.specs.Finite.{plus, is_finite, finite_or_zero}
use Rattle.numbers.specs.Narrowing.{narrow_of}
use Rattle.numbers.specs.Zeros.{Zero, Plus, Blank, Fits, Still}
use Rattle.numbers.proofs.Zeros.{pluses, plus-zero, zero-finite, zero-faint, zero-of-eq, plus-blank, plus-faint, faint-mul-right, faint-narrow, finite-true}
use Rattle.numbers.proofs.Clean.{clean-finite, clean-same, clean-fits}
use Rattle.numbers.proofs.Values.{sub-zero}
use Rattle.numbers.proofs.NarrowedLaws.{narrow_exact}
use Rattle.rho_state.specs.State.{taps_of, hangover_of}
use Rattle.rho_taps.specs.Ring.{lag_slot_of, lag_of, estimate_of}
use Rattle.rho_sample.specs.Sample.{Engine, after_of, step_of}
use Rattle.rho_taps.specs.Update.{Adapted, nudge_of, updated_of, sound_of, cleared_of, adapted_of}
use Rattle.rho.specs.Pairs.{pairs_of}
use Rattle.rho.specs.Calls.{begun_of, create_of, reset_of}
use Rattle.rho_streams.specs.Stream.{begun_by, Quiet, taken_by, place_of, heard_of, error_at}
use Rattle.rho.proofs.Going.{next_small}
use Rattle.rho_state.proofs.Accepted.{accepted-state, taps-some}
use Rattle.rho_streams.proofs.Counts.{create-began, reset-answers, reset-began}
use Rattle.rho_streams.proofs.Cut.{cut}

-- ---- small things

-- +0.0 is one
plus-plus : Plus plus
plus-plus = record { is = refl }

-- +0.0 n times
plus-kept : (n : ℕ) → Kept Plus n (replicate n plus)
plus-kept n = record { long = length-replicate n plus; all = all_replicate n plus plus-plus }

zero-kept : (n : ℕ) → Kept Zero n (replicate n plus)
zero-kept n = record { long = length-replicate n plus; all = all_replicate n plus (plus-zero plus-plus) }

-- a lag's place is one of the ring's
slot_small : (pos n k : ℕ) → pos < n → k < n → lag_slot_of pos n k < n
unfolding lag_slot_of
slot_small pos n k p l = pick-if (λ (x : ℕ). x < n) (leb k pos) (λ _. omega arith) (λ h. older (leb-false k pos h))
  where
    older : pos < k → pos + n - k < n
    older h = omega arith

-- so the far sample of any lag is a zero
lag-zero : {h : List Float} (pos n k : ℕ) → pos < n → k < n → Kept Zero n h → Zero (lag_of h pos n k)
lag-zero {h} pos n k p l H = all-get (lag_slot_of pos n k) nan H.all (let s = slot_small pos n k p l in omega (arith, H.long))

-- ---- creation and reset

-- the fresh state, with cleared buffers
begun-quiet : (taps hangover resets : ℕ) → 0 < taps → Quiet (begun_by (begun_of taps hangover resets))
begun-quiet taps hangover resets h = record { ring = omega arith; weights = plus-kept taps; history = zero-kept taps }

-- An accepted creation leaves an engine that has heard no far sound,
pub quiet-created : (rate tail : ℕ) (weights history : List Float) → (create_of rate tail weights history).answer.refusal ≡ 0 → Quiet (begun_by (create_of rate tail weights history))
quiet-created rate tail weights history h = rw (create-began rate tail weights history h) (begun-quiet (taps_of rate tail) (hangover_of rate) 0 (taps-some rate tail))

-- and so does an accepted reset.
pub quiet-reset : (e : Engine) → (reset_of e).answer.refusal ≡ 0 → Quiet (begun_by (reset_of e))
quiet-reset e h =
    let s = e.state in
    let a = (accepted-state s (length e.weights) (length e.history) (sym (reset-answers e) ∙ h)).ranged in
    rw (reset-began e h) (begun-quiet s.taps s.hangover_samples s.divergence_resets a.some)

-- ---- the estimate and the update of weights +0.0 over a history of zeros

-- the estimate is +0.0
estimate-plus : {w h : List Float} (pos n : ℕ) → pos < n → Kept Plus n w → Kept Zero n h → Plus (estimate_of w h pos n)
unfolding estimate_of
estimate-plus {w} {h} pos n b W H =
    iter-keeps Plus (λ k a. add binary64 a (mul binary64 (get_or w k nan) (lag_of h pos n k))) plus n plus-plus
    (λ k a i p.
    let w1 : Plus (get_or w k nan) = all-get k nan W.all (omega (arith, W.long)) in
    let x1 : Zero (lag_of h pos n k) = lag-zero pos n k b i H in
    search (pluses, zero-finite))

-- each updated weight is +0.0, unless the scale made it a NaN
updated-blank : {w h : List Float} (scale : Float) (pos n : ℕ) → pos < n → Kept Plus n w → Kept Zero n h → Kept Blank n (updated_of scale h pos n w)
unfolding updated_of nudge_of
updated-blank {w} {h} scale pos n b W H =
    let f : ℕ → Float → Float = λ k x. add binary32 x (narrow_of (mul binary64 scale (lag_of h pos n k))) in
    record {
      long = length_over n f w ∙ W.long;
      all = all-over-to n f (λ x p. plus-blank p) W.all (λ k x i p. plus-faint binary32 p (faint-narrow (faint-mul-right binary64 scale (zero-faint (lag-zero pos n k b i H)))));
    }

-- what is sound is finite at each place
sound-at : (n : ℕ) (l : List Float) → sound_of n l ≡ true → (k : ℕ) → k < n → is_finite (get_or l k nan) ≡ true
unfolding sound_of iter
sound-at zero l h k b = absurd (omega arith)
sound-at (suc n) l h k b =
    let t = sound_of n l in
    elim (eq-or-lt_of_le (le_of_suc-le-suc b)) [
      | inl e ↦ ap (λ (j : ℕ). is_finite (get_or l j nan)) e ∙ (both t (is_finite (get_or l n nan)) h).1
      | inr i ↦ sound-at n l (both t (is_finite (get_or l n nan)) h).0 k i
    ]

-- so blank weights that are sound are +0.0
sound-plus : {n : ℕ} {l : List Float} → Kept Blank n l → sound_of n l ≡ true → Kept Plus n l
sound-plus {n} {l} h f =
    record {
      long = h.long;
      all = all-places Plus nan l (λ i b. record { is = (all-get i nan h.all b).clear (sound-at n l f i (omega (arith, h.long))) });
    }

-- whatever the error and the freeze, the weights are +0.0 after the pair
adapted-plus : {w h : List Float} (fine : Bool) (freeze : ℕ) (scale : Float) (pos n resets : ℕ) → pos < n → Kept Plus n w → Kept Zero n h
    → Kept Plus n (adapted_of fine freeze scale h pos n w resets).weights
unfolding adapted_of cleared_of
adapted-plus fine freeze scale pos n resets b W H =
    let Q : Adapted → Type 0 = λ a. Kept Plus n a.weights in
    pick-if Q fine
    (λ _. pick-if Q (eqb freeze 0) (λ _. pick-if Q _ (λ s. sound-plus (updated-blank scale pos n b W H) s) (λ _. plus-kept n)) (λ _. W))
    (λ _. plus-kept n)

-- ---- one pair

module _ {e : Engine} {x y : Float} (Q : Quiet e) (F : Fits x) (S : Still y) where
  -- its place is one of the ring's
  placed : place_of e < e.state.taps
  placed = next_small e.state.pos e.state.taps Q.ring

  -- its far sample goes in as a zero
  heard-zero : Kept Zero e.state.taps (heard_of e y)
  heard-zero =
      record {
        long = length-set e.history (place_of e) (finite_or_zero y) ∙ Q.history.long;
        all = all_set (place_of e) Q.history.all (zero-of-eq (finite_or_zero y) S.still);
      }

  -- its error is near, and so is that narrowed
  error-near : narrow_of (error_at e x y) ≡ finite_or_zero x
  unfolding error_at
  error-near =
      let f = clean-fits binary32 x F.fit in
      ap (λ (z : Float). narrow_of (sub binary64 (finite_or_zero x) z)) (estimate-plus (place_of e) e.state.taps placed Q.weights heard-zero).is
      ∙ ap narrow_of (sub-zero binary64 (finite_or_zero x) (fits_widens (finite_or_zero x) f))
      ∙ narrow_exact (finite_or_zero x) f

  -- it delivers near as it is
  pair-output : (taken_by e x y).output ≡ finite_or_zero x
  unfolding step_of error_at
  pair-output = ap finite_or_zero error-near ∙ clean-same (finite_or_zero x) (finite-true (clean-finite x))

  -- it leaves an engine that has heard nothing
  pair-quiet : Quiet (taken_by e x y).engine
  unfolding step_of after_of
  pair-quiet = record { ring = placed; weights = adapted-plus _ _ _ (place_of e) e.state.taps _ placed Q.weights heard-zero; history = heard-zero }

  -- A pair with a still far sample: near is delivered bit for bit, -0.0 as -0.0, and the engine has still heard nothing.
  pub pair-passes : ((taken_by e x y).output ≡ finite_or_zero x) × Quiet (taken_by e x y).engine
  pair-passes = (pair-output, pair-quiet)

-- ---- streams

-- A stream with still far samples: near is delivered, sample by sample, and the engine has still heard nothing.
pub passes : (e : Engine) (near far : List Float) → length near ≡ length far → Quiet e → All Fits near → All Still far
    → ((pairs_of e near far).samples ≡ map finite_or_zero near) × Quiet (pairs_of e near far).engine
unfolding pairs_of
passes e [] far h q n f = (refl, q)
passes e (x ∷ near) [] h q n f = absurd (omega arith)
passes e (x ∷ near) (y ∷ far) h q n f =
    let p = pair-passes q n.each.0 f.each.0 in
    let r = passes (taken_by e x y).engine near far (omega arith) p.1 (record { each = n.each.1 }) (record { each = f.each.1 }) in
    (ap (λ (o : Float). o ∷ (pairs_of (taken_by e x y).engine near far).samples) p.0 ∙ ap (λ (l : List Float). finite_or_zero x ∷ l) r.0, r.1)

-- Whatever pairs b and d come behind such a stream, its samples are delivered so.
pub passes-first : (e : Engine) (a b c d : List Float) → length a ≡ length c → Quiet e → All Fits a → All Still c
    → take (length a) (pairs_of e (a ++ b) (c ++ d)).samples ≡ map finite_or_zero a
passes-first e a b c d h q n f =
    let p = (passes e a c h q n f).0 in
    let k = cut e a b c d h in
    rw (k, p) (take_at (map finite_or_zero a) _ (length a) (length-map a finite_or_zero))
