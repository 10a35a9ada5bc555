-- While the far end makes no sound, a block delivers near as it is, bit for bit, and leaves the state silent: a lemma for each step.
-- The detector, the powers, the gains, the streaks, the guard, the means and the error window may hold anything. Assumes nothing.
--     cleared-silent    no far sound yet, and cleared buffers: silent
--     block-passed      of n valid samples the first n places are near's, -0.0 as -0.0, and the state and the buffers are silent again
use mathlib.Core.Path.{◌≡◌, refl, sym, ap, ◌∙◌, subst}
use mathlib.Core.Bool.{Bool, true, false, not, ◌&&◌, ◌||◌, true≢false}
use mathlib.Core.List.{List, ◌++◌}
use mathlib.Core.Logic.{inl, inr}
use Prim.Native.Nat.{ℕ, zero, suc, ◌+◌, ◌-◌, ◌*◌, ◌≤◌, ◌<◌}
use native.Mathlib.Nat.{mod-lt, eq-or-lt_of_le, le_of_suc-le-suc}
use native.Mathlib.Omega.{arith}
use lib.IntN.{negsuc}
use lib.Ieee.{Float, nan, fin, binary32, binary64, sub, mul, lt, ne, of_bits}
use lib.ListN.{length, get_or, take, drop, replicate, length-append, length-drop, length-map, length-replicate, get_or-replicate}
use lib.Seq.{length-take-le, take_at, ext_get_or}
use Rattle.laws.specs.Choice.{pick, pick-if}
use Rattle.laws.specs.Kinds.{Kept, all-get, all_take, all_drop, all_append, all_replicate, all-table2, all-over-to, all-over2-to, all_map, all-places, all-part, all-with, iter-keeps}
use Rattle.laws.specs.Loops.{iter, length_over, length-over2}
use Rattle.laws.specs.Parts.{part, with_part, length_part, length-with}
use Rattle.laws.specs.Readings.{over-copied}
use Rattle.laws.specs.Tables.{length-table, length-table2, table_at}
use Rattle.numbers.specs.Finite.{plus, is_finite}
use Rattle.numbers.specs.Zeros.{Zero, Faint, Plus, Blank}
use Rattle.numbers.proofs.Values.{sub-zero}
use Rattle.numbers.proofs.Zeros.{faints, pluses, plus-zero, plus-mul, plus-blank, plus-faint, zero-faint, zero-finite, zero-ne, finite-true}
use Rattle.fft.specs.Calls.{samples_of}
use Rattle.fft.proofs.Silence.{silent-spectrum, silent-samples, faint-spectrum, faint-samples}
use Rattle.tau_clears.specs.Clears.{diverge_shadow, retire_output}
use Rattle.tau_state.specs.Constants.{zero32, zero64, f0·5}
use Rattle.tau_guard.specs.Guard.{Guarded, replaced, guarded}
use Rattle.tau_paths.specs.Paths.{runs, shadow_after, output_after, acted, weighed_if, compared}
use Rattle.tau_paths.specs.declared.paths.Conditions.{Conditions}
use Rattle.tau_steps.proofs.Reasons.{reason-idle}
use Rattle.tau_state.specs.Sums.{energy_of}
use Rattle.tau_steps.proofs.Energy.{zero64-is, energy-none}
use Rattle.tau_clears.specs.Weights.{cleared, halved}
use Rattle.tau_state.specs.declared.state.Guard.{Guard}
use Rattle.tau_state.specs.declared.state.Mic.{Mic}
use Rattle.tau_state.specs.declared.state.Paths.{Paths}
use Rattle.tau_state.specs.declared.state.Suppressor.{Suppressor}
use Rattle.tau_state.specs.declared.state.TauCanceller.{TauCanceller}
use Rattle.tau_block.specs.Block.{Block, Playing, Microphone, Listened, Engine, run_block}
use Rattle.tau_block.specs.Groups.{Filtered, filtered, compares, delivered, grouped}
use Rattle.tau_block.proofs.Composed.{listen-grouped}
use Rattle.tau_spectra.specs.Windows.{slid}
use Rattle.tau_spectra.specs.Ring.{Ring, next_slot, slot_of, met_by}
use Rattle.tau_spectra.specs.Far.{sounds, energy_peak, drives, Heard, hear_far}
use Rattle.tau_spectra.specs.Windows.{latter}
use Rattle.tau_spectra.specs.Ring.{Ring, next_slot, slot_of, met_by}
use Rattle.tau_filter.specs.Filter.{Shadowed, Estimated, added, echo_to, echo_of, block_estimate, error_at, errors_of, bad_to, shadowed, estimated}
use Rattle.tau_block_laws.specs.Silence.{Near, Silent, Passed}
use Rattle.tau_suppressor.specs.Suppressor.{Suppressed, suppressed}
use Rattle.tau_update.specs.Update.{gradient_at, gradient_of, constrained, stepped, finite_to, Learnt, Updated, learnt_at, learnt_to, learnt_by, updated}
use Rattle.tau_block_laws.proofs.Kept.{next-slot, learnt-lengths}

-- ---- small things

-- f32's 0.0 is +0.0, as f64's is
pub zero32-is : zero32 ≡ plus
unfolding of_bits
zero32-is = refl

plus32 : Plus zero32
plus32 = record { is = zero32-is }

plus64 : Plus zero64
plus64 = record { is = zero64-is }

plus-replicate : (n : ℕ) → Kept Plus n (replicate n zero64)
plus-replicate n = record { long = length-replicate n zero64; all = all_replicate n zero64 plus64 }

and_l : (a b : Bool) → (a && b) ≡ true → a ≡ true
and_l true b h = refl
and_l false b h = h

and_r : (a b : Bool) → (a && b) ≡ true → b ≡ true
and_r true b h = h
and_r false b h = absurd (true≢false (sym h))

not-l : (a b : Bool) → a ≡ false → (a && b) ≡ false
not-l a b h = rw h

not-r : (a b : Bool) → b ≡ false → (a && b) ≡ false
not-r true b h = h
not-r false b h = refl

neither : (a b : Bool) → a ≡ false → b ≡ false → (a || b) ≡ false
neither a b h k = rw (h, k)

-- the branch that is not taken
off : {A : Type 0} (Q : A → Type 0) (b : Bool) (x : A) {y : A} → b ≡ false → Q y → Q (pick b x y)
off Q b x e h = pick-if Q b (λ t. absurd (true≢false (sym t ∙ e))) (λ _. h)

-- ---- parts of a buffer, and the transform

-- a part of a buffer of a kind, and that buffer with another part of the kind put in
part-keeps : {Q : Float → Type 0} {n : ℕ} {l : List Float} (p : ℕ) → p < n → Kept Q (514 * n) l → Kept Q 514 (part 514 p l)
part-keeps {l = l} p b h = record { long = length_part 514 p l (omega (arith, h.long)); all = all-part 514 p h.all }

with-keeps : {Q : Float → Type 0} {n : ℕ} {l v : List Float} (p : ℕ) → p < n → Kept Q (514 * n) l → Kept Q 514 v → Kept Q (514 * n) (with_part 514 p l v)
with-keeps {l = l} {v = v} p b h k = record { long = length-with 514 p l v (omega (arith, h.long)) k.long ∙ h.long; all = all-with 514 p h.all k.all }

-- ---- steps 1 and 4: nothing is heard

-- the window slid,
window-zero : {w b : List Float} → Kept Zero 512 w → Kept Zero 256 b → Kept Zero 512 (slid w b)
unfolding slid
window-zero {w} {b} h k = record { long = length-append (drop 256 w) b ∙ rw (length-drop, h.long, k.long) refl; all = all_append (all_drop 256 h.all) k.all }

-- no sample that is a sound,
sounds-not : {b : List Float} → Kept Zero 256 b → sounds b 256 ≡ false
unfolding sounds
sounds-not {b} h =
    iter-keeps (λ (on : Bool). on ≡ false) (λ k on. on || ne (get_or b k nan) zero32) false 256 refl
    (λ k on i p. neither on (ne (get_or b k nan) zero32) p (ap (ne (get_or b k nan)) zero32-is ∙ zero-ne (all-get k nan h.all (omega (arith, h.long)))))

-- the block's energy, the peak,
block_none : {b : List Float} → Kept Zero 256 b → Plus (energy_of b 256)
block_none {b} h = energy-none b 256 (λ k i. all-get k nan h.all (omega (arith, h.long)))

peak-none : {peak e : Float} → Plus peak → Plus e → Plus (energy_peak peak e)
unfolding energy_peak
peak-none {peak} {e} p q = pick-if Plus (lt peak e) (λ _. q) (λ _. p)

-- and so no activity
below_none : lt zero64 zero64 ≡ false
unfolding lt of_bits
below_none = refl

drives-not : (peak e : Float) → peak ≡ zero64 → drives peak e ≡ false
drives-not peak e h = not-l (lt zero64 peak) _ (ap (lt zero64) h ∙ below_none)

-- what is heard: nothing
record Hushed (parts : ℕ) (h : Heard) : Type 0 where
  ring : h.far.head < parts
  still : h.far.far_active ≡ false
  peak : h.far.far_energy_peak ≡ zero64
  window : Kept Zero 512 h.far.window
  spectra : Kept Zero (514 * parts) h.spectra
  quiet : h.active ≡ false

heard-hushed : {s : TauCanceller} {far sh ou xs : List Float} (ps : List Float) → Silent s sh ou xs → Kept Zero 256 far
    → Hushed s.partitions (hear_far s.partitions s.far far xs ps)
unfolding hear_far
heard-hushed {s} {far} {sh} {ou} {xs} ps S F =
    let w = window-zero S.window F in
    let r = next-slot s.partitions s.far.head S.ring in
    let p : energy_peak s.far.far_energy_peak (energy_of far 256) ≡ zero64 =
    (peak-none (record { is = S.peak ∙ zero64-is }) (block_none F)).is ∙ sym zero64-is in
    record {
      ring = r;
      still = neither s.far.far_active (sounds far 256) S.still (sounds-not F);
      peak = p;
      window = w;
      spectra = with-keeps (next_slot s.partitions s.far.head) r S.spectra (silent-spectrum (slid s.far.window far) w);
      quiet = drives-not (energy_peak s.far.far_energy_peak (energy_of far 256)) (energy_of far 256) p;
    }

-- ---- the estimate of weights +0.0 is +0.0

-- one partition's products, added to +0.0
added-plus : {w x a : List Float} → Kept Plus 514 w → Kept Zero 514 x → Kept Plus 514 a → Kept Plus 514 (added w x 257 a)
unfolding added
added-plus {w} {x} {a} W X h = record {
  long = length-over2 nan 257 _ _ a ∙ h.long;
  all = all-over2-to nan 257 257 _ _ (λ z p. p) h.long h.all
      (λ k re im b pr pi.
      let w1 : Plus (get_or w (2 * k) nan) = all-get (2 * k) nan W.all (omega (arith, W.long)) in
      let w2 : Plus (get_or w (2 * k + 1) nan) = all-get (2 * k + 1) nan W.all (omega (arith, W.long)) in
      let x1 : Zero (get_or x (2 * k) nan) = all-get (2 * k) nan X.all (omega (arith, X.long)) in
      let x2 : Zero (get_or x (2 * k + 1) nan) = all-get (2 * k + 1) nan X.all (omega (arith, X.long)) in
      (search (pluses, zero-finite), search (pluses, zero-finite)));
}

slot_small : (head parts p : ℕ) → 0 < parts → slot_of head parts p < parts
unfolding slot_of
slot_small head parts p h = mod-lt (head + parts - p) h

-- all partitions'
echo-plus : {ws : List Float} (ring : Ring) → 0 < ring.partitions → Kept Plus (514 * ring.partitions) ws → Kept Zero (514 * ring.partitions) ring.spectra
    → Kept Plus 514 (echo_of ws ring)
unfolding echo_to
echo-plus {ws} ring b W X =
    let slot = slot_of ring.head ring.partitions in
    iter-keeps (Kept Plus 514) (λ p a. added (part 514 p ws) (met_by ring p) 257 a) (replicate 514 zero64) ring.partitions (plus-replicate 514)
    (λ p a k h. added-plus (part-keeps p k W) (part-keeps (slot p) (slot_small ring.head ring.partitions p b) X) h)

-- the samples of that
estimate-is : {ws : List Float} (ring : Ring) → 0 < ring.partitions → Kept Plus (514 * ring.partitions) ws → Kept Zero (514 * ring.partitions) ring.spectra
    → block_estimate ws ring ≡ replicate 256 plus
unfolding latter
estimate-is {ws} ring b W X = ap (drop 256) (silent-samples (echo_of ws ring) (echo-plus ring b W X))

-- ---- so the error is near

module _ {near : List Float} (N : Near near) where
  error-at : (k : ℕ) → k < 256 → error_at near (replicate 256 plus) k ≡ get_or near k nan
  error-at k b =
      ap (sub binary32 (get_or near k nan)) (get_or-replicate 256 k plus nan b)
      ∙ sub-zero binary32 (get_or near k nan) (all-get k nan N.fit (omega (arith, N.long))).fit

  errors-near : errors_of near (replicate 256 plus) ≡ near
  unfolding errors_of
  errors-near =
      let f = error_at near (replicate 256 plus) in
      let l = length-table 256 f in
      ext_get_or nan _ near (l ∙ sym N.long) (λ i b. let c : i < 256 = omega arith in table_at 256 f i nan c ∙ error-at i c)

  bad-not : bad_to near (replicate 256 plus) 256 ≡ false
  unfolding bad_to
  bad-not =
      iter-keeps (λ (b : Bool). b ≡ false) (λ k b. b || not (is_finite (error_at near (replicate 256 plus) k))) false 256 refl
      (λ k b i p. neither b _ p (ap (λ (x : Float). not (is_finite x)) (error-at k i) ∙ ap not (finite-true (all-get k nan N.finite (omega (arith, N.long))))))

-- ---- the clears

cleared-plus : {n : ℕ} {l : List Float} → Kept Plus n l → Kept Plus n (cleared l)
unfolding cleared
cleared-plus {n} {l} h = rw h.long (plus-replicate n)

half_is : f0·5 ≡ fin false 1 (negsuc 0)
unfolding of_bits
half_is = refl

halved-plus : {n : ℕ} {l : List Float} → Kept Plus n l → Kept Plus n (halved l)
unfolding halved
halved-plus {n} {l} h = record {
  long = length-map l (λ x. mul binary64 x f0·5) ∙ h.long;
  all = all_map (λ x. mul binary64 x f0·5) (λ x p. plus-mul binary64 f0·5 1 (negsuc 0) half_is p) h.all;
}

diverge-shadow-plus : {n : ℕ} {sh : List Float} (p : Paths) (m : ℕ) → Kept Plus n sh → Kept Plus n (diverge_shadow p m sh).shadow
unfolding diverge_shadow
diverge-shadow-plus p m h = cleared-plus h

-- both filters' weights +0.0
record Both (n : ℕ) (sh ou : List Float) : Type 0 where
  shadow : Kept Plus n sh
  output : Kept Plus n ou

retire-plus : {n : ℕ} {ou : List Float} (x : Float) (p : Paths) (u : Suppressor) (m : ℕ) → Kept Plus n ou → Kept Plus n (retire_output x p u m ou).output
unfolding retire_output
retire-plus x p u m h = halved-plus h

-- ---- finite

-- the verdict says so of each place
finite-at : (n : ℕ) (l : List Float) → finite_to l n ≡ true → (k : ℕ) → k < n → is_finite (get_or l k nan) ≡ true
unfolding finite_to iter
finite-at zero l h k b = absurd (omega arith)
finite-at (suc n) l h k b =
    let t = finite_to l n in
    elim (eq-or-lt_of_le (le_of_suc-le-suc b)) [
      | inl e ↦ ap (λ (j : ℕ). is_finite (get_or l j nan)) e ∙ and_r t (is_finite (get_or l n nan)) h
      | inr i ↦ finite-at n l (and_l t (is_finite (get_or l n nan)) h) k i
    ]

-- so what is blank, and finite, is +0.0
blank-plus : {n : ℕ} {l : List Float} → Kept Blank n l → finite_to l n ≡ true → Kept Plus n l
blank-plus {n} {l} h f = record {
  long = h.long;
  all = all-places Plus nan l (λ i b. record { is = (all-get i nan h.all b).clear (finite-at n l f i (omega (arith, h.long))) });
}

-- ---- step 6: the update by any error and any rates

-- the gradient of a spectrum of zeros is zeros or NaNs, whatever it is multiplied by, and so is what its constraint leaves
gradient-faint : {x : List Float} (e rates : List Float) → Kept Zero 514 x → Kept Faint 514 (gradient_of x e rates)
unfolding gradient_of gradient_at
gradient-faint {x} e rates X = record {
  long = length-table2 257 _ _;
  all = all-table2 257 _ _
      (λ k b.
      let x1 : Faint (get_or x (2 * k) nan) = zero-faint (all-get (2 * k) nan X.all (omega (arith, X.long))) in
      let x2 : Faint (get_or x (2 * k + 1) nan) = zero-faint (all-get (2 * k + 1) nan X.all (omega (arith, X.long))) in
      (search faints, search faints));
}

constrained-faint : {g : List Float} → Kept Faint 514 g → Kept Faint 514 (constrained g)
unfolding constrained
constrained-faint {g} h =
    let t = faint-samples g h in
    let l : length (take 256 (samples_of g)) ≡ 256 = length-take-le 256 (samples_of g) (omega (arith, t.long)) in
    faint-spectrum (take 256 (samples_of g) ++ replicate 256 zero32) (record {
      long = length-append (take 256 (samples_of g)) (replicate 256 zero32) ∙ rw l refl;
      all = all_append (all_take 256 t.all) (all_replicate 256 zero32 (zero-faint (plus-zero plus32)));
    })

-- +0.0 with that added
stepped-blank : {g w : List Float} → Kept Faint 514 g → Kept Plus 514 w → Kept Blank 514 (stepped g w)
unfolding stepped
stepped-blank {g} {w} G W = record {
  long = length_over 514 _ w ∙ W.long;
  all = all-over-to 514 _ (λ x p. plus-blank p) W.all (λ k x b p. plus-faint binary64 p (all-get k nan G.all (omega (arith, G.long))));
}

-- while every weight has been finite, every weight is +0.0
record Going (parts : ℕ) (l : Learnt) : Type 0 where
  still : l.finite ≡ true → Kept Plus (514 * parts) l.weights

learnt-going : (ring : Ring) (e rates : List Float) (p : ℕ) (l : Learnt) → p < ring.partitions → Kept Zero (514 * ring.partitions) ring.spectra
    → Going ring.partitions l → Going ring.partitions (learnt_at ring e rates p l)
unfolding learnt_at
learnt-going ring e rates p l b X h =
    let slot = slot_of ring.head ring.partitions p in
    let g = constrained (gradient_of (met_by ring p) e rates) in
    let v = stepped g (part 514 p l.weights) in
    record {
      still = λ t.
          let w = h.still (and_l l.finite (finite_to v 514) t) in
          let G : Kept Faint 514 g = constrained-faint (gradient-faint e rates (part-keeps slot (slot_small ring.head ring.partitions p (omega arith)) X)) in
          with-keeps p b w (blank-plus (stepped-blank G (part-keeps p b w)) (and_r l.finite (finite_to v 514) t));
    }

learnt-plus : {sh : List Float} (ring : Ring) (e rates : List Float) → Kept Zero (514 * ring.partitions) ring.spectra → Kept Plus (514 * ring.partitions) sh
    → Going ring.partitions (learnt_to ring e rates sh ring.partitions)
unfolding learnt_to
learnt-plus {sh} ring e rates X W =
    iter-keeps (Going ring.partitions) (learnt_at ring e rates) (record { weights = sh; finite = true; overs = 0 }) ring.partitions (record { still = λ _. W })
    (λ p l b h. learnt-going ring e rates p l b X h)

-- whether it runs or not; weights that are not all finite are cleared
updated-plus : {sh : List Float} (runs : Bool) (ring : Ring) (far_power error : List Float) (scale : Float) (means : List Float) (p : Paths) (m : ℕ)
    → Kept Zero (514 * ring.partitions) ring.spectra → Kept Plus (514 * ring.partitions) sh
    → Kept Plus (514 * ring.partitions) (updated runs ring far_power error scale means p m sh).shadow
unfolding updated diverge_shadow cleared
updated-plus {sh} runs ring far_power error scale means p m X W =
    let k = 514 * ring.partitions in
    let Q : Updated → Type 0 = λ r. Kept Plus k r.shadow in
    pick-if Q runs
    (λ _. pick-if Q (learnt_by ring far_power error scale means sh).finite (learnt-plus ring _ _ X W).still
    (λ _. rw (learnt-lengths ring _ _ sh W.long) (plus-replicate k)))
    (λ _. W)

-- ---- steps 2 and 3

-- whether the shadow diverges or not
shadowed-plus : {k : ℕ} {sh : List Float} (ring : Ring) (near : List Float) (p : Paths) (m : ℕ) → Kept Plus k sh → Kept Plus k (shadowed ring near p m sh).shadow
unfolding shadowed
shadowed-plus {k} ring near p m W = pick-if (λ (r : Shadowed). Kept Plus k r.shadow) _ (λ _. diverge-shadow-plus p m W) (λ _. W)

-- the weights stay, and the error is near
record Estimates (k : ℕ) (near : List Float) (r : Estimated) : Type 0 where
  weights : Both k r.shadow r.output
  passed : r.error ≡ near

estimated-through : {near sh ou : List Float} (ring : Ring) (p : Paths) (u : Suppressor) (m : ℕ) → 0 < ring.partitions → Near near
    → Kept Zero (514 * ring.partitions) ring.spectra → Both (514 * ring.partitions) sh ou
    → Estimates (514 * ring.partitions) near (estimated ring near p u m sh ou)
unfolding estimated
estimated-through {near} {sh} {ou} ring p u m b N X W =
    let e = estimate-is ring b W.output X in
    off (Estimates (514 * ring.partitions) near) (bad_to near (block_estimate ou ring) 256) _ (ap (λ (l : List Float). bad_to near l 256) e ∙ bad-not N)
    (record { weights = W; passed = ap (errors_of near) e ∙ errors-near N })

filtered-through : {near sh ou : List Float} (ring : Ring) (m : Mic) → 0 < ring.partitions → Near near
    → Kept Zero (514 * ring.partitions) ring.spectra → Both (514 * ring.partitions) sh ou
    → Estimates (514 * ring.partitions) near (filtered ring near m sh ou).output
unfolding filtered
filtered-through {near} {sh} {ou} ring m b N X W =
    let h = shadowed-plus ring near m.paths m.divergence_resets W.shadow in
    estimated-through ring _ _ _ b N X (record { shadow = h; output = W.output })

-- ---- step 5: no comparison

compared-not : {n : ℕ} {sh ou : List Float} (asked : Conditions) (quiet : Bool) (es eo : List Float) (v : ℕ) (p : Paths) (k : ℕ) → runs asked ≡ false
    → Both n sh ou → Both n (compared asked quiet es eo v p k sh ou).shadow (compared asked quiet es eo v p k sh ou).output
unfolding compared acted shadow_after output_after
compared-not asked quiet es eo v p k e W = rw (reason-idle asked (weighed_if asked quiet es eo v p) e) W

compares-not : {k : ℕ} (adapt active : Bool) (near : List Float) (energy : Float) (n : ℕ) (f : Filtered) (m : Mic) → active ≡ false
    → Both k f.output.shadow f.output.output
    → Both k (compares adapt active near energy n f m).comparison.shadow (compares adapt active near energy n f m).comparison.output
unfolding compares
compares-not adapt active near energy n f m q W =
    compared-not _ _ f.shadow_error f.output.error n f.output.paths m.transfers
    (not-l _ _ (not-r (not (not adapt) && not f.output.diverged) active q)) W

-- ---- step 7: no suppressor

suppressed-not : (on protect : Bool) (error spectrum : List Float) (u : Suppressor) → on ≡ false → (suppressed on protect error spectrum u).block ≡ error
unfolding suppressed
suppressed-not on protect error spectrum u e = off (λ (r : Suppressed). r.block ≡ error) on _ e refl

-- ---- step 8: the first n places are near's, whether the guard trips or not

replaced-front : (near : List Float) (n : ℕ) (block : List Float) → n ≤ length near → n ≤ length block → take n (replaced near n block) ≡ take n near
unfolding replaced
replaced-front near n block h k = ap (take n) (over-copied nan n near block h k) ∙ take_at (take n near) (drop n block) n (length-take-le n near h)

-- the output's weights stay +0.0, and the first n places are near's
record Delivers (k n : ℕ) (near : List Float) (r : Guarded) : Type 0 where
  output : Kept Plus k r.output
  passed : take n r.block ≡ take n near

guarded-near : {k : ℕ} {ou : List Float} (near : List Float) (en : Float) (n : ℕ) (g : Guard) (u : Suppressor) (p : Paths) (m : ℕ) (block : List Float)
    → n ≤ length near → block ≡ near → Kept Plus k ou → Delivers k n near (guarded near en n g u p m block ou)
unfolding guarded
guarded-near {k} {ou} near en n g u p m block b e W =
    pick-if (Delivers k n near) _
    (λ _. record { output = retire-plus _ p u m W; passed = replaced-front near n block b (rw e b) })
    (λ _. record { output = W; passed = ap (take n) e })

delivered-near : {k : ℕ} {ou : List Float} (runs protect : Bool) (near : List Float) (energy : Float) (n : ℕ) (b : Estimated) (m : Mic) (p : Paths) (resets : ℕ)
    → n ≤ length near → runs ≡ false → b.error ≡ near → Kept Plus k ou
    → Delivers k n near (delivered runs protect near energy n b m p resets ou).guarded
unfolding delivered
delivered-near runs protect near energy n b m p resets l q e W =
    guarded-near near energy n m.guard _ p resets _ l (suppressed-not runs protect b.error b.spectrum b.suppressor q ∙ e) W

-- ---- a microphone's block

record Listens (k n : ℕ) (near : List Float) (r : Listened) : Type 0 where
  weights : Both k r.microphone.shadow r.microphone.output
  passed : take n r.block ≡ take n near

grouped-near : (flagged : Bool) (playing : Playing) (b : Block) (m : Microphone)
    → 0 < playing.ring.partitions → playing.sounded ≡ false → playing.active ≡ false
    → Kept Zero (514 * playing.ring.partitions) playing.ring.spectra → Near b.near → b.valid ≤ 256
    → Both (514 * playing.ring.partitions) m.shadow m.output
    → Listens (514 * playing.ring.partitions) b.valid b.near (grouped flagged playing b m)
unfolding grouped
grouped-near flagged playing b m p s a X N l W =
    let k : b.valid ≤ length b.near = omega (arith, N.long) in
    let f = filtered-through playing.ring m.mic p N X W in
    let j = compares-not b.adapt playing.active b.near _ b.valid _ m.mic a f.weights in
    let g = delivered-near _ _ b.near _ b.valid _ m.mic _ _ k (not-l _ _ (not-r flagged playing.sounded s)) f.passed j.output in
    record { weights = record { shadow = updated-plus _ playing.ring _ _ _ _ _ _ X j.shadow; output = g.output }; passed = g.passed }

-- ---- the block

-- A state that has heard no far sound, with a cleared window and cleared buffers, is silent.
pub cleared-silent : (s : TauCanceller) → s.far.head < s.partitions → s.far.far_active ≡ false → s.far.far_energy_peak ≡ zero64
    → s.far.window ≡ replicate 512 zero32
    → Silent s (replicate (514 * s.partitions) zero64) (replicate (514 * s.partitions) zero64) (replicate (514 * s.partitions) zero64)
cleared-silent s r a p w =
    let k = plus-replicate (514 * s.partitions) in
    record {
      ring = r;
      still = a;
      peak = p;
      window = rw w (record { long = length-replicate 512 zero32; all = all_replicate 512 zero32 (plus-zero plus32) });
      shadow = k;
      output = k;
      spectra = record { long = k.long; all = all_replicate (514 * s.partitions) zero64 (plus-zero plus64) };
    }

-- A block before the first far sound, of n valid samples, with adaptation or in a flush: the first n places are near's bit for bit, and
-- the state and the buffers are silent again.
pub block-passed : (e : Engine) (far : List Float) (b : Block) → Silent e.state e.shadow e.output e.spectra → Near b.near → Kept Zero 256 far
    → b.valid ≤ 256 → Passed e.state b.near b.valid (run_block e far b)
unfolding run_block
block-passed e far b S N F l =
    let s = e.state in
    let h = heard-hushed e.powers S F in
    let p : 0 < s.partitions = omega (arith, S.ring) in
    let m : Microphone = record { mic = s.mic; shadow = e.shadow; output = e.output } in
    let r = subst (Listens (514 * s.partitions) b.valid b.near) (listen-grouped s.suppress _ b m)
    (grouped-near s.suppress _ b m p h.still h.quiet h.spectra N l (record { shadow = S.shadow; output = S.output })) in
    record {
      parts = refl;
      silent = record {
        ring = h.ring;
        still = h.still;
        peak = h.peak;
        window = h.window;
        shadow = r.weights.shadow;
        output = r.weights.output;
        spectra = h.spectra;
      };
      block = r.passed;
    }
