-- What every block keeps. Assumes nothing.
--     ranges-kept     a state in refusal 6's ranges is in them after a block
--     lengths-kept    the lent buffers keep their lengths
--     length-block    a block has 256 samples
use mathlib.Core.Path.{◌≡◌, refl, ◌∙◌, subst}
use mathlib.Core.Bool.{Bool, true}
use mathlib.Core.List.{List}
use Prim.Native.Nat.{ℕ, ◌+◌, ◌*◌, ◌≤◌, ◌<◌}
use native.Mathlib.Omega.{arith}
use lib.Dec.{eqb}
use lib.ListN.{length, length-replicate, length-drop}
use lib.Ieee.{Float}
use borrow.Author.Tests.{eqb-false}
use Rattle.laws.specs.Choice.{pick-if}
use Rattle.laws.specs.Kinds.{iter-keeps}
use Rattle.laws.specs.Loops.{length_over}
use Rattle.laws.specs.Parts.{part, length_part, length-with}
use Rattle.laws.specs.Tables.{length-table}
use Rattle.fft.specs.Calls.{spectrum_of, samples_of}
use Rattle.fft.proofs.Sizes.{spectrum-514, length-samples}
use Rattle.tau_state.specs.Constants.{zero32}
use Rattle.tau_state.specs.Ranges.{Ranged}
use Rattle.tau_state.specs.declared.state.Far.{Far}
use Rattle.tau_state.specs.declared.state.Mic.{Mic}
use Rattle.tau_state.specs.declared.state.Paths.{Paths}
use Rattle.tau_state.specs.declared.state.Suppressor.{Suppressor}
use Rattle.tau_steps.proofs.Bounds.{judged-count, compared-streak, diverge-shadow-streak, diverge-streak, guarded-streak}
use Rattle.tau_steps.proofs.Lengths.{Level, diverge-shadow-length, diverge-lengths, compared-lengths, guarded-length, guarded-block}
use Rattle.tau_spectra.specs.Windows.{slid, latter}
use Rattle.tau_spectra.specs.Ring.{Ring, next_slot}
use Rattle.tau_spectra.specs.Far.{hear_far}
use Rattle.tau_spectra.specs.Powers.{powers_of}
use Rattle.tau_spectra.proofs.True.{powers-257}
use Rattle.tau_filter.specs.Filter.{Shadowed, Estimated, block_estimate, errors_of, bad_to, shadowed, estimated}
use Rattle.tau_update.specs.Update.{Learnt, Updated, framed, stepped, learnt_at, learnt_to, learnt_by, updated}
use Rattle.tau_suppressor.specs.Suppressor.{Suppressed, suppressed}
use Rattle.tau_block.specs.Block.{Block, Playing, Microphone, Listened, Engine, listen, run_block}
use Rattle.tau_block.specs.Groups.{Filtered, filtered, compares, delivered, grouped}
use Rattle.tau_block.proofs.Composed.{listen-grouped}

-- ---- the ring

-- the next slot is one of the ring's
pub next-slot : (parts head : ℕ) → head < parts → next_slot parts head < parts
unfolding next_slot
next-slot parts head h =
    pick-if (λ r. r < parts) (eqb (head + 1) parts) (λ _. omega arith)
    (λ e. let d : head + 1 ≡ parts → ⊥ = eqb-false (head + 1) parts e in omega arith)

heard-head : (parts : ℕ) (f : Far) (x xs ps : List Float) → f.head < parts → (hear_far parts f x xs ps).far.head < parts
unfolding hear_far
heard-head parts f x xs ps h = next-slot parts f.head h

heard-length : (parts : ℕ) (f : Far) (x xs ps : List Float) → f.head < parts → length xs ≡ 514 * parts → length (hear_far parts f x xs ps).spectra ≡ 514 * parts
unfolding hear_far
heard-length parts f x xs ps h e =
    let l = next-slot parts f.head h in
    length-with 514 (next_slot parts f.head) xs (spectrum_of (slid f.window x)) (omega arith) (spectrum-514 (slid f.window x)) ∙ e

powers-length : (parts : ℕ) (f : Far) (x xs ps : List Float) → f.head < parts → length ps ≡ 257 * parts → length (hear_far parts f x xs ps).powers ≡ 257 * parts
unfolding hear_far
powers-length parts f x xs ps h e =
    let l = next-slot parts f.head h in
    length-with 257 (next_slot parts f.head) ps (powers_of (spectrum_of (slid f.window x))) (omega arith) (powers-257 (spectrum_of (slid f.window x))) ∙ e

-- ---- the rescue streak, below 8 through every step

shadowed-streak : (ring : Ring) (near : List Float) (p : Paths) (resets : ℕ) (sh : List Float) → p.rescue_streak < 8
    → (shadowed ring near p resets sh).paths.rescue_streak < 8
unfolding shadowed
shadowed-streak ring near p resets sh h =
    pick-if (λ (r : Shadowed). r.paths.rescue_streak < 8) (bad_to near (block_estimate sh ring) 256) (λ _. diverge-shadow-streak p resets sh) (λ _. h)

estimated-streak : (ring : Ring) (near : List Float) (p : Paths) (u : Suppressor) (resets : ℕ) (sh ou : List Float) → p.rescue_streak < 8
    → (estimated ring near p u resets sh ou).paths.rescue_streak < 8
unfolding estimated
estimated-streak ring near p u resets sh ou h =
    pick-if (λ (r : Estimated). r.paths.rescue_streak < 8) (bad_to near (block_estimate ou ring) 256) (λ _. diverge-streak p u resets sh ou) (λ _. h)

filtered-streak : (ring : Ring) (near : List Float) (m : Mic) (sh ou : List Float) → m.paths.rescue_streak < 8
    → (filtered ring near m sh ou).output.paths.rescue_streak < 8
unfolding filtered
filtered-streak ring near m sh ou h =
    estimated-streak ring near _ _ _ _ ou (shadowed-streak ring near m.paths m.divergence_resets sh h)

compares-streak : (adapt active : Bool) (near : List Float) (energy : Float) (n : ℕ) (f : Filtered) (m : Mic)
    → f.output.paths.rescue_streak < 8 → (compares adapt active near energy n f m).comparison.paths.rescue_streak < 8
unfolding compares
compares-streak adapt active near energy n f m h =
    compared-streak _ _ f.shadow_error f.output.error n f.output.paths m.transfers f.output.shadow f.output.output h

updated-streak : (runs : Bool) (ring : Ring) (far_power error : List Float) (scale : Float) (means : List Float) (p : Paths) (resets : ℕ) (sh : List Float)
    → p.rescue_streak < 8 → (updated runs ring far_power error scale means p resets sh).paths.rescue_streak < 8
unfolding updated
updated-streak runs ring far_power error scale means p resets sh h =
    let Q : Updated → Type 0 = λ r. r.paths.rescue_streak < 8 in
    pick-if Q runs (λ _. pick-if Q (learnt_by ring far_power error scale means sh).finite (λ _. h) (λ _. diverge-shadow-streak p resets _)) (λ _. h)

delivered-streak : (runs protect : Bool) (near : List Float) (energy : Float) (n : ℕ) (b : Estimated) (m : Mic) (p : Paths) (resets : ℕ) (ou : List Float)
    → p.rescue_streak < 8 → (delivered runs protect near energy n b m p resets ou).guarded.paths.rescue_streak < 8
unfolding delivered
delivered-streak runs protect near energy n b m p resets ou h = guarded-streak near energy n m.guard _ p resets _ ou h

-- ---- the detector's count

compares-count : (adapt active : Bool) (near : List Float) (energy : Float) (n : ℕ) (f : Filtered) (m : Mic)
    → m.detector.dtd_blocks ≤ 64 → (compares adapt active near energy n f m).detector.dtd_blocks ≤ 64
unfolding compares
compares-count adapt active near energy n f m h = judged-count active energy near f.estimate n m.detector h

-- ---- the lengths of the weights

shadowed-length : (ring : Ring) (near : List Float) (p : Paths) (resets : ℕ) (sh : List Float) → length (shadowed ring near p resets sh).shadow ≡ length sh
unfolding shadowed
shadowed-length ring near p resets sh =
    pick-if (λ (r : Shadowed). length r.shadow ≡ length sh) (bad_to near (block_estimate sh ring) 256) (λ _. diverge-shadow-length p resets sh) (λ _. refl)

estimated-lengths : (k : ℕ) (ring : Ring) (near : List Float) (p : Paths) (u : Suppressor) (resets : ℕ) (sh ou : List Float) → Level k sh ou
    → Level k (estimated ring near p u resets sh ou).shadow (estimated ring near p u resets sh ou).output
unfolding estimated
estimated-lengths k ring near p u resets sh ou h =
    pick-if (λ (r : Estimated). Level k r.shadow r.output) (bad_to near (block_estimate ou ring) 256) (λ _. diverge-lengths k p u resets sh ou h) (λ _. h)

filtered-lengths : (k : ℕ) (ring : Ring) (near : List Float) (m : Mic) (sh ou : List Float) → Level k sh ou
    → Level k (filtered ring near m sh ou).output.shadow (filtered ring near m sh ou).output.output
unfolding filtered
filtered-lengths k ring near m sh ou h =
    estimated-lengths k ring near _ _ _ _ ou
    (record { shadow = shadowed-length ring near m.paths m.divergence_resets sh ∙ h.shadow; output = h.output })

compares-lengths : (k : ℕ) (adapt active : Bool) (near : List Float) (energy : Float) (n : ℕ) (f : Filtered) (m : Mic) → Level k f.output.shadow f.output.output
    → Level k (compares adapt active near energy n f m).comparison.shadow (compares adapt active near energy n f m).comparison.output
unfolding compares
compares-lengths k adapt active near energy n f m h =
    compared-lengths k _ _ f.shadow_error f.output.error n f.output.paths m.transfers f.output.shadow f.output.output h

stepped-length : (g w : List Float) → length (stepped g w) ≡ length w
unfolding stepped
stepped-length g w = length_over 514 _ w

-- a partition below P is within the weights, and so are they written
learnt-length : (ring : Ring) (e rates : List Float) (p : ℕ) (l : Learnt) → p < ring.partitions → length l.weights ≡ 514 * ring.partitions
    → length (learnt_at ring e rates p l).weights ≡ 514 * ring.partitions
unfolding learnt_at
learnt-length ring e rates p l b h =
    let within : 514 * p + 514 ≤ length l.weights = omega arith in
    length-with 514 p l.weights _ within (stepped-length _ (part 514 p l.weights) ∙ length_part 514 p l.weights within) ∙ h

pub learnt-lengths : (ring : Ring) (e rates sh : List Float) → length sh ≡ 514 * ring.partitions
    → length (learnt_to ring e rates sh ring.partitions).weights ≡ 514 * ring.partitions
unfolding learnt_to
learnt-lengths ring e rates sh h =
    iter-keeps (λ (l : Learnt). length l.weights ≡ 514 * ring.partitions) (learnt_at ring e rates) (record { weights = sh; finite = true; overs = 0 }) ring.partitions h
    (λ p l b g. learnt-length ring e rates p l b g)

updated-length : (runs : Bool) (ring : Ring) (far_power error : List Float) (scale : Float) (means : List Float) (p : Paths) (resets : ℕ) (sh : List Float)
    → length sh ≡ 514 * ring.partitions → length (updated runs ring far_power error scale means p resets sh).shadow ≡ 514 * ring.partitions
unfolding updated
updated-length runs ring far_power error scale means p resets sh h =
    let Q : Updated → Type 0 = λ r. length r.shadow ≡ 514 * ring.partitions in
    let l = learnt-lengths ring (spectrum_of (framed error)) _ sh h in
    pick-if Q runs
    (λ _. pick-if Q (learnt_by ring far_power error scale means sh).finite (λ _. l) (λ _. diverge-shadow-length p resets _ ∙ l)) (λ _. h)

delivered-length : (runs protect : Bool) (near : List Float) (energy : Float) (n : ℕ) (b : Estimated) (m : Mic) (p : Paths) (resets : ℕ) (ou : List Float)
    → length (delivered runs protect near energy n b m p resets ou).guarded.output ≡ length ou
unfolding delivered
delivered-length runs protect near energy n b m p resets ou = guarded-length near energy n m.guard _ p resets _ ou

-- ---- the length of the block

samples-length : (x : List Float) → length (samples_of x) ≡ 512
unfolding samples_of
samples-length x = length-samples _ _ x

latter-length : (x : List Float) → length (latter (samples_of x)) ≡ 256
unfolding latter
latter-length x = let e = samples-length x in let d = length-drop 256 (samples_of x) in omega arith

estimated-error : (ring : Ring) (near : List Float) (p : Paths) (u : Suppressor) (resets : ℕ) (sh ou : List Float)
    → length (estimated ring near p u resets sh ou).error ≡ 256
unfolding estimated errors_of
estimated-error ring near p u resets sh ou =
    pick-if (λ (r : Estimated). length r.error ≡ 256) (bad_to near (block_estimate ou ring) 256)
    (λ _. length-replicate 256 zero32) (λ _. length-table 256 _)

filtered-error : (ring : Ring) (near : List Float) (m : Mic) (sh ou : List Float) → length (filtered ring near m sh ou).output.error ≡ 256
unfolding filtered
filtered-error ring near m sh ou = estimated-error ring near _ _ _ _ ou

suppressed-block : (runs protect : Bool) (error spectrum : List Float) (u : Suppressor) → length error ≡ 256
    → length (suppressed runs protect error spectrum u).block ≡ 256
unfolding suppressed
suppressed-block runs protect error spectrum u h = pick-if (λ (r : Suppressed). length r.block ≡ 256) runs (λ _. latter-length _) (λ _. h)

delivered-block : (runs protect : Bool) (near : List Float) (energy : Float) (n : ℕ) (b : Estimated) (m : Mic) (p : Paths) (resets : ℕ) (ou : List Float)
    → length b.error ≡ 256 → length (delivered runs protect near energy n b m p resets ou).guarded.block ≡ 256
unfolding delivered
delivered-block runs protect near energy n b m p resets ou h =
    guarded-block near energy n m.guard _ p resets _ ou ∙ suppressed-block runs protect b.error b.spectrum b.suppressor h

-- ---- a microphone's block

module _ (flagged : Bool) (playing : Playing) (b : Block) (m : Microphone) where
  grouped-streak : m.mic.paths.rescue_streak < 8 → (grouped flagged playing b m).microphone.mic.paths.rescue_streak < 8
  unfolding grouped
  grouped-streak h =
      delivered-streak _ _ b.near _ b.valid _ m.mic _ _ _
      (updated-streak _ playing.ring _ _ _ _ _ _ _
      (compares-streak b.adapt playing.active b.near _ b.valid _ m.mic (filtered-streak playing.ring b.near m.mic m.shadow m.output h)))

  grouped-count : m.mic.detector.dtd_blocks ≤ 64 → (grouped flagged playing b m).microphone.mic.detector.dtd_blocks ≤ 64
  unfolding grouped
  grouped-count h = compares-count b.adapt playing.active b.near _ b.valid _ m.mic h

  grouped-lengths : Level (514 * playing.ring.partitions) m.shadow m.output
      → Level (514 * playing.ring.partitions) (grouped flagged playing b m).microphone.shadow (grouped flagged playing b m).microphone.output
  unfolding grouped
  grouped-lengths h =
      let k = 514 * playing.ring.partitions in
      let j = compares-lengths k b.adapt playing.active b.near _ b.valid _ m.mic
      (filtered-lengths k playing.ring b.near m.mic m.shadow m.output h) in
      record {
        shadow = updated-length _ playing.ring _ _ _ _ _ _ _ j.shadow;
        output = delivered-length _ _ b.near _ b.valid _ m.mic _ _ _ ∙ j.output;
      }

  grouped-block : length (grouped flagged playing b m).block ≡ 256
  unfolding grouped
  grouped-block = delivered-block _ _ b.near _ b.valid _ m.mic _ _ _ (filtered-error playing.ring b.near m.mic m.shadow m.output)

  -- and so of the steps themselves
  listen-streak : m.mic.paths.rescue_streak < 8 → (listen flagged playing b m).microphone.mic.paths.rescue_streak < 8
  listen-streak h = subst (λ (r : Listened). r.microphone.mic.paths.rescue_streak < 8) (listen-grouped flagged playing b m) (grouped-streak h)

  listen-count : m.mic.detector.dtd_blocks ≤ 64 → (listen flagged playing b m).microphone.mic.detector.dtd_blocks ≤ 64
  listen-count h = subst (λ (r : Listened). r.microphone.mic.detector.dtd_blocks ≤ 64) (listen-grouped flagged playing b m) (grouped-count h)

  listen-lengths : Level (514 * playing.ring.partitions) m.shadow m.output
      → Level (514 * playing.ring.partitions) (listen flagged playing b m).microphone.shadow (listen flagged playing b m).microphone.output
  listen-lengths h =
      subst (λ (r : Listened). Level (514 * playing.ring.partitions) r.microphone.shadow r.microphone.output) (listen-grouped flagged playing b m) (grouped-lengths h)

  listen-block : length (listen flagged playing b m).block ≡ 256
  listen-block = subst (λ (r : Listened). length r.block ≡ 256) (listen-grouped flagged playing b m) grouped-block

-- ---- a block

-- an engine's lent buffers have their lengths, for so many partitions
pub record Sized (parts : ℕ) (e : Engine) : Type 0 where
  pub shadow : length e.shadow ≡ 514 * parts
  pub output : length e.output ≡ 514 * parts
  pub spectra : length e.spectra ≡ 514 * parts
  pub powers : length e.powers ≡ 257 * parts

below : {n : ℕ} → n < 8 → n ≤ 7
below h = omega arith

-- A state in its ranges stays in them,
pub ranges-kept : (e : Engine) (far : List Float) (b : Block) → Ranged e.state → Ranged (run_block e far b).engine.state
unfolding run_block
ranges-kept e far b h =
    let s = e.state in
    let k : s.mic.paths.rescue_streak < 8 = omega (arith, h.streak) in
    record {
      some = h.some;
      most = h.most;
      inring = heard-head s.partitions s.far far e.spectra e.powers h.inring;
      waiting = h.waiting;
      streak = below (listen-streak s.suppress _ b (record { mic = s.mic; shadow = e.shadow; output = e.output }) k);
      count = listen-count s.suppress _ b (record { mic = s.mic; shadow = e.shadow; output = e.output }) h.count;
    }

-- the lent buffers keep their lengths,
pub lengths-kept : (e : Engine) (far : List Float) (b : Block) → e.state.far.head < e.state.partitions
    → Sized e.state.partitions e → Sized e.state.partitions (run_block e far b).engine
unfolding run_block
lengths-kept e far b l h =
    let s = e.state in
    let z = listen-lengths s.suppress _ b (record { mic = s.mic; shadow = e.shadow; output = e.output }) (record { shadow = h.shadow; output = h.output }) in
    record {
      shadow = z.shadow;
      output = z.output;
      spectra = heard-length s.partitions s.far far e.spectra e.powers l h.spectra;
      powers = powers-length s.partitions s.far far e.spectra e.powers l h.powers;
    }

-- and a whole block is delivered.
pub length-block : (e : Engine) (far : List Float) (b : Block) → length (run_block e far b).block ≡ 256
unfolding run_block
length-block e far b = listen-block e.state.suppress _ b (record { mic = e.state.mic; shadow = e.shadow; output = e.output })
