-- The clears of a block, and how the counter of resets counts them. Definitions and statements; no contract cites them, and
-- proofs/Resets.antt has that a block's counter goes by them.
use Rattle.std.specs.Prelude.{◌≡◌, Bool, true, false, not, ◌&&◌, List, ℕ, ◌+◌, Float}
use Rattle.laws.specs.Choice.{pick}
use Rattle.laws.specs.Loops.{iter}
use Rattle.laws.specs.Counting.{one_more}
use Rattle.tau_state.specs.Sums.{energy_of}
use Rattle.tau_state.specs.declared.state.Paths.{Paths}
use Rattle.tau_state.specs.declared.state.Suppressor.{Suppressor}
use Rattle.tau_state.specs.declared.state.Guard.{Guard}
use Rattle.tau_clears.specs.Clears.{ShadowClear, BothClear, OutputHalved, diverge_shadow, diverge_of, retire_output}
use Rattle.tau_guard.specs.Guard.{watched, trips, guarded}
use Rattle.tau_spectra.specs.Ring.{Ring}
use Rattle.tau_filter.specs.Filter.{shadowed, estimated}
use Rattle.tau_update.specs.Update.{learnt_by, updated}
use Rattle.tau_suppressor.specs.Suppressor.{suppressed}
use Rattle.tau_block.specs.Block.{Block, Playing, Microphone, Engine, played_by, heard_in}
use Rattle.tau_block.specs.Groups.{filtered, compares, updates, suppresses}

-- Whether a clear happens, at each of the four places of a block where one may.
pub record Clears : Type 0 where
  -- step 2: the shadow's error is not finite (`diverge_shadow`)
  pub shadow : Bool
  -- step 3: the output's error is not finite (`diverge`)
  pub output : Bool
  -- step 6: the update runs and leaves weights that are not finite (`diverge_shadow`)
  pub update : Bool
  -- step 8: the guard trips on what the suppressor leaves (`retire_output`)
  pub guard : Bool

-- in a microphone's block: the verdicts of steps 2 and 3, and the tests of steps 6 and 8, on the values that `listen` hands those steps
unfoldable pub clears_in : Bool → Playing → Block → Microphone → Clears
clears_in flagged playing b m =
    let mic = m.mic in
    let energy = energy_of b.near b.valid in
    let f = filtered playing.ring b.near mic m.shadow m.output in
    let j = compares b.adapt playing.active b.near energy b.valid f mic in
    let learnt = learnt_by playing.ring playing.far_power f.shadow_error j.detector.step_scale mic.far_power_mean j.comparison.shadow in
    let suppression = suppressed (suppresses flagged playing.sounded f) j.detector.protect_output f.output.error f.output.spectrum f.output.suppressor in
    record {
      shadow = f.shadow_diverged;
      output = f.output.diverged;
      update = updates b.adapt f j && not learnt.finite;
      guard = trips (watched energy (energy_of suppression.block b.valid) mic.guard);
    }

-- in a block
unfoldable pub clears_of : Engine → List Float → Block → Clears
clears_of e far b =
    let s = e.state in
    clears_in s.suppress (played_by s.partitions (heard_in e far)) b (record { mic = s.mic; shadow = e.shadow; output = e.output })

-- how many of them
unfoldable pub told : Bool → ℕ
told true = 1
told false = 0

unfoldable pub how_many : Clears → ℕ
how_many c = told c.shadow + told c.output + told c.update + told c.guard

-- a counter, k times one more
abbrev pub more_by : ℕ → ℕ → ℕ
more_by k counter = iter (λ _ n. one_more n) counter k

-- ---- That each of the four says whether the step does its clear, as statements: where it holds, the paths, the counter, the weights and the
-- suppressor that the step leaves are the clear's, and where not, the counter is as it was, and nothing is cleared.

-- step 2
abbrev pub ShadowClears : Type 0
ShadowClears = (ring : Ring) (near : List Float) (paths : Paths) (resets : ℕ) (shadow : List Float)
    → let after = shadowed ring near paths resets shadow in
    ◌≡◌ {A = ShadowClear} (record { paths = after.paths; resets = after.resets; shadow = after.shadow })
    (pick after.diverged (diverge_shadow paths resets shadow) (record { paths = paths; resets = resets; shadow = shadow }))

-- step 3
abbrev pub OutputClears : Type 0
OutputClears = (ring : Ring) (near : List Float) (paths : Paths) (suppressor : Suppressor) (resets : ℕ) (shadow output : List Float)
    → let after = estimated ring near paths suppressor resets shadow output in
    ◌≡◌ {A = BothClear} (record { paths = after.paths; suppressor = after.suppressor; resets = after.resets; shadow = after.shadow; output = after.output })
    (pick after.diverged (diverge_of paths suppressor resets shadow output)
    (record { paths = paths; suppressor = suppressor; resets = resets; shadow = shadow; output = output }))

-- step 6, which clears the weights that it wrote
abbrev pub UpdateClears : Type 0
UpdateClears = (runs : Bool) (ring : Ring) (far_power error : List Float) (scale : Float) (means : List Float) (paths : Paths) (resets : ℕ) (shadow : List Float)
    → let after = updated runs ring far_power error scale means paths resets shadow in
    let learnt = learnt_by ring far_power error scale means shadow in
    ◌≡◌ {A = ShadowClear} (record { paths = after.paths; resets = after.resets; shadow = after.shadow })
    (pick (runs && not learnt.finite) (diverge_shadow paths resets learnt.weights)
    (record { paths = paths; resets = resets; shadow = pick runs learnt.weights shadow }))

-- step 8
abbrev pub GuardClears : Type 0
GuardClears = (near : List Float) (energy : Float) (valid : ℕ) (guard : Guard) (suppressor : Suppressor) (paths : Paths) (resets : ℕ) (block output : List Float)
    → let after = guarded near energy valid guard suppressor paths resets block output in
    let powers = watched energy (energy_of block valid) guard in
    ◌≡◌ {A = OutputHalved} (record { paths = after.paths; suppressor = after.suppressor; resets = after.resets; output = after.output })
    (pick (trips powers) (retire_output powers.divergence_near_power paths suppressor resets output)
    (record { paths = paths; suppressor = suppressor; resets = resets; output = output }))
