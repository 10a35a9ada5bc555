-- The microphone's part as the code's functions group its steps: `filter` has 2 and 3, `judge` 5, `deliver` 7 to 9. Only their contracts and
-- the theorems on a block go by these; proofs/Composed.antt has that `grouped` is `listen`. Definitions only.
use Rattle.std.specs.Prelude.{Bool, not, ◌&&◌, List, ℕ, ◌+◌, Float}
use Rattle.tau_state.specs.Sums.{energy_of}
use Rattle.tau_state.specs.declared.state.Mic.{Mic}
use Rattle.tau_state.specs.declared.state.Detector.{Detector}
use Rattle.tau_state.specs.declared.state.Paths.{Paths}
use Rattle.tau_state.specs.declared.state.Powers.{Powers}
use Rattle.tau_detector.specs.Detector.{judged, established}
use Rattle.tau_paths.specs.Paths.{Comparison, compared}
use Rattle.tau_paths.specs.declared.paths.Conditions.{Conditions}
use Rattle.tau_guard.specs.Guard.{Guarded, guarded}
use Rattle.tau_guard.specs.Powers.{hosted}
use Rattle.tau_spectra.specs.Ring.{Ring}
use Rattle.tau_filter.specs.Filter.{Estimated, shadowed, estimated}
use Rattle.tau_update.specs.Update.{Updated, updated}
use Rattle.tau_suppressor.specs.Suppressor.{suppressed}
use Rattle.tau_block.specs.Block.{Block, Playing, Microphone, Listened, quiet}

-- 2 and 3; what the shadow's weights are between them is not told
pub record Filtered : Type 0 where
  pub estimate : List Float
  pub shadow_error : List Float
  pub shadow_diverged : Bool
  pub shadow_overs : ℕ
  pub output : Estimated

unfoldable pub filtered : Ring → List Float → Mic → List Float → List Float → Filtered
filtered ring near mic shadow output =
    let first = shadowed ring near mic.paths mic.divergence_resets shadow in
    record {
      estimate = first.estimate;
      shadow_error = first.error;
      shadow_diverged = first.diverged;
      shadow_overs = first.overs;
      output = estimated ring near first.paths mic.suppressor first.resets first.shadow output;
    }

-- 5
pub record Judgement : Type 0 where
  pub detector : Detector
  pub comparison : Comparison

abbrev pub asked_of : Bool → Bool → Filtered → Detector → Conditions
asked_of adapt active f detector = record {
  flushing = not adapt;
  diverged = f.output.diverged;
  far_is_active = active;
  established = established detector.dtd_blocks;
}

unfoldable pub compares : Bool → Bool → List Float → Float → ℕ → Filtered → Mic → Judgement
compares adapt active near energy valid f mic =
    let detector = judged active energy near f.estimate valid mic.detector in
    record {
      detector = detector;
      comparison =
          compared (asked_of adapt active f detector) (quiet detector) f.shadow_error f.output.error valid f.output.paths
          mic.transfers f.output.shadow f.output.output;
    }

-- 7 to 9
pub record Delivered : Type 0 where
  pub guarded : Guarded
  pub powers : Powers
  pub overs : ℕ

unfoldable pub delivered : Bool → Bool → List Float → Float → ℕ → Estimated → Mic → Paths → ℕ → List Float → Delivered
delivered runs protect near energy valid estimate mic paths resets output =
    let suppression = suppressed runs protect estimate.error estimate.spectrum estimate.suppressor in
    let after = guarded near energy valid mic.guard suppression.suppressor paths resets suppression.block output in
    record { guarded = after; powers = hosted near after.block valid mic.powers; overs = suppression.overs }

-- what they leave of the microphone, the block, and what it tells
abbrev pub gathered : Filtered → Judgement → Updated → Delivered → Listened
gathered f j u g = record {
  microphone = record {
    mic = record {
      detector = j.detector;
      paths = g.guarded.paths;
      far_power_mean = u.means;
      suppressor = g.guarded.suppressor;
      guard = g.guarded.guard;
      powers = g.powers;
      transfers = j.comparison.transfers;
      divergence_resets = g.guarded.resets;
    };
    shadow = u.shadow;
    output = g.guarded.output;
  };
  block = g.guarded.block;
  told = record { reason = j.comparison.reason; overs = f.shadow_overs + f.output.overs + u.overs + g.overs };
}

-- 6. "unless flushing, diverged in 2 or 3, or rescued"
abbrev pub updates : Bool → Filtered → Judgement → Bool
updates adapt f j = adapt && not f.output.diverged && not f.shadow_diverged && not j.comparison.rescued

-- 7. "only if flagged, `far_active` and not diverged in 3"
abbrev pub suppresses : Bool → Bool → Filtered → Bool
suppresses flagged sounded f = flagged && sounded && not f.output.diverged

-- all of them, the update between the comparison and the suppressor
unfoldable pub grouped : Bool → Playing → Block → Microphone → Listened
grouped flagged playing b microphone =
    let near = b.near in
    let mic = microphone.mic in
    let energy = energy_of near b.valid in
    let f = filtered playing.ring near mic microphone.shadow microphone.output in
    let j = compares b.adapt playing.active near energy b.valid f mic in
    let u = updated (updates b.adapt f j) playing.ring playing.far_power f.shadow_error j.detector.step_scale mic.far_power_mean j.comparison.paths f.output.resets j.comparison.shadow in
    let g = delivered (suppresses flagged playing.sounded f) j.detector.protect_output near energy b.valid f.output mic u.paths u.resets j.comparison.output in
    gathered f j u g
