-- The Tau block: document 01's nine steps in their order. `run_block` is the loudspeaker's part, steps 1 and 4, and then the microphone's,
-- `listen`, steps 2, 3 and 5 to 9: the two stay apart, since a second microphone would run the second part again. Step 4 reads nothing
-- that steps 2 and 3 leave. Definitions only.
use Rattle.std.specs.Prelude.{Bool, not, ◌&&◌, List, ℕ, ◌+◌, Float}
use Rattle.tau_state.specs.Sums.{energy_of}
use Rattle.tau_state.specs.declared.state.TauCanceller.{TauCanceller}
use Rattle.tau_state.specs.declared.state.Mic.{Mic}
use Rattle.tau_state.specs.declared.state.Detector.{Detector}
use Rattle.tau_state.specs.declared.report.Told.{Told}
use Rattle.tau_detector.specs.Detector.{judged, established}
use Rattle.tau_paths.specs.Paths.{compared}
use Rattle.tau_paths.specs.declared.paths.Conditions.{Conditions}
use Rattle.tau_guard.specs.Guard.{guarded}
use Rattle.tau_guard.specs.Powers.{hosted}
use Rattle.tau_spectra.specs.Ring.{Ring, ring_of}
use Rattle.tau_spectra.specs.Far.{Heard, hear_far}
use Rattle.tau_filter.specs.Filter.{shadowed, estimated}
use Rattle.tau_update.specs.Update.{updated}
use Rattle.tau_suppressor.specs.Suppressor.{suppressed}

-- a microphone's block: 256 near samples, of which the first `valid`, at least one, came from a caller; adapt says that it is no flush
pub record Block : Type 0 where
  pub near : List Float
  pub valid : ℕ
  pub adapt : Bool

-- what was heard from the loudspeaker: the ring of spectra and the far power of each bin, step 1's `far_active`, of all blocks so far, and
-- step 4's far activity, of this one
pub record Playing : Type 0 where
  pub ring : Ring
  pub far_power : List Float
  pub sounded : Bool
  pub active : Bool

-- a microphone: what belongs to it of the state, and the weights of its two filters
pub record Microphone : Type 0 where
  pub mic : Mic
  pub shadow : List Float
  pub output : List Float

-- what a block leaves of a microphone, the 256 samples, and what it tells of itself
pub record Listened : Type 0 where
  pub microphone : Microphone
  pub block : List Float
  pub told : Told

-- neither collapsed nor protected
abbrev pub quiet : Detector → Bool
quiet d = not d.dtd_collapsed && not d.protect_output

-- The microphone's part. `flagged` is the setting that says whether to suppress.
unfoldable pub listen : Bool → Playing → Block → Microphone → Listened
listen flagged playing b microphone =
    let near = b.near in
    let energy = energy_of near b.valid in
    let mic = microphone.mic in
    -- 2. "Shadow estimate, partition then bin; last 256 samples of the inverse. A non-finite error clears the shadow (`diverge_shadow`),
    -- sets its estimate to zero and its error to near."
    let shadow = shadowed playing.ring near mic.paths mic.divergence_resets microphone.shadow in
    -- 3. "Output estimate the same way. A non-finite error clears both filters (`diverge`), and the error block is 0.0."
    let output = estimated playing.ring near shadow.paths mic.suppressor shadow.resets shadow.shadow microphone.output in
    -- 5. "House detector, on every block.
    let detector = judged playing.active energy near shadow.estimate b.valid mic.detector in
    -- Then, only if not flushing, not diverged in 3, far active and established, the two-path comparison."
    let asked : Conditions = record {
      flushing = not b.adapt;
      diverged = output.diverged;
      far_is_active = playing.active;
      established = established detector.dtd_blocks;
    } in
    let comparison =
    compared asked (quiet detector) shadow.error output.error b.valid output.paths mic.transfers output.shadow output.output in
    -- 6. "Update of the shadow, unless flushing, diverged in 2 or 3, or rescued."
    let updates = b.adapt && not output.diverged && not shadow.diverged && not comparison.rescued in
    let update =
    updated updates playing.ring playing.far_power shadow.error detector.step_scale mic.far_power_mean comparison.paths output.resets comparison.shadow in
    -- 7. "Slide the error window always. Suppressor only if flagged, `far_active` and not diverged in 3."
    let suppresses = flagged && playing.sounded && not output.diverged in
    let suppression = suppressed suppresses detector.protect_output output.error output.spectrum output.suppressor in
    -- 8. "Guard: smoothed output power above 1.05 times smoothed near power (above 0) halves the output weights (`retire_output`), and the
    -- near block is delivered."
    let guard =
    guarded near energy b.valid mic.guard suppression.suppressor update.paths update.resets suppression.block comparison.output in
    -- 9. "The two smoothed powers for the host."
    let powers = hosted near guard.block b.valid mic.powers in
    record {
      microphone = record {
        mic = record {
          detector = detector;
          paths = guard.paths;
          far_power_mean = update.means;
          suppressor = guard.suppressor;
          guard = guard.guard;
          powers = powers;
          transfers = comparison.transfers;
          divergence_resets = guard.resets;
        };
        shadow = update.shadow;
        output = guard.output;
      };
      block = guard.block;
      told = record {
        reason = comparison.reason;
        -- K8: "the block report carries the sum over the block's inverses, with or without the suppressor"
        overs = shadow.overs + output.overs + update.overs + suppression.overs;
      };
    }

-- the engine whole: its state and the four lent buffers, the shadow's weights, the output's, the far spectra and their powers
pub record Engine : Type 0 where
  pub state : TauCanceller
  pub shadow : List Float
  pub output : List Float
  pub spectra : List Float
  pub powers : List Float

-- what a block leaves
pub record Ran : Type 0 where
  pub engine : Engine
  pub block : List Float
  pub told : Told

-- what is played to a microphone, of what was heard
abbrev pub played_by : ℕ → Heard → Playing
played_by partitions heard = record {
  ring = ring_of partitions heard.far.head heard.spectra;
  far_power = heard.far_power;
  sounded = heard.far.far_active;
  active = heard.active;
}

-- the block on what was heard. The carry is not read, and stays.
abbrev pub ran_on : Engine → Heard → Block → Ran
ran_on e heard b =
    let s = e.state in
    let listened = listen s.suppress (played_by s.partitions heard) b (record { mic = s.mic; shadow = e.shadow; output = e.output }) in
    record {
      engine = record {
        state = record {
          partitions = s.partitions;
          suppress = s.suppress;
          carried = s.carried;
          near_carry = s.near_carry;
          far_carry = s.far_carry;
          far = heard.far;
          mic = listened.microphone.mic;
        };
        shadow = listened.microphone.shadow;
        output = listened.microphone.output;
        spectra = heard.spectra;
        powers = heard.powers;
      };
      block = listened.block;
      told = listened.told;
    }

-- what a block hears of the 256 far samples that go with it
abbrev pub heard_in : Engine → List Float → Heard
heard_in e far = let s = e.state in hear_far s.partitions s.far far e.spectra e.powers

-- The block:
-- 1. "Slide the far window; any far sample not equal to 0.0 sets `far_active`; advance the ring; store the spectrum."
-- 4. "Far activity: block energy above 1e-4 of the running peak, the peak updated first and above 0."
-- and then the microphone's part on it.
unfoldable pub run_block : Engine → List Float → Block → Ran
run_block e far b = ran_on e (heard_in e far) b
