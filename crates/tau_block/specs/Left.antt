-- What the code's functions leave, in the words of Groups and `listen`: from what they return, the microphone, and what they wrote to what
-- else they were lent. And which parts of the microphone each leaves as they were. Definitions only.
use Rattle.std.specs.Prelude.{◌≡◌, List, ℕ, Float}
use Rattle.tau_state.specs.declared.state.Mic.{Mic}
use Rattle.tau_state.specs.declared.report.Told.{Told}
use Rattle.tau_paths.specs.declared.paths.Compared.{Compared}
use Rattle.tau_filter.specs.Left.{estimated_of}
use Rattle.tau_update.specs.Update.{Updated}
use Rattle.tau_block.specs.Block.{Listened}
use Rattle.tau_block.specs.Groups.{Filtered, Judgement, Delivered}
use Rattle.tau_block.specs.declared.block.BothChecked.{BothChecked}
use Rattle.tau_block.specs.declared.block.Estimates.{Estimates}

-- steps 2 and 3: the output's error and both filters' weights
abbrev pub filtered_of : BothChecked → Mic → Estimates → List Float → List Float → List Float → Filtered
filtered_of checked mic estimates error shadow output = record {
  estimate = estimates.estimate;
  shadow_error = estimates.shadow_error;
  shadow_diverged = checked.shadow.diverged;
  shadow_overs = checked.shadow.overs;
  output = estimated_of checked.output mic.paths mic.suppressor mic.divergence_resets estimates.bins error shadow output;
}

pub record FiltersOnly (old new : Mic) : Type 0 where
  pub detector : new.detector ≡ old.detector
  pub means : new.far_power_mean ≡ old.far_power_mean
  pub guard : new.guard ≡ old.guard
  pub powers : new.powers ≡ old.powers
  pub transfers : new.transfers ≡ old.transfers

-- step 5: both filters' weights
abbrev pub judgement_of : Compared → Mic → List Float → List Float → Judgement
judgement_of compared mic shadow output = record {
  detector = mic.detector;
  comparison = record {
    paths = mic.paths;
    transfers = mic.transfers;
    rescued = compared.rescued;
    reason = compared.reason;
    shadow = shadow;
    output = output;
  };
}

pub record JudgesOnly (old new : Mic) : Type 0 where
  pub means : new.far_power_mean ≡ old.far_power_mean
  pub suppressor : new.suppressor ≡ old.suppressor
  pub guard : new.guard ≡ old.guard
  pub powers : new.powers ≡ old.powers
  pub resets : new.divergence_resets ≡ old.divergence_resets

-- step 6: the overs and the shadow's weights
abbrev pub updated_of : ℕ → Mic → List Float → Updated
updated_of overs mic shadow = record {
  means = mic.far_power_mean;
  paths = mic.paths;
  resets = mic.divergence_resets;
  shadow = shadow;
  overs = overs;
}

pub record UpdatesOnly (old new : Mic) : Type 0 where
  pub detector : new.detector ≡ old.detector
  pub suppressor : new.suppressor ≡ old.suppressor
  pub guard : new.guard ≡ old.guard
  pub powers : new.powers ≡ old.powers
  pub transfers : new.transfers ≡ old.transfers

-- steps 7 to 9: the overs, the block and the output's weights
abbrev pub delivered_of : ℕ → Mic → List Float → List Float → Delivered
delivered_of overs mic block output = record {
  guarded = record {
    guard = mic.guard;
    suppressor = mic.suppressor;
    paths = mic.paths;
    resets = mic.divergence_resets;
    block = block;
    output = output;
  };
  powers = mic.powers;
  overs = overs;
}

pub record DeliversOnly (old new : Mic) : Type 0 where
  pub detector : new.detector ≡ old.detector
  pub means : new.far_power_mean ≡ old.far_power_mean
  pub transfers : new.transfers ≡ old.transfers

-- and all of them
abbrev pub listened_of : Mic → List Float → Told → List Float → List Float → Listened
listened_of mic block told shadow output = record { microphone = record { mic = mic; shadow = shadow; output = output }; block = block; told = told }
