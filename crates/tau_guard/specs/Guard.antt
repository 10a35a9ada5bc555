-- Step 8, the guard. Definitions only.
use Rattle.std.specs.Prelude.{Bool, ◌&&◌, List, ℕ, get_or, Float}
use Rattle.std.specs.Float.{nan, binary64}
use Rattle.std.specs.Float.Ieee.{mul, lt}
use Rattle.laws.specs.Choice.{pick}
use Rattle.laws.specs.Loops.{over}
use Rattle.tau_state.specs.Constants.{zero64, f0·98, f1·05, smooth_by}
use Rattle.tau_state.specs.Sums.{energy_of}
use Rattle.tau_state.specs.declared.state.Paths.{Paths}
use Rattle.tau_state.specs.declared.state.Suppressor.{Suppressor}
use Rattle.tau_state.specs.declared.state.Guard.{Guard}
use Rattle.tau_clears.specs.Clears.{retire_output}

-- the two powers with this block's energies
unfoldable pub watched : Float → Float → Guard → Guard
watched near_energy out_energy guard = record {
  divergence_near_power = smooth_by f0·98 guard.divergence_near_power near_energy;
  divergence_out_power = smooth_by f0·98 guard.divergence_out_power out_energy;
}

-- "smoothed output power above 1.05 times smoothed near power (above 0)"
abbrev pub trips : Guard → Bool
trips guard =
    lt zero64 guard.divergence_near_power && lt (mul binary64 f1·05 guard.divergence_near_power) guard.divergence_out_power

-- the near block in the first n places
unfoldable pub replaced : List Float → ℕ → List Float → List Float
replaced near n block = over n (λ k x. get_or near k nan) block

pub record Guarded : Type 0 where
  pub guard : Guard
  pub suppressor : Suppressor
  pub paths : Paths
  pub resets : ℕ
  pub block : List Float
  pub output : List Float

-- 8. "Guard: smoothed output power above 1.05 times smoothed near power (above 0) halves the output weights (`retire_output`), and the
-- near block is delivered." The smoothed output power is then the near one's.
unfoldable pub guarded : List Float → Float → ℕ → Guard → Suppressor → Paths → ℕ → List Float → List Float → Guarded
guarded near near_energy valid guard suppressor paths resets block output =
    let powers = watched near_energy (energy_of block valid) guard in
    let retired = retire_output powers.divergence_near_power paths suppressor resets output in
    pick (trips powers)
    (record {
      guard = record { divergence_near_power = powers.divergence_near_power; divergence_out_power = powers.divergence_near_power };
      suppressor = retired.suppressor;
      paths = retired.paths;
      resets = retired.resets;
      block = replaced near valid block;
      output = retired.output;
    })
    (record { guard = powers; suppressor = suppressor; paths = paths; resets = resets; block = block; output = output })
