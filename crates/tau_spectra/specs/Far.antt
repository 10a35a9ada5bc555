-- Steps 1 and 4: what is heard from the loudspeaker. Definitions only.
use Rattle.std.specs.Prelude.{Bool, false, ◌&&◌, ◌||◌, List, ℕ, get_or, Float}
use Rattle.std.specs.Float.{nan, binary64}
use Rattle.std.specs.Float.Ieee.{mul, lt, ne}
use Rattle.laws.specs.Choice.{pick}
use Rattle.laws.specs.Loops.{iter}
use Rattle.laws.specs.Parts.{with_part}
use Rattle.fft.specs.Calls.{spectrum_of}
use Rattle.tau_state.specs.Constants.{zero32, zero64, f1em4}
use Rattle.tau_state.specs.Sums.{energy_of}
use Rattle.tau_state.specs.declared.state.Far.{Far}
use Rattle.tau_spectra.specs.Windows.{slid}
use Rattle.tau_spectra.specs.Ring.{next_slot}
use Rattle.tau_spectra.specs.Powers.{powers_of, kept_power_to}

-- "any far sample not equal to 0.0", of the first n
unfoldable pub sounds : List Float → ℕ → Bool
sounds block n = iter (λ k on. on || ne (get_or block k nan) zero32) false n

-- the running peak of the block energies, "updated first"
unfoldable pub energy_peak : Float → Float → Float
energy_peak peak energy = pick (lt peak energy) energy peak

-- "block energy above 1e-4 of the running peak, the peak updated first and above 0"
abbrev pub drives : Float → Float → Bool
drives peak energy = lt zero64 peak && lt (mul binary64 f1em4 peak) energy

-- what a block leaves of the loudspeaker's part, whether it drove the block, the spectra, their powers, and the far power of each bin
pub record Heard : Type 0 where
  pub far : Far
  pub active : Bool
  pub spectra : List Float
  pub powers : List Float
  pub far_power : List Float

-- Both steps. `far_active` is of all blocks since creation or reset; `active` of this one.
unfoldable pub hear_far : ℕ → Far → List Float → List Float → List Float → Heard
hear_far partitions far block spectra powers =
    let window = slid far.window block in
    let head = next_slot partitions far.head in
    let energy = energy_of block 256 in
    let peak = energy_peak far.far_energy_peak energy in
    let spectrum = spectrum_of window in
    -- K10: the powers are "written when its spectrum is written"
    let kept = with_part 257 head powers (powers_of spectrum) in
    record {
      far = record { window = window; head = head; far_active = far.far_active || sounds block 256; far_energy_peak = peak };
      active = drives peak energy;
      -- "store the spectrum", in the ring's slot
      spectra = with_part 514 head spectra spectrum;
      powers = kept;
      far_power = kept_power_to kept partitions;
    }
