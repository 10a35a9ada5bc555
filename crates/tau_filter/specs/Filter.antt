-- Steps 2 and 3: the estimates and the errors. Definitions only.
use Rattle.std.specs.Prelude.{Bool, true, false, not, ◌||◌, List, ℕ, get_or, replicate, Float}
use Rattle.std.specs.Float.{nan, binary32}
use Rattle.std.specs.Float.Ieee.{sub}
use Rattle.laws.specs.Choice.{pick}
use Rattle.laws.specs.Loops.{iter, over2}
use Rattle.laws.specs.Tables.{table}
use Rattle.laws.specs.Parts.{part}
use Rattle.numbers.specs.Finite.{is_finite}
use Rattle.complex.specs.declared.Complex.{Complex}
use Rattle.complex.specs.Complexes.{new_c, get_c, add_c, mul_c}
use Rattle.fft.specs.Calls.{samples_of, overs_of}
use Rattle.tau_state.specs.Constants.{zero32, zero64}
use Rattle.tau_state.specs.declared.state.Paths.{Paths}
use Rattle.tau_state.specs.declared.state.Suppressor.{Suppressor}
use Rattle.tau_clears.specs.Clears.{diverge_shadow, diverge_of}
use Rattle.tau_spectra.specs.Windows.{latter}
use Rattle.tau_spectra.specs.Ring.{Ring, met_by}

-- bin k of a sum, with the product of the weight and the spectrum added
abbrev pub added_at : List Float → List Float → ℕ → Float → Float → Complex
added_at weights spectrum k re im = add_c (new_c re im) (mul_c (get_c weights k) (get_c spectrum k))

-- the first n bins
unfoldable pub added : List Float → List Float → ℕ → List Float → List Float
added weights spectrum n sum = over2 nan n (λ k re im. (added_at weights spectrum k re im).re) (λ k re im. (added_at weights spectrum k re im).im) sum

-- "partition then bin", from +0.0: the first n partitions
unfoldable pub echo_to : List Float → Ring → ℕ → List Float
echo_to weights ring n = iter (λ p sum. added (part 514 p weights) (met_by ring p) 257 sum) (replicate 514 zero64) n

abbrev pub echo_of : List Float → Ring → List Float
echo_of weights ring = echo_to weights ring ring.partitions

-- the estimate: "last 256 samples of the inverse" of that spectrum
abbrev pub block_estimate : List Float → Ring → List Float
block_estimate weights ring = latter (samples_of (echo_of weights ring))

-- how many of that inverse's samples went over, the half that is dropped too (K8)
abbrev pub estimate_overs : List Float → Ring → ℕ
estimate_overs weights ring = overs_of (echo_of weights ring)

-- near less the estimate, an f32 subtraction
abbrev pub error_at : List Float → List Float → ℕ → Float
error_at near estimate k = sub binary32 (get_or near k nan) (get_or estimate k nan)

unfoldable pub errors_of : List Float → List Float → List Float
errors_of near estimate = table 256 (error_at near estimate)

-- "A non-finite error", among the first n
unfoldable pub bad_to : List Float → List Float → ℕ → Bool
bad_to near estimate n = iter (λ k bad. bad || not (is_finite (error_at near estimate k))) false n

-- what step 2 leaves
pub record Shadowed : Type 0 where
  pub paths : Paths
  pub resets : ℕ
  pub diverged : Bool
  pub estimate : List Float
  pub error : List Float
  pub shadow : List Float
  pub overs : ℕ

-- 2. "Shadow estimate, partition then bin; last 256 samples of the inverse. A non-finite error clears the shadow (`diverge_shadow`), sets
-- its estimate to zero and its error to near."
unfoldable pub shadowed : Ring → List Float → Paths → ℕ → List Float → Shadowed
shadowed ring near paths resets shadow =
    let estimate = block_estimate shadow ring in
    let overs = estimate_overs shadow ring in
    let clear = diverge_shadow paths resets shadow in
    pick (bad_to near estimate 256)
    (record {
      paths = clear.paths;
      resets = clear.resets;
      diverged = true;
      estimate = replicate 256 zero32;
      error = near;
      shadow = clear.shadow;
      overs = overs;
    })
    (record {
      paths = paths;
      resets = resets;
      diverged = false;
      estimate = estimate;
      error = errors_of near estimate;
      shadow = shadow;
      overs = overs;
    })

-- what step 3 leaves
pub record Estimated : Type 0 where
  pub paths : Paths
  pub suppressor : Suppressor
  pub resets : ℕ
  pub diverged : Bool
  pub spectrum : List Float
  pub error : List Float
  pub shadow : List Float
  pub output : List Float
  pub overs : ℕ

-- 3. "Output estimate the same way. A non-finite error clears both filters (`diverge`), and the error block is 0.0." The suppressor
-- reads the estimate's spectrum.
unfoldable pub estimated : Ring → List Float → Paths → Suppressor → ℕ → List Float → List Float → Estimated
estimated ring near paths suppressor resets shadow output =
    let estimate = block_estimate output ring in
    let overs = estimate_overs output ring in
    let clear = diverge_of paths suppressor resets shadow output in
    pick (bad_to near estimate 256)
    (record {
      paths = clear.paths;
      suppressor = clear.suppressor;
      resets = clear.resets;
      diverged = true;
      spectrum = echo_of output ring;
      error = replicate 256 zero32;
      shadow = clear.shadow;
      output = clear.output;
      overs = overs;
    })
    (record {
      paths = paths;
      suppressor = suppressor;
      resets = resets;
      diverged = false;
      spectrum = echo_of output ring;
      error = errors_of near estimate;
      shadow = shadow;
      output = output;
      overs = overs;
    })
