-- Step 6, the update of the shadow, in the Rust's order of operations. Definitions only.
use Rattle.std.specs.Prelude.{Bool, true, ◌&&◌, List, ◌++◌, ℕ, ◌+◌, get_or, take, replicate, Float}
use Rattle.std.specs.Float.{nan, binary64}
use Rattle.std.specs.Float.Ieee.{add, sub, mul, div, lt}
use Rattle.laws.specs.Choice.{pick}
use Rattle.laws.specs.Loops.{iter, over}
use Rattle.laws.specs.Tables.{table, table2}
use Rattle.laws.specs.Parts.{part, with_part}
use Rattle.numbers.specs.Order.{min_of, max_of}
use Rattle.numbers.specs.Finite.{is_finite}
use Rattle.complex.specs.declared.Complex.{Complex}
use Rattle.complex.specs.Complexes.{new_c, get_c, scale_c}
use Rattle.fft.specs.Calls.{spectrum_of, samples_of, overs_of}
use Rattle.tau_state.specs.Constants.{zero32, zero64, one, f0·001, f0·02, f0·98, smooth_by}
use Rattle.tau_state.specs.declared.state.Paths.{Paths}
use Rattle.tau_clears.specs.Clears.{diverge_shadow}
use Rattle.tau_spectra.specs.Ring.{Ring, met_by}

-- the shadow's error after as many zeros, which puts the correlation's lags where the gradient needs them
abbrev pub framed : List Float → List Float
framed error = replicate 256 zero32 ++ error

-- the step factor of a bin, "0.02 to 1": the square of its power's share of its mean; 1 where the mean is not above 0
unfoldable pub factor_of : Float → Float → Float
factor_of mean power =
    let share = min_of (div binary64 power mean) one in
    pick (lt zero64 mean) (max_of (mul binary64 share share) f0·02) one

-- the bin's step over its power: (1.0 * factor * scale) / (power + 1e-3)
unfoldable pub rate_of : Float → Float → Float → Float
rate_of scale mean power = div binary64 (mul binary64 (mul binary64 one (factor_of mean power)) scale) (add binary64 power f0·001)

unfoldable pub rates_of : Float → List Float → List Float → List Float
rates_of scale means powers = table 257 (λ k. rate_of scale (get_or means k nan) (get_or powers k nan))

-- the means, smoothed by 0.98
unfoldable pub means_of : List Float → List Float → List Float
means_of powers means = over 257 (λ k mean. smooth_by f0·98 mean (get_or powers k nan)) means

-- conj(x) * e, bin by bin, as independent products, times the bin's rate
unfoldable pub gradient_at : List Float → List Float → List Float → ℕ → Complex
gradient_at spectrum error rates k =
    let x = get_c spectrum k in
    let e = get_c error k in
    scale_c (new_c (add binary64 (mul binary64 x.re e.re) (mul binary64 x.im e.im)) (sub binary64 (mul binary64 x.re e.im) (mul binary64 x.im e.re)))
    (get_or rates k nan)

unfoldable pub gradient_of : List Float → List Float → List Float → List Float
gradient_of spectrum error rates = table2 257 (λ k. (gradient_at spectrum error rates k).re) (λ k. (gradient_at spectrum error rates k).im)

-- the gradient's constraint: in the time domain its second half is 0.0
unfoldable pub constrained : List Float → List Float
constrained gradient = spectrum_of (take 256 (samples_of gradient) ++ replicate 256 zero32)

-- one partition's weights with the gradient added, and whether the first n of them are finite
unfoldable pub stepped : List Float → List Float → List Float
stepped gradient weights = over 514 (λ k w. add binary64 w (get_or gradient k nan)) weights

unfoldable pub finite_to : List Float → ℕ → Bool
finite_to weights n = iter (λ k fine. fine && is_finite (get_or weights k nan)) true n

-- the shadow's weights, whether all that were written are finite, and how many samples of the constraints' inverses went over (K8)
pub record Learnt : Type 0 where
  pub weights : List Float
  pub finite : Bool
  pub overs : ℕ

-- partition p: its gradient, constrained, added to its weights
unfoldable pub learnt_at : Ring → List Float → List Float → ℕ → Learnt → Learnt
learnt_at ring error rates p learnt =
    let gradient = gradient_of (met_by ring p) error rates in
    let new = stepped (constrained gradient) (part 514 p learnt.weights) in
    record { weights = with_part 514 p learnt.weights new; finite = learnt.finite && finite_to new 514; overs = learnt.overs + overs_of gradient }

-- the first n partitions, by the error's spectrum
unfoldable pub learnt_to : Ring → List Float → List Float → List Float → ℕ → Learnt
learnt_to ring error rates shadow n = iter (learnt_at ring error rates) (record { weights = shadow; finite = true; overs = 0 }) n

-- what step 6 leaves
pub record Updated : Type 0 where
  pub means : List Float
  pub paths : Paths
  pub resets : ℕ
  pub shadow : List Float
  pub overs : ℕ

-- 6. "Update of the shadow, unless .."; runs says whether it does. In the Rust's order: the spectrum of the shadow's error, each bin's
-- rate by its far power and the means as they were, the new means, the weights partition by partition, and the verdict when all are
-- written: where one is not finite the shadow is cleared (`diverge_shadow`).
unfoldable pub updated : Bool → Ring → List Float → List Float → Float → List Float → Paths → ℕ → List Float → Updated
updated runs ring far_power error scale means paths resets shadow =
    let spectrum = spectrum_of (framed error) in
    let rates = rates_of scale means far_power in
    let new_means = means_of far_power means in
    let learnt = learnt_to ring spectrum rates shadow ring.partitions in
    let clear = diverge_shadow paths resets learnt.weights in
    pick runs
    (pick learnt.finite
    (record { means = new_means; paths = paths; resets = resets; shadow = learnt.weights; overs = learnt.overs })
    (record { means = new_means; paths = clear.paths; resets = clear.resets; shadow = clear.shadow; overs = learnt.overs }))
    (record { means = means; paths = paths; resets = resets; shadow = shadow; overs = 0 })

-- what the partitions learn in it, for theorems that speak of the verdict
abbrev pub learnt_by : Ring → List Float → List Float → Float → List Float → List Float → Learnt
learnt_by ring far_power error scale means shadow =
    learnt_to ring (spectrum_of (framed error)) (rates_of scale means far_power) shadow ring.partitions
