-- Step 7, the residual suppressor. Definitions only.
use Rattle.std.specs.Prelude.{Bool, List, ℕ, ◌+◌, ◌-◌, ltb, get_or, pos, Float}
use Rattle.std.specs.Float.{nan, binary64}
use Rattle.std.specs.Float.Ieee.{add, mul, div, lt, le, of_int}
use Rattle.laws.specs.Choice.{pick}
use Rattle.laws.specs.Loops.{iter, over, over2}
use Rattle.laws.specs.Tables.{table}
use Rattle.numbers.specs.Order.{clamp_of}
use Rattle.complex.specs.Complexes.{new_c, scale_c}
use Rattle.fft.specs.Calls.{spectrum_of, samples_of, overs_of}
use Rattle.tau_state.specs.Constants.{zero64, one, f0·0003, f0·1, f0·2, f0·5, f0·7, smooth_by}
use Rattle.tau_state.specs.declared.state.Suppressor.{Suppressor}
use Rattle.tau_spectra.specs.Bins.{power_at}
use Rattle.tau_spectra.specs.Windows.{slid}
use Rattle.tau_spectra.specs.Windows.{latter}

-- the powers of a spectrum's bins, smoothed by 0.7
unfoldable pub powered : List Float → List Float → List Float
powered spectrum powers = over 257 (λ k power. smooth_by f0·7 power (power_at spectrum k)) powers

-- the target: 1 where protected or where nothing is there, else error power / (error power + 0.0003 * echo power), held between 0.1 and 1
unfoldable pub target_of : Bool → Float → Float → Float
target_of protect echo err =
    let denominator = add binary64 err (mul binary64 f0·0003 echo) in
    pick protect one (pick (le denominator zero64) one (clamp_of (div binary64 err denominator) f0·1 one))

-- a gain that rises goes by 0.2, else by 0.5
unfoldable pub gain_of : Float → Float → Float
gain_of target gain = pick (lt gain target) (smooth_by f0·2 gain target) (smooth_by f0·5 gain target)

unfoldable pub gained : Bool → List Float → List Float → List Float → List Float
gained protect echo err gains = over 257 (λ k gain. gain_of (target_of protect (get_or echo k nan) (get_or err k nan)) gain) gains

-- how many of the bins from k - 4 to k + 4 there are
unfoldable pub span_of : ℕ → ℕ
span_of k = pick (ltb k 253) (k + 5 - (k - 4)) (257 - (k - 4))

-- n gains from lo on, added in ascending order from +0.0
unfoldable pub sum_from : List Float → ℕ → ℕ → Float
sum_from gains lo n = iter (λ k total. add binary64 total (get_or gains (lo + k) nan)) zero64 n

-- the average of the gains about bin k, over as many as there are
unfoldable pub average_of : List Float → ℕ → Float
average_of gains k = div binary64 (sum_from gains (k - 4) (span_of k)) (of_int binary64 (pos (span_of k)))

unfoldable pub averaged : List Float → List Float
averaged gains = table 257 (average_of gains)

-- each bin times its average
unfoldable pub shaped : List Float → List Float → List Float
shaped averages spectrum =
    over2 nan 257 (λ k re im. (scale_c (new_c re im) (get_or averages k nan)).re) (λ k re im. (scale_c (new_c re im) (get_or averages k nan)).im) spectrum

-- what step 7 leaves, and how many samples of its inverse went over (K8)
pub record Suppressed : Type 0 where
  pub suppressor : Suppressor
  pub block : List Float
  pub overs : ℕ

-- 7. "Slide the error window always. Suppressor only if .."; runs says whether it does
unfoldable pub suppressed : Bool → Bool → List Float → List Float → Suppressor → Suppressed
suppressed runs protect error estimate suppressor =
    let window = slid suppressor.error_window error in
    let spectrum = spectrum_of window in
    let echo = powered estimate suppressor.echo_power in
    let err = powered spectrum suppressor.error_power in
    let gain = gained protect echo err suppressor.gain in
    pick runs
    (record {
      suppressor = record { echo_power = echo; error_power = err; gain = gain; error_window = window };
      block = latter (samples_of (shaped (averaged gain) spectrum));
      overs = overs_of (shaped (averaged gain) spectrum);
    })
    (record {
      suppressor = record {
        echo_power = suppressor.echo_power;
        error_power = suppressor.error_power;
        gain = suppressor.gain;
        error_window = window;
      };
      block = error;
      overs = 0;
    })
