-- The house detector (document 01, "House detector"). Definitions only.
use Rattle.std.specs.Prelude.{Bool, not, ◌&&◌, ◌||◌, List, ℕ, ◌+◌, ltb, leb, Float}
use Rattle.std.specs.Float.{binary64}
use Rattle.std.specs.Float.Ieee.{sub, mul, div, lt, eq}
use Rattle.laws.specs.Choice.{pick}
use Rattle.numbers.specs.Order.{abs_of, max_of, clamp_of}
use Rattle.tau_state.specs.Constants.{zero64, one, f0·01, f0·2, f0·5, f0·8, f0·99, f3, smooth_by}
use Rattle.tau_state.specs.Sums.{energy_of, cross_of}
use Rattle.tau_state.specs.declared.state.Detector.{Detector}

-- "c = cross*cross/(near energy*estimate energy), .. 0 where either energy is 0; 1 where the ratio is not below 1"
unfoldable pub coherence_of : Float → Float → Float → Float
coherence_of cross near_energy estimate_energy =
    let ratio = div binary64 (mul binary64 cross cross) (mul binary64 near_energy estimate_energy) in
    pick (eq near_energy zero64) zero64 (pick (eq estimate_energy zero64) zero64 (pick (lt ratio one) ratio one))

-- "the count goes up by 1, to 64 at most"
unfoldable pub count_of : ℕ → ℕ
count_of count = pick (ltb count 64) (count + 1) 64

-- "established means 64"
abbrev pub established : ℕ → Bool
established count = leb 64 count

-- "Baseline = 0.5*baseline + (1-0.5)*c if c is above it, else 0.99*baseline + (1-0.99)*c"
unfoldable pub baseline_of : Float → Float → Float
baseline_of baseline c = pick (lt baseline c) (smooth_by f0·5 baseline c) (smooth_by f0·99 baseline c)

-- "Collapsed: established by the new count, and c < baseline - 3*max(deviation, 0.01)"
unfoldable pub collapsed_of : ℕ → Float → Float → Float → Bool
collapsed_of count baseline deviation c = established count && lt c (sub binary64 baseline (mul binary64 f3 (max_of deviation f0·01)))

-- "Once established, with the new smooth, step scale is smooth/0.5 held between 0.01 and 1, and protection is smooth < 0.2. Before, 1 and no."
unfoldable pub step_scale_of : ℕ → Float → Float
step_scale_of count smooth = pick (established count) (clamp_of (div binary64 smooth f0·5) f0·01 one) one

unfoldable pub protect_of : ℕ → Float → Bool
protect_of count smooth = established count && lt smooth f0·2

-- a block that is learned from, with coherence c; baseline and deviation in `collapsed` "as they were before this block"
unfoldable pub learned : Detector → Float → Detector
learned d c =
    let count = count_of d.dtd_blocks in
    let smooth = smooth_by f0·8 d.coherence_smooth c in
    let collapsed = collapsed_of count d.dtd_baseline d.dtd_deviation c in
    record {
      double_talk = collapsed || protect_of count smooth;
      dtd_collapsed = collapsed;
      protect_output = protect_of count smooth;
      dtd_blocks = count;
      dtd_baseline = baseline_of d.dtd_baseline c;
      dtd_deviation = smooth_by f0·99 d.dtd_deviation (abs_of (sub binary64 c d.dtd_baseline));
      coherence_smooth = smooth;
      step_scale = step_scale_of count smooth;
    }

-- any other block: "nothing changes", and the verdict that stands is the block's
unfoldable pub stands : Detector → Detector
stands d = record {
  double_talk = d.dtd_collapsed || d.protect_output;
  dtd_collapsed = d.dtd_collapsed;
  protect_output = d.protect_output;
  dtd_blocks = d.dtd_blocks;
  dtd_baseline = d.dtd_baseline;
  dtd_deviation = d.dtd_deviation;
  coherence_smooth = d.coherence_smooth;
  step_scale = d.step_scale;
}

-- Which blocks are learned from. In document 01 it is every far-active one. Request K5 mends that: "A block whose near energy over the
-- valid samples is 0 must leave the whole detector as it was, just as a far-inactive block does."
abbrev pub evidence : Bool → Float → Bool
evidence active near_energy = active && not (eq near_energy zero64)

-- The detector after a block, "cross being the sum of near times shadow estimate over the valid samples in f64".
unfoldable pub judged : Bool → Float → List Float → List Float → ℕ → Detector → Detector
judged active near_energy near estimate valid d =
    pick (evidence active near_energy) (learned d (coherence_of (cross_of near estimate valid) near_energy (energy_of estimate valid))) (stands d)
