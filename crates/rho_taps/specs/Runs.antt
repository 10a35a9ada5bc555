-- A run: some weights upward with as many far samples downward. What the code computes; no public contract cites these.
use Rattle.std.specs.Prelude.{ℕ, ◌-◌, ◌<◌, List, Float, T, not, length, get_or}
use Rattle.std.specs.Float.{nan, binary64}
use Rattle.std.specs.Float.Ieee.{add, mul, is_nan}
use Rattle.laws.specs.Loops.{iter, over}
use Rattle.rho_taps.specs.Update.{nudge_of}

abbrev pub NoNan : List Float → Type 0
NoNan xs = (k : ℕ) → k < length xs → T (not (is_nan (get_or xs k nan)))

-- the sample at k from the end down
abbrev pub newest : List Float → ℕ → Float
newest samples k = get_or samples (length samples - 1 - k) nan

-- the sums with the terms of a run, from a
abbrev pub estimate_from : Float → List Float → List Float → Float
estimate_from a weights samples = iter (λ k sum. add binary64 sum (mul binary64 (get_or weights k nan) (newest samples k))) a (length samples)

abbrev pub energy_from : Float → List Float → Float
energy_from a samples = iter (λ k sum. add binary64 sum (mul binary64 (newest samples k) (newest samples k))) a (length samples)

-- the weights of a run, each at its next value
abbrev pub nudged_by : Float → List Float → List Float → List Float
nudged_by scale samples weights = over (length samples) (λ k weight. nudge_of scale (newest samples k) weight) weights
