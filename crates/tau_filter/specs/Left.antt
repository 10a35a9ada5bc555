-- What steps 2 and 3 leave, from what they return and what they wrote to the arrays that they were lent. Definitions only.
use Rattle.std.specs.Prelude.{List, ℕ, Float}
use Rattle.tau_state.specs.declared.state.Paths.{Paths}
use Rattle.tau_state.specs.declared.state.Suppressor.{Suppressor}
use Rattle.tau_filter.specs.Filter.{Shadowed, Estimated}
use Rattle.tau_filter.specs.declared.filter.Checked.{Checked}

-- step 2: the paths, the count of resets, the estimate, the error and the shadow's weights
abbrev pub shadowed_of : Checked → Paths → ℕ → List Float → List Float → List Float → Shadowed
shadowed_of r paths resets estimate error shadow = record {
  paths = paths;
  resets = resets;
  diverged = r.diverged;
  estimate = estimate;
  error = error;
  shadow = shadow;
  overs = r.overs;
}

-- step 3: the paths, the suppressor, the count of resets, the estimate's spectrum, the error and both filters' weights
abbrev pub estimated_of : Checked → Paths → Suppressor → ℕ → List Float → List Float → List Float → List Float → Estimated
estimated_of r paths suppressor resets spectrum error shadow output = record {
  paths = paths;
  suppressor = suppressor;
  resets = resets;
  diverged = r.diverged;
  spectrum = spectrum;
  error = error;
  shadow = shadow;
  output = output;
  overs = r.overs;
}
