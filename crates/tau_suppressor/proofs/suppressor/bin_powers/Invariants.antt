use Rattle.tau_spectra.specs.Bins.{power_at}
use mathlib.Core.Path.{◌≡◌}
use Rattle.tau_state.specs.Constants.{f0·7, smooth_by}
use Rattle.laws.specs.Loops.{over}
use Rattle.tau_suppressor.proofs.suppressor.bin_powers.Given as goal

abbrev pub invariant-loop-k : goal.invariant-loop-k
invariant-loop-k l = l.a ≡ over l.k (λ j x. smooth_by f0·7 x (power_at l.s j)) l.initial.a
