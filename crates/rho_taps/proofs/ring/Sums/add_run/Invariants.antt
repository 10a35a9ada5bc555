use Rattle.std.proofs.Common.{◌≡◌, ◌*◌, get_or}
use Rattle.std.specs.Float.{nan, binary64}
use Rattle.std.specs.Float.Ieee.{add, mul}
use Rattle.laws.specs.Loops.{iter}
use Rattle.rho_taps.specs.Runs.{newest}
use Rattle.rho_taps.proofs.ring.Sums.add_run.Given as goal

abbrev pub invariant-loop-g : goal.invariant-loop-g
invariant-loop-g l = record {
  estimate : l.sums.estimate ≡ iter (λ j sum. add binary64 sum (mul binary64 (get_or l.weights j nan) (newest l.samples j))) l.initial.sums.estimate (32 * l.g);
  energy : l.sums.energy ≡ iter (λ j sum. add binary64 sum (mul binary64 (newest l.samples j) (newest l.samples j))) l.initial.sums.energy (32 * l.g);
}
