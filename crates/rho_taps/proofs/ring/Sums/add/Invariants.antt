use Rattle.std.proofs.Common.{◌≡◌, get_or}
use Rattle.std.specs.Float.{nan, binary64}
use Rattle.std.specs.Float.Ieee.{add, mul}
use Rattle.laws.specs.Loops.{iter}
use Rattle.rho_taps.specs.Runs.{newest}
use Rattle.rho_taps.proofs.ring.Sums.add.Given as goal

abbrev pub invariant-loop-k : goal.invariant-loop-k
invariant-loop-k g l = record {
  estimate : l.estimate ≡ iter (λ j sum. add binary64 sum (mul binary64 (get_or l.weights j nan) (newest l.samples j))) l.initial.estimate l.k;
  energy : l.energy ≡ iter (λ j sum. add binary64 sum (mul binary64 (newest l.samples j) (newest l.samples j))) l.initial.energy l.k;
}
