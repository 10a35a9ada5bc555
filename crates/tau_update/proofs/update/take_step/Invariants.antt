use mathlib.Core.Path.{◌≡◌}
use lib.Ieee.{nan}
use lib.ListN.{length, get_or}
use lib.Ieee.{binary64, add}
use Rattle.laws.specs.Loops.{over}
use Rattle.tau_update.proofs.update.take_step.Given as goal

abbrev pub invariant-loop-k : goal.invariant-loop-k
invariant-loop-k l = (length l.w ≡ 514) × (l.w ≡ over l.k (λ j a. add binary64 a (get_or l.g j nan)) l.initial.w)
