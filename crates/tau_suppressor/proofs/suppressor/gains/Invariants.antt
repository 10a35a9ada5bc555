use Rattle.tau_suppressor.specs.Suppressor.{gain_of, target_of}
use mathlib.Core.Path.{◌≡◌}
use lib.Ieee.{nan}
use lib.ListN.{get_or}
use Rattle.laws.specs.Loops.{over}
use Rattle.tau_suppressor.proofs.suppressor.gains.Given as goal

abbrev pub invariant-loop-k : goal.invariant-loop-k
invariant-loop-k l = l.g ≡ over l.k (λ j x. gain_of (target_of l.protect (get_or l.echo j nan) (get_or l.err j nan)) x) l.initial.g
