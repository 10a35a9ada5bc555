use Rattle.tau_update.specs.Update.{rate_of}
use mathlib.Core.Path.{◌≡◌}
use lib.Ieee.{nan}
use lib.ListN.{get_or, length}
use Rattle.laws.specs.Loops.{over}
use Rattle.tau_update.proofs.update.rates.Given as goal

abbrev pub invariant-loop-k : goal.invariant-loop-k
invariant-loop-k l = (length l.t ≡ 257) × (l.t ≡ over l.k (λ j x. rate_of l.scale (get_or l.means j nan) (get_or l.powers j nan)) l.initial.t)
