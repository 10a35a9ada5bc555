use mathlib.Core.Path.{◌≡◌}
use lib.Ieee.{nan}
use lib.ListN.{get_or}
use Rattle.laws.specs.Loops.{over}
use Rattle.numbers.specs.Narrowing.{narrow_of}
use Rattle.narrow_list.proofs.all_short.Given as goal

abbrev pub invariant-loop-k : goal.invariant-loop-k
invariant-loop-k l = l.narrowed ≡ over l.k (λ j x. narrow_of (get_or l.xs j nan)) l.initial.narrowed
