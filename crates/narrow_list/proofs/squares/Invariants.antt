use mathlib.Core.Path.{◌≡◌}
use lib.Ieee.{nan}
use lib.ListN.{get_or}
use Rattle.laws.specs.Loops.{over}
use Rattle.narrow_list.specs.Short.{square_of}
use Rattle.narrow_list.proofs.squares.Given as goal

abbrev pub invariant-loop-k : goal.invariant-loop-k
invariant-loop-k l = l.squares ≡ over l.k (λ j x. square_of (get_or l.xs j nan)) l.initial.squares
