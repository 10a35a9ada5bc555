use Rattle.std.proofs.Common.{◌≡◌, length}
use Rattle.std.specs.Cmp.Lexicographic.{slice_cmp}
use Rattle.std.specs.Ordering.{nat_cmp}
use Rattle.line_order.specs.Order.{key}
use Rattle.line_order.proofs.compare_by_value.Given as goal

abbrev pub invariant-loop-s : goal.invariant-loop-s
invariant-loop-s l = slice_cmp nat_cmp (key l.a) (key l.b) ≡ slice_cmp nat_cmp (key l.s) (key l.t)

abbrev pub decreases-loop-s : goal.decreases-loop-s
decreases-loop-s l = length l.s
