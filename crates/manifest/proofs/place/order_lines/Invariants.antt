use Rattle.std.proofs.Common.{◌≡◌, length, take, drop}
use Rattle.line_order.specs.Order.{at_most}
use Rattle.manifest.specs.Lines.{lines_of}
use Rattle.manifest.specs.Sorting.{sort_of}
use Rattle.manifest.specs.Steps.{Holds}
use Rattle.manifest.proofs.place.order_lines.Given as goal

abbrev pub invariant-loop-rest : goal.invariant-loop-rest
invariant-loop-rest l =
    (length l.lines ≡ length l.initial.lines)
    × Holds l.lines (sort_of at_most (take l.count (lines_of l.text))) l.count
    × (drop l.count (lines_of l.text) ≡ lines_of l.rest)

abbrev pub decreases-loop-rest : goal.decreases-loop-rest
decreases-loop-rest l = length l.rest
