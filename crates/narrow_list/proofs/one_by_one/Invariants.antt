use mathlib.Core.Path.{◌≡◌}
use lib.ListN.{take}
use Rattle.numbers.specs.Narrowing.{narrow_of}
use Rattle.narrow_list.specs.Overs.{over_count}
use Rattle.narrow_list.proofs.Groups.{Front}
use Rattle.narrow_list.proofs.one_by_one.Given as goal

abbrev pub invariant-loop-k : goal.invariant-loop-k
invariant-loop-k l = Front narrow_of l.xs l.initial.out l.k l.out × (l.overs ≡ over_count (take l.k l.xs))
