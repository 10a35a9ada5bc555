use mathlib.Core.Path.{◌≡◌}
use Prim.Native.Nat.{◌*◌}
use lib.ListN.{take}
use Rattle.numbers.specs.Narrowing.{narrow_of}
use Rattle.narrow_list.specs.Overs.{over_count}
use Rattle.narrow_list.proofs.Groups.{Front}
use Rattle.narrow_list.proofs.narrow_into.Given as goal

abbrev pub invariant-loop-i : goal.invariant-loop-i
invariant-loop-i l = Front narrow_of l.fn.xs l.initial.out (32 * l.i) l.out × (l.overs ≡ over_count (take (32 * l.i) l.fn.xs))
