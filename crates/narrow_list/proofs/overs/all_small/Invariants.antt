use mathlib.Core.Path.{◌≡◌}
use mathlib.Core.Bool.{true}
use Prim.Native.Nat.{◌*◌}
use Rattle.narrow_list.proofs.Small.{Small}
use Rattle.narrow_list.proofs.overs.all_small.Given as goal

abbrev pub invariant-loop-group : goal.invariant-loop-group
invariant-loop-group l = l.small ≡ true → Small l.xs (32 * l.group-index)
