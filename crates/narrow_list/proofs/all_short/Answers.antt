-- `narrow_list::all_short` meets its contract. Assumes nothing.
use mathlib.Core.Path.{refl}
use native.Mathlib.Omega.{arith}
use lib.Ieee.{nan}
use Rattle.laws.specs.Loops.{over_none, over-turn, over-passed}
use Rattle.narrow_list.proofs.all_short.Goals as goal

pub loop-k-init : goal.loop-k-init
loop-k-init c = over_none _ _

pub loop-k-preserved : goal.loop-k-preserved
loop-k-preserved c = over-turn _ _ _ c.loop-k.invariant (rw c.short.ensures)

pub returns : goal.returns
returns c = over-passed nan c.loop-k.k 32 _ _ refl (omega arith) c.loop-k.invariant
