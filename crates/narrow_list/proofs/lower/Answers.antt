-- `narrow_list::lower` meets its contract. Assumes nothing.
use mathlib.Core.Path.{refl}
use Rattle.laws.specs.Choice.{pick_yes, pick_no}
use Rattle.narrow_list.proofs.lower.Goals as goal

pub returns-then-x-y : goal.returns-then-x-y
returns-then-x-y c = pick_yes _ _ _ c.if-x-y.true refl

pub returns-else-x-y : goal.returns-else-x-y
returns-else-x-y c = pick_no _ _ _ c.if-x-y.false refl
