-- `trig::fold_sin` meets its contract: each way out by its tests. Assumes nothing.
use mathlib.Core.Path.{refl}
use Rattle.laws.specs.Choice.{pick_yes, pick_no}
use Rattle.trig.specs.Trig.{fold_sin}
use Rattle.trig.proofs.trig.fold_sin.Goals as goal

pub returns-then-r : goal.returns-then-r
unfolding fold_sin
returns-then-r c = pick_yes _ _ _ c.if-r.true refl

pub returns-then-r-2 : goal.returns-then-r-2
unfolding fold_sin
returns-then-r-2 c = pick_no _ _ _ c.if-r.false (pick_yes _ _ _ c.if-r-2.true refl)

pub returns : goal.returns
unfolding fold_sin
returns c = pick_no _ _ _ c.if-r.false (pick_no _ _ _ c.if-r-2.false refl)
