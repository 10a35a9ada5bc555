-- `numbers::Float::max` meets its contract: each way out is what the two tests of `max_of` pick. Assumes nothing.
use Rattle.std.proofs.Common.{sym, ◌∙◌, refl}
use Rattle.laws.specs.Choice.{pick_yes, pick_no}
use Rattle.numbers.specs.Order.{max_of}
use Rattle.numbers.proofs.float.Float.max.Goals as goal

pub returns-then-is_nan : goal.returns-then-is_nan
unfolding max_of
returns-then-is_nan g c = pick_yes _ _ _ (sym c.is_nan.ensures ∙ c.if-is_nan.true) refl

pub returns-then-is_less : goal.returns-then-is_less
unfolding max_of
returns-then-is_less g c = pick_no _ _ _ (sym c.is_nan.ensures ∙ c.if-is_nan.false) (pick_yes _ _ _ (sym c.is_less.ensures ∙ c.if-is_less.true) refl)

pub returns-else-is_less : goal.returns-else-is_less
unfolding max_of
returns-else-is_less g c = pick_no _ _ _ (sym c.is_nan.ensures ∙ c.if-is_nan.false) (pick_no _ _ _ (sym c.is_less.ensures ∙ c.if-is_less.false) refl)
