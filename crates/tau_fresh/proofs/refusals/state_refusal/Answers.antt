use Rattle.tau_fresh.specs.Refusals.{state_refusal}
use Rattle.laws.specs.Choice.{pick_yes, pick_no}
use mathlib.Core.Path.{refl, sym, ◌∙◌}
use Rattle.tau_state.proofs.Ranged.{ranged-is}
use Rattle.tau_fresh.proofs.refusals.state_refusal.Goals as goal

pub returns-then-not-in_range : goal.returns-then-not-in_range
unfolding state_refusal
returns-then-not-in_range c = pick_no _ _ _ (sym c.in_range.ensures ∙ c.if-not-in_range.true) refl

pub sizes_fit-requires : goal.sizes_fit-requires
unfolding state_refusal
sizes_fit-requires c = (ranged-is _ (sym c.in_range.ensures ∙ c.if-not-in_range.false)).most

pub returns-then-not-sizes_fit : goal.returns-then-not-sizes_fit
unfolding state_refusal
returns-then-not-sizes_fit c = pick_yes _ _ _ (sym c.in_range.ensures ∙ c.if-not-in_range.false) (pick_no _ _ _ (sym c.sizes_fit.ensures ∙ c.if-not-sizes_fit.true) refl)

pub returns : goal.returns
unfolding state_refusal
returns c = pick_yes _ _ _ (sym c.in_range.ensures ∙ c.if-not-in_range.false) (pick_yes _ _ _ (sym c.sizes_fit.ensures ∙ c.if-not-sizes_fit.false) refl)
