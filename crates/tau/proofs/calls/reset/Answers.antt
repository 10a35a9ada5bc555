use Rattle.tau.specs.Calls.{reset_of}
use Rattle.tau_clears.specs.Weights.{cleared}
use borrow.Author.Tests.{eq-eqb, ne_eqb}
use Rattle.laws.specs.Choice.{pick_yes, pick_no}
use mathlib.Core.Path.{refl, sym, ◌∙◌}
use Rattle.tau_fresh.proofs.Accepted.{accepted-state}
use Rattle.tau.proofs.calls.reset.Goals as goal

pub returns-then-refusal-ne0 : goal.returns-then-refusal-ne0
unfolding reset_of cleared
returns-then-refusal-ne0 c = rw (← c.state_refusal-refusal.ensures) (pick_no _ _ _ (ne_eqb _ _ c.if-refusal-ne0.true) refl)

pub fresh-requires : goal.fresh-requires
unfolding reset_of cleared
fresh-requires c = (accepted-state _ _ _ _ _ (sym c.state_refusal-refusal.ensures ∙ c.if-refusal-ne0.false)).ranged.some

pub returns : goal.returns
unfolding reset_of cleared
returns c = let z = (accepted-state _ _ _ _ _ (sym c.state_refusal-refusal.ensures ∙ c.if-refusal-ne0.false)).sizes in
    rw (← c.state_refusal-refusal.ensures) (pick_yes _ _ _ (eq-eqb _ _ c.if-refusal-ne0.false)
    (rw (c.fresh.ensures, c.clear_all.ensures.0, c.clear_all.ensures.1, c.clear_all.ensures.2, c.clear_all.ensures.3, z.shadow, z.output, z.spectra, z.powers)))
