use Rattle.tau.specs.Calls.{create_of}
use Rattle.tau_clears.specs.Weights.{cleared}
use borrow.Author.Tests.{eq-eqb, ne_eqb}
use Rattle.laws.specs.Choice.{pick_yes, pick_no}
use mathlib.Core.Path.{refl, sym, ◌∙◌}
use Rattle.tau_fresh.proofs.Accepted.{accepted-settings}
use Rattle.tau.proofs.calls.create.Goals as goal

pub returns-then-refusal-ne0 : goal.returns-then-refusal-ne0
unfolding create_of cleared
returns-then-refusal-ne0 c = rw (c.empty.ensures, ← c.create_refusal-refusal.ensures) (pick_no _ _ _ (ne_eqb _ _ c.if-refusal-ne0.true) refl)

pub fresh-requires : goal.fresh-requires
unfolding create_of cleared
fresh-requires c = (accepted-settings _ _ _ _ _ (sym c.create_refusal-refusal.ensures ∙ c.if-refusal-ne0.false)).some

pub returns : goal.returns
unfolding create_of cleared
returns c = let z = (accepted-settings _ _ _ _ _ (sym c.create_refusal-refusal.ensures ∙ c.if-refusal-ne0.false)).sizes in
    rw (← c.create_refusal-refusal.ensures) (pick_yes _ _ _ (eq-eqb _ _ c.if-refusal-ne0.false)
    (rw (c.fresh.ensures, c.clear_all.ensures.0, c.clear_all.ensures.1, c.clear_all.ensures.2, c.clear_all.ensures.3, z.shadow, z.output, z.spectra, z.powers)))
