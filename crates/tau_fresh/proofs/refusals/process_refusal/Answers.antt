use Rattle.tau_fresh.specs.Refusals.{process_refusal}
use borrow.Author.Tests.{eq-eqb, ne_eqb}
use Rattle.laws.specs.Choice.{pick_yes, pick_no}
use mathlib.Core.Path.{refl, sym, ◌∙◌}
use Rattle.tau_fresh.proofs.Accepted.{accepted-state}
use Rattle.tau_fresh.proofs.refusals.process_refusal.Goals as goal

pub returns-then-first-ne0 : goal.returns-then-first-ne0
unfolding process_refusal
returns-then-first-ne0 c = rw (← c.state_refusal-first.ensures) (pick_no _ _ _ (ne_eqb _ _ c.if-first-ne0.true) refl)

pub pairs_refusal-requires : goal.pairs_refusal-requires
unfolding process_refusal
pairs_refusal-requires c = (accepted-state _ _ _ _ _ (sym c.state_refusal-first.ensures ∙ c.if-first-ne0.false)).ranged.waiting

pub returns : goal.returns
unfolding process_refusal
returns c = rw (← c.state_refusal-first.ensures) (pick_yes _ _ _ (eq-eqb _ _ c.if-first-ne0.false) c.pairs_refusal.ensures)
