use Rattle.tau_fresh.specs.Refusals.{flush_refusal}
use borrow.Author.Tests.{eq-eqb, ne_eqb, lt-leb, le-leb}
use Rattle.laws.specs.Choice.{pick_yes, pick_no}
use mathlib.Core.Path.{refl}
use Rattle.tau_fresh.proofs.refusals.flush_refusal.Goals as goal

pub returns-then-first-ne0 : goal.returns-then-first-ne0
unfolding flush_refusal
returns-then-first-ne0 c = rw (← c.state_refusal-first.ensures) (pick_no _ _ _ (ne_eqb _ _ c.if-first-ne0.true) refl)

pub returns-then-out-s : goal.returns-then-out-s
unfolding flush_refusal
returns-then-out-s c = rw (← c.state_refusal-first.ensures) (pick_yes _ _ _ (eq-eqb _ _ c.if-first-ne0.false) (pick_no _ _ _ (lt-leb _ _ c.if-out-s.true) refl))

pub returns : goal.returns
unfolding flush_refusal
returns c = rw (← c.state_refusal-first.ensures) (pick_yes _ _ _ (eq-eqb _ _ c.if-first-ne0.false) (pick_yes _ _ _ (le-leb _ _ c.if-out-s.false) refl))
