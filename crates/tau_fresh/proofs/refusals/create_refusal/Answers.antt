use Rattle.tau_fresh.specs.Refusals.{create_refusal, settings_of}
use borrow.Author.Tests.{lt-leb, le-leb}
use Rattle.laws.specs.Choice.{pick_yes, pick_no}
use mathlib.Core.Path.{refl, sym, ◌∙◌}
use Rattle.tau_fresh.proofs.refusals.create_refusal.Goals as goal

pub returns-then-partitions-lt1 : goal.returns-then-partitions-lt1
unfolding create_refusal settings_of
returns-then-partitions-lt1 c = pick_no _ _ _ (rw (lt-leb _ _ c.if-partitions-lt1.true)) refl

pub returns-then-partitions-gt32 : goal.returns-then-partitions-gt32
unfolding create_refusal settings_of
returns-then-partitions-gt32 c = pick_no _ _ _ (rw (le-leb _ _ c.if-partitions-lt1.false, lt-leb _ _ c.if-partitions-gt32.true)) refl

pub returns-then-not-sizes_fit : goal.returns-then-not-sizes_fit
unfolding create_refusal settings_of
returns-then-not-sizes_fit c = pick_yes _ _ _ (rw (le-leb _ _ c.if-partitions-lt1.false, le-leb _ _ c.if-partitions-gt32.false)) (pick_no _ _ _ (sym c.sizes_fit.ensures ∙ c.if-not-sizes_fit.true) refl)

pub returns : goal.returns
unfolding create_refusal settings_of
returns c = pick_yes _ _ _ (rw (le-leb _ _ c.if-partitions-lt1.false, le-leb _ _ c.if-partitions-gt32.false)) (pick_yes _ _ _ (sym c.sizes_fit.ensures ∙ c.if-not-sizes_fit.false) refl)
