use Rattle.std.proofs.Common.{◌≡◌, ℕ, ◌+◌, ◌<◌, min, length, refl, eq-eqb, ne_eqb, ltb, arith, rules}
use Rattle.std.specs.Float.Ieee.{of_bits}
use borrow.Author.Tests.{ltb-true, ltb-false}
use Rattle.laws.specs.Choice.{pick_yes, pick_no, pick-if}
use Rattle.laws.specs.Counting.{one_more}
use Rattle.rho_taps.specs.Update.{adapted_of, cleared_of}
use Rattle.rho_taps.proofs.update.adapt.Goals as goal

-- one more, as `saturating_add` counts it
counted : (n : ℕ) → n < 18446744073709551616 → min (n + 1) 18446744073709551615 ≡ one_more n
unfolding one_more
counted n h =
    pick-if (λ (x : ℕ). min (n + 1) 18446744073709551615 ≡ x) (ltb n 18446744073709551615)
    (λ t. let l = ltb-true n 18446744073709551615 t in omega arith)
    (λ t. let l = ltb-false n 18446744073709551615 t in omega arith)

pub returns-then-not-fine : goal.returns-then-not-fine
unfolding adapted_of cleared_of of_bits
returns-then-not-fine c =
    pick_no _ _ _ c.if-not-fine.true
    (rw (c.fill.ensures.after (search rules), c.requires.weights_len, c.saturating_add.ensures, counted c.args.resets (search rules)) refl)

pub returns-then-freeze-ne0 : goal.returns-then-freeze-ne0
unfolding adapted_of cleared_of
returns-then-freeze-ne0 c = pick_yes _ _ _ c.if-not-fine.false (pick_no _ _ _ (ne_eqb _ _ c.if-freeze-ne0.true) refl)

pub returns-then-update : goal.returns-then-update
unfolding adapted_of cleared_of
returns-then-update c =
    pick_yes _ _ _ c.if-not-fine.false
    (pick_yes _ _ _ (eq-eqb _ _ c.if-freeze-ne0.false)
    (pick_yes _ _ _ (rw (← c.update.ensures.value) c.if-update.true) (rw c.update.ensures.weights_after)))

pub returns : goal.returns
unfolding adapted_of cleared_of of_bits
returns c =
    let k : length c.update.new.weights ≡ length c.args.history.now = omega (arith, c.requires.weights_len) in
    pick_yes _ _ _ c.if-not-fine.false
    (pick_yes _ _ _ (eq-eqb _ _ c.if-freeze-ne0.false)
    (pick_no _ _ _ (rw (← c.update.ensures.value) c.if-update.false)
    (rw (c.fill-2.ensures.after (search rules), k, c.saturating_add-2.ensures, counted c.args.resets (search rules)) refl)))
