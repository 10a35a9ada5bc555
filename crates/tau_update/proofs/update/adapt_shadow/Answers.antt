use Rattle.std.proofs.Common.{refl}
use Rattle.laws.specs.Choice.{pick_yes, pick_no}
use Rattle.tau_update.specs.Update.{updated}
use Rattle.tau_update.proofs.update.adapt_shadow.Goals as goal

pub returns-then-not-on : goal.returns-then-not-on
unfolding updated
returns-then-not-on c = pick_no _ _ _ c.if-not-on.true refl

pub returns-then-learned : goal.returns-then-learned
unfolding updated
returns-then-learned c = pick_yes _ _ _ c.if-not-on.false
    (rw (← c.error_spectrum.ensures, ← c.rates.ensures, ← c.new_means.ensures, ← c.learn-learned.ensures)
    (pick_yes _ _ _ c.if-learned.true refl))

pub returns : goal.returns
unfolding updated
returns c = pick_yes _ _ _ c.if-not-on.false
    (rw (← c.error_spectrum.ensures, ← c.rates.ensures, ← c.new_means.ensures, ← c.learn-learned.ensures)
    (pick_no _ _ _ c.if-learned.false (rw (← c.diverge_shadow.ensures))))
