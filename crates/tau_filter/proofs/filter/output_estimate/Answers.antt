use Rattle.laws.specs.Choice.{pick_yes, pick_no}
use Rattle.tau_filter.specs.Filter.{estimated}
use Rattle.tau_filter.proofs.filter.output_estimate.Goals as goal

pub returns-then-diverged : goal.returns-then-diverged
unfolding estimated
returns-then-diverged c = pick_yes _ _ _ (rw (← c.echo.ensures, ← c.later_half-overs.ensures.samples_after, ← c.errors-diverged.ensures.bad) c.if-diverged.true) (rw (← c.diverge.ensures, c.if-diverged.true, c.later_half-overs.ensures.overs, c.echo.ensures))

pub returns-else-diverged : goal.returns-else-diverged
unfolding estimated
returns-else-diverged c = pick_no _ _ _ (rw (← c.echo.ensures, ← c.later_half-overs.ensures.samples_after, ← c.errors-diverged.ensures.bad) c.if-diverged.false) (rw (c.if-diverged.false, c.errors-diverged.ensures.errors, c.later_half-overs.ensures.samples_after, c.later_half-overs.ensures.overs, c.echo.ensures))
