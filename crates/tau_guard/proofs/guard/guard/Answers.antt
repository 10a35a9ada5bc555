use Rattle.tau_guard.specs.Guard.{guarded}
use Rattle.laws.specs.Choice.{pick_yes, pick_no}
use Rattle.tau_guard.proofs.guard.guard.Goals as goal

pub returns-then-not-tripped : goal.returns-then-not-tripped
unfolding guarded
returns-then-not-tripped c = pick_no _ _ _ (cc) (cc)

pub returns : goal.returns
unfolding guarded
returns c = pick_yes _ _ _ (cc) (rw (← c.energy.ensures, ← c.watch.ensures, ← c.retire_output.ensures, c.replace.ensures))
