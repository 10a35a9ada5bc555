use Rattle.laws.specs.Choice.{pick_yes, pick_no}
use Rattle.std.proofs.Common.{refl}
use Rattle.tau_paths.specs.Paths.{weighed_if}
use Rattle.tau_paths.proofs.paths.weigh_if_run.Goals as goal

pub returns-then-runs : goal.returns-then-runs
unfolding weighed_if
returns-then-runs c = pick_yes _ _ _ (cc) (cc)

pub returns : goal.returns
unfolding weighed_if
returns c = pick_no _ _ _ (cc) (refl)
