use Rattle.laws.specs.Choice.{pick}
use Rattle.tau_paths.proofs.paths.streak.Goals as goal

pub returns-then-on : goal.returns-then-on
unfolding pick
returns-then-on c = rw c.if-on.true c.one_more_32.ensures

pub returns : goal.returns
unfolding pick
returns c = rw c.if-on.false
