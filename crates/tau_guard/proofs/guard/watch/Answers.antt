use Rattle.tau_guard.specs.Guard.{watched}
use Rattle.tau_guard.proofs.guard.watch.Goals as goal

pub returns : goal.returns
unfolding watched
returns c = cc
