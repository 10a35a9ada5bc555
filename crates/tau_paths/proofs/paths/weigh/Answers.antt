use Rattle.tau_paths.specs.Paths.{weighed}
use Rattle.tau_paths.proofs.paths.weigh.Goals as goal

pub returns : goal.returns
unfolding weighed
returns c = cc
