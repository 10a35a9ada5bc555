use Rattle.tau_paths.specs.Paths.{compared}
use Rattle.tau_paths.proofs.paths.compare.Goals as goal

pub returns : goal.returns
unfolding compared
returns c = cc
