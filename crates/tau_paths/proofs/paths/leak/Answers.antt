use Rattle.tau_paths.specs.Paths.{leak_of}
use Rattle.tau_paths.proofs.paths.leak.Goals as goal

pub returns : goal.returns
unfolding leak_of
returns c = rw c.min.ensures
