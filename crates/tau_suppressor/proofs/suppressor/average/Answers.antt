use Rattle.tau_suppressor.specs.Suppressor.{average_of}
use Rattle.tau_suppressor.proofs.suppressor.average.Goals as goal

pub returns : goal.returns
unfolding average_of
returns c = rw (c.sum_from.ensures, c.span-n.ensures.0, c.first-lo.ensures)
