-- `trig::reduced` meets its contract. Assumes nothing.
use Rattle.trig.specs.Trig.{reduced}
use Rattle.trig.proofs.trig.reduced.Goals as goal

pub returns : goal.returns
unfolding reduced
returns c = rw c.turns-k.ensures
