use Rattle.tau_fresh.specs.Fresh.{fresh_of}
use Rattle.tau_fresh.proofs.fresh.fresh.Goals as goal

pub returns : goal.returns
unfolding fresh_of
returns c = rw (c.state.ensures, c.fresh_mic.ensures)
