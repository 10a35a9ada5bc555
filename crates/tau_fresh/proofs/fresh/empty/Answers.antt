use Rattle.tau_fresh.specs.Fresh.{empty_of}
use Rattle.tau_fresh.proofs.fresh.empty.Goals as goal

pub returns : goal.returns
unfolding empty_of
returns c = rw (c.state.ensures, c.fresh_mic.ensures)
