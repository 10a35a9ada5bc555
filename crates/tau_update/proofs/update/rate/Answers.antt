use Rattle.tau_update.specs.Update.{rate_of}
use Rattle.tau_update.proofs.update.rate.Goals as goal

pub returns : goal.returns
unfolding rate_of
returns c = rw c.factor.ensures
