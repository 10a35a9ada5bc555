use Rattle.tau_spectra.specs.Bins.{power_at}
use Rattle.tau_spectra.proofs.bins.power.Goals as goal

pub returns : goal.returns
unfolding power_at
returns c = rw c.get-z.ensures
