use Rattle.tau_spectra.specs.Windows.{slid}
use Rattle.tau_update.proofs.update.error_spectrum.Goals as goal

pub returns : goal.returns
unfolding slid
returns c = rw (c.spectrum.ensures, c.slide.ensures)
