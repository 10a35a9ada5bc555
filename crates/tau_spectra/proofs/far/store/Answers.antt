use Rattle.std.proofs.Common.{refl}
use Rattle.laws.specs.Parts.{with-is}
use Rattle.tau_spectra.proofs.far.store.Goals as goal

pub returns : goal.returns
returns c = cc (with-is 514 _ _ _ _ refl)
