use Rattle.std.proofs.Common.{refl, ◌*◌}
use Rattle.laws.specs.Parts.{part-is}
use Rattle.tau_spectra.proofs.ring.FarRing.met_by.Goals as goal

pub returns-clause-spectrum : goal.returns-clause-spectrum
returns-clause-spectrum c = rw (part-is 514 (514 * c.slot_of-start.result) c.slot_of-start.result c.args.self.now.spectra.now refl, c.slot_of-start.ensures.slot)
