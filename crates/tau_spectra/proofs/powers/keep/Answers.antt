use Rattle.std.proofs.Common.{refl, ◌*◌}
use Rattle.laws.specs.Parts.{part-is, with-is}
use Rattle.tau_spectra.proofs.powers.keep.Goals as goal

pub returns : goal.returns
returns c = rw (with-is 257 (257 * c.args.slot) c.args.slot c.args.powers.now c.square.new.powers refl, c.square.ensures, part-is 514 (514 * c.args.slot) c.args.slot c.args.spectra.now refl)
