use Rattle.std.proofs.Common.{refl, ◌*◌}
use Rattle.laws.specs.Loops.{iter-next}
use Rattle.laws.specs.Parts.{part-is}
use Rattle.tau_spectra.specs.Powers.{kept_power_to}
use Rattle.tau_spectra.proofs.powers.far_power_of.Goals as goal

pub loop-slot-preserved : goal.loop-slot-preserved
unfolding kept_power_to
loop-slot-preserved c = iter-next _ _ _ c.loop-slot.invariant (rw (c.add_slot.ensures, part-is 257 (257 * c.loop-slot.slot) c.loop-slot.slot c.args.powers.now refl))
