use Rattle.tau_update.specs.Update.{constrained}
use Rattle.tau_update.proofs.update.constrain.Goals as goal

pub returns : goal.returns
unfolding constrained
returns c = record {
  g_after = rw (c.spectrum.ensures, c.first_half-overs.ensures.samples_after);
  overs = c.first_half-overs.ensures.overs;
}
