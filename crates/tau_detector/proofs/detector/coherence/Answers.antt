use Rattle.tau_detector.specs.Detector.{coherence_of}
use Rattle.laws.specs.Choice.{pick}
use Rattle.tau_detector.proofs.detector.coherence.Goals as goal

pub returns-then-near_energy : goal.returns-then-near_energy
unfolding coherence_of pick
returns-then-near_energy c = rw c.if-near_energy.true

pub returns-then-estimate_energy : goal.returns-then-estimate_energy
unfolding coherence_of pick
returns-then-estimate_energy c = rw (c.if-near_energy.false, c.if-estimate_energy.true)

pub returns-then-ratio : goal.returns-then-ratio
unfolding coherence_of pick
returns-then-ratio c = rw (c.if-near_energy.false, c.if-estimate_energy.false, c.if-ratio.true)

pub returns : goal.returns
unfolding coherence_of pick
returns c = rw (c.if-near_energy.false, c.if-estimate_energy.false, c.if-ratio.false)
