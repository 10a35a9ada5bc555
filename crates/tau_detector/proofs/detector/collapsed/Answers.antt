use Rattle.tau_detector.specs.Detector.{collapsed_of}
use Rattle.tau_detector.proofs.detector.collapsed.Goals as goal

pub returns : goal.returns
unfolding collapsed_of
returns c = rw c.max-margin.ensures
