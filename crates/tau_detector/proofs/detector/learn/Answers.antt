use Rattle.tau_detector.specs.Detector.{learned}
use Rattle.tau_detector.proofs.detector.learn.Goals as goal

pub returns : goal.returns
unfolding learned
returns c = cc
