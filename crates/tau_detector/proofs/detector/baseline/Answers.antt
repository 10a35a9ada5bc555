use Rattle.tau_detector.specs.Detector.{baseline_of}
use Rattle.laws.specs.Choice.{pick}
use Rattle.tau_detector.proofs.detector.baseline.Goals as goal

pub returns-then-b-c : goal.returns-then-b-c
unfolding baseline_of pick
returns-then-b-c c = rw c.if-b-c.true c.smooth.ensures

pub returns : goal.returns
unfolding baseline_of pick
returns c = rw c.if-b-c.false c.smooth-2.ensures
