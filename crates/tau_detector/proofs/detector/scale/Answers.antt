use Rattle.tau_detector.specs.Detector.{step_scale_of}
use Rattle.laws.specs.Choice.{pick}
use borrow.Author.Tests.{le-leb, lt-leb}
use Rattle.tau_detector.proofs.detector.scale.Goals as goal

pub returns-then-n-ge-DTD_ESTABLISH_BLOCKS : goal.returns-then-n-ge-DTD_ESTABLISH_BLOCKS
unfolding step_scale_of pick
returns-then-n-ge-DTD_ESTABLISH_BLOCKS c = rw (le-leb _ _ c.if-n-ge-DTD_ESTABLISH_BLOCKS.true) c.clamp.ensures

pub returns : goal.returns
unfolding step_scale_of pick
returns c = rw (lt-leb _ _ c.if-n-ge-DTD_ESTABLISH_BLOCKS.false)
