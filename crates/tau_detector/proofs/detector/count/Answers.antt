use Rattle.tau_detector.specs.Detector.{count_of}
use Rattle.laws.specs.Choice.{pick}
use borrow.Author.Tests.{lt-ltb, le-ltb}
use Rattle.tau_detector.proofs.detector.count.Goals as goal

pub returns-then-n-lt-DTD_ESTABLISH_BLOCKS : goal.returns-then-n-lt-DTD_ESTABLISH_BLOCKS
unfolding count_of pick
returns-then-n-lt-DTD_ESTABLISH_BLOCKS c = rw (lt-ltb _ _ c.if-n-lt-DTD_ESTABLISH_BLOCKS.true)

pub returns-else-n-lt-DTD_ESTABLISH_BLOCKS : goal.returns-else-n-lt-DTD_ESTABLISH_BLOCKS
unfolding count_of pick
returns-else-n-lt-DTD_ESTABLISH_BLOCKS c = rw (le-ltb _ _ c.if-n-lt-DTD_ESTABLISH_BLOCKS.false)
