use Rattle.tau_detector.specs.Detector.{protect_of}
use borrow.Author.Rules.{rules}
use Rattle.tau_detector.proofs.detector.protect.Goals as goal

pub returns : goal.returns
unfolding protect_of
returns c = search rules
