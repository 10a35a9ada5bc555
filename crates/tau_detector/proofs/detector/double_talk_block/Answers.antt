use Rattle.tau_detector.specs.Detector.{judged, stands}
use Rattle.laws.specs.Choice.{pick_yes, pick_no}
use mathlib.Core.Path.{refl}
use Rattle.tau_detector.proofs.detector.double_talk_block.Goals as goal

pub returns-then-is_evidence : goal.returns-then-is_evidence
unfolding judged stands
returns-then-is_evidence c = pick_yes _ _ _ c.if-is_evidence.true (cc)

pub returns-else-is_evidence : goal.returns-else-is_evidence
unfolding judged stands
returns-else-is_evidence c = pick_no _ _ _ c.if-is_evidence.false (refl)
