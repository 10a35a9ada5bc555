use Rattle.tau_paths.specs.Paths.{acted, settled, counted, shadow_after, output_after, is_rescue}
use Rattle.std.proofs.Common.{inl, inr}
use Rattle.tau_paths.proofs.paths.act.Goals as goal

pub returns-in-Rescue : goal.returns-in-Rescue
unfolding acted settled counted shadow_after output_after is_rescue
returns-in-Rescue c = rw (← c.in-Rescue.ensures, c.copy.ensures)

pub returns-in-Move : goal.returns-in-Move
unfolding acted settled counted shadow_after output_after is_rescue
returns-in-Move c = rw (← c.in-Move.ensures, c.leak_to.ensures, c.one_more.ensures)

pub returns-in-NoMove : goal.returns-in-NoMove
unfolding acted settled counted shadow_after output_after is_rescue
returns-in-NoMove c = elim c.in-NoMove.is [ inl e ↦ rw (← c.outcome_of.ensures, e) | inr e ↦ rw (← c.outcome_of.ensures, e) ]
