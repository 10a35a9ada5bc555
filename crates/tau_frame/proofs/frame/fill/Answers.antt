use Rattle.std.proofs.Common.{arith, sym, ◌∙◌}
use Rattle.tau_frame.proofs.Waits.{filled_none, filled_next, filled-all}
use Rattle.tau_frame.proofs.frame.fill.Goals as goal

pub loop-k-init : goal.loop-k-init
loop-k-init c = filled_none _ _ _

pub loop-k-preserved : goal.loop-k-preserved
loop-k-preserved c = filled_next _ _ _ _ _ c.loop-k-test.true c.finite_or_zero.ensures ∙ c.loop-k.invariant

pub returns : goal.returns
returns c = sym (filled-all _ _ _ _ (omega arith)) ∙ c.loop-k.invariant
