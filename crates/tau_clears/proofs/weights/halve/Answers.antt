use Rattle.std.proofs.Common.{rules, arith, ◌∙◌}
use Rattle.laws.specs.Loops.{loops, over-whole}
use Rattle.laws.specs.Readings.{over-map}
use Rattle.tau_clears.specs.Weights.{halved}
use Rattle.tau_clears.proofs.weights.halve.Goals as goal

pub loop-weight-init : goal.loop-weight-init
loop-weight-init c = search (rules, loops)

pub loop-weight-preserved : goal.loop-weight-preserved
loop-weight-preserved c = search (rules, loops)

pub returns : goal.returns
unfolding halved
returns c = over-whole _ _ _ c.loop-weight.invariant (omega arith) ∙ over-map _ c.args.weights.now
