use Rattle.std.proofs.Common.{rules, refl, ◌∙◌}
use lib.ListN.{length-set}
use Rattle.std.specs.Float.{nan}
use Rattle.laws.specs.Loops.{loops, over-turn, over-whole}
use Rattle.laws.specs.Readings.{over-copy}
use Rattle.tau_clears.proofs.weights.copy.Goals as goal

pub loop-k-init : goal.loop-k-init
loop-k-init c = search (rules, loops)

pub loop-k-preserved : goal.loop-k-preserved
loop-k-preserved c = (simp length-set c.loop-k.invariant.0, over-turn _ _ _ c.loop-k.invariant.1 refl)

pub returns : goal.returns
returns c = over-whole _ _ _ c.loop-k.invariant.1 (search rules) ∙ over-copy nan c.args.others.now c.args.weights.now (search rules)
