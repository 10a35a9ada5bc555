use Rattle.std.proofs.Common.{rules}
use Rattle.laws.specs.Loops.{loops}
use Rattle.tau_clears.specs.Weights.{leaked}
use Rattle.tau_clears.proofs.weights.leak_to.Goals as goal

pub loop-k-init : goal.loop-k-init
loop-k-init c = search (rules, loops)

pub loop-k-preserved : goal.loop-k-preserved
loop-k-preserved c = search (rules, loops)

pub returns : goal.returns
unfolding leaked
returns c = search (rules, loops)
