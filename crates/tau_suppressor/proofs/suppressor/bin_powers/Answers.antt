use Rattle.tau_suppressor.specs.Suppressor.{powered}
use Rattle.laws.specs.Loops.{loops, over-turn}
use borrow.Author.Rules.{rules}
use Rattle.tau_suppressor.proofs.suppressor.bin_powers.Goals as goal

pub loop-k-init : goal.loop-k-init
unfolding powered
loop-k-init c = search (rules, loops)

pub loop-k-preserved : goal.loop-k-preserved
unfolding powered
loop-k-preserved c = over-turn _ _ _ c.loop-k.invariant (rw (c.smooth.ensures, c.power.ensures))

pub returns : goal.returns
unfolding powered
returns c = search (rules, loops)
