use Rattle.tau_suppressor.specs.Suppressor.{gained}
use Rattle.laws.specs.Loops.{loops, over-turn}
use borrow.Author.Rules.{rules}
use Rattle.tau_suppressor.proofs.suppressor.gains.Goals as goal

pub loop-k-init : goal.loop-k-init
unfolding gained
loop-k-init c = search (rules, loops)

pub loop-k-preserved : goal.loop-k-preserved
unfolding gained
loop-k-preserved c = over-turn _ _ _ c.loop-k.invariant (rw (c.gain.ensures, c.target-t.ensures))

pub returns : goal.returns
unfolding gained
returns c = search (rules, loops)
