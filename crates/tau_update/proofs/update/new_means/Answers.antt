use Rattle.tau_update.specs.Update.{means_of}
use Rattle.laws.specs.Loops.{loops, over-turn}
use borrow.Author.Rules.{rules}
use Rattle.tau_update.proofs.update.new_means.Goals as goal

pub loop-k-init : goal.loop-k-init
unfolding means_of
loop-k-init c = search (rules, loops)

pub loop-k-preserved : goal.loop-k-preserved
unfolding means_of
loop-k-preserved c = over-turn _ _ _ c.loop-k.invariant (rw c.smooth.ensures)

pub returns : goal.returns
unfolding means_of
returns c = search (rules, loops)
