use Rattle.laws.specs.Loops.{loops, iter-more}
use Rattle.tau_guard.specs.Powers.{followed}
use borrow.Author.Rules.{rules}
use Rattle.tau_guard.proofs.powers.hear_power.Goals as goal

pub loop-i-init : goal.loop-i-init
unfolding followed
loop-i-init c = search (rules, loops)

pub loop-i-preserved : goal.loop-i-preserved
unfolding followed
loop-i-preserved c = rw iter-more (cc)

pub returns : goal.returns
unfolding followed
returns c = search (rules, loops)
