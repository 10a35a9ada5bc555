use Rattle.tau_update.specs.Update.{stepped}
use Rattle.laws.specs.Loops.{loops}
use borrow.Author.Rules.{rules}
use Rattle.tau_update.proofs.update.take_step.Goals as goal

pub loop-k-init : goal.loop-k-init
unfolding stepped
loop-k-init c = search (rules, loops)

pub loop-k-preserved : goal.loop-k-preserved
unfolding stepped
loop-k-preserved c = search (rules, loops)

pub returns : goal.returns
unfolding stepped
returns c = search (rules, loops)
