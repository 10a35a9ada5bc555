use Rattle.tau_suppressor.specs.Suppressor.{sum_from}
use Rattle.laws.specs.Loops.{loops}
use borrow.Author.Rules.{rules}
use Rattle.tau_suppressor.proofs.suppressor.sum_from.Goals as goal

pub loop-k-init : goal.loop-k-init
unfolding sum_from
loop-k-init c = search (rules, loops)

pub loop-k-preserved : goal.loop-k-preserved
unfolding sum_from
loop-k-preserved c = search (rules, loops)

pub returns : goal.returns
unfolding sum_from
returns c = search (rules, loops)
