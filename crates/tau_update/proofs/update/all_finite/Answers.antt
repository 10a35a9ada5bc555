use Rattle.tau_update.specs.Update.{finite_to}
use Rattle.laws.specs.Loops.{loops, iter-more}
use borrow.Author.Rules.{rules}
use Rattle.tau_update.proofs.update.all_finite.Goals as goal

pub loop-k-init : goal.loop-k-init
unfolding finite_to
loop-k-init c = search (rules, loops)

pub loop-k-preserved : goal.loop-k-preserved
unfolding finite_to
loop-k-preserved c = rw iter-more (cc)

pub returns : goal.returns
unfolding finite_to
returns c = search (rules, loops)
