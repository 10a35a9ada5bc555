use Rattle.std.proofs.Common.{rules}
use Rattle.laws.specs.Loops.{loops, iter-more}
use Rattle.tau_state.specs.Sums.{cross_of}
use Rattle.tau_state.proofs.sums.cross.Goals as goal

pub loop-k-init : goal.loop-k-init
unfolding cross_of
loop-k-init c = search (rules, loops)

pub loop-k-preserved : goal.loop-k-preserved
unfolding cross_of
loop-k-preserved c = rw iter-more (cc)
