use Rattle.std.proofs.Common.{rules}
use Rattle.laws.specs.Loops.{loops, iter-more}
use Rattle.tau_state.specs.Sums.{energy_of}
use Rattle.tau_state.proofs.sums.energy.Goals as goal

pub loop-k-init : goal.loop-k-init
unfolding energy_of
loop-k-init c = search (rules, loops)

pub loop-k-preserved : goal.loop-k-preserved
unfolding energy_of
loop-k-preserved c = rw iter-more (cc)
