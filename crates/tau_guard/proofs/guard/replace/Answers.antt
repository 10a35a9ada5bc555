use Rattle.std.proofs.Common.{rules}
use Rattle.laws.specs.Loops.{loops}
use Rattle.tau_guard.specs.Guard.{replaced}
use Rattle.tau_guard.proofs.guard.replace.Goals as goal

pub loop-i-init : goal.loop-i-init
unfolding replaced
loop-i-init c = search (rules, loops)

pub loop-i-preserved : goal.loop-i-preserved
unfolding replaced
loop-i-preserved c = search (rules, loops)

pub returns : goal.returns
unfolding replaced
returns c = search (rules, loops)
