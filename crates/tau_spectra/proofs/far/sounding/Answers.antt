use Rattle.std.proofs.Common.{rules}
use Rattle.laws.specs.Loops.{loops}
use Rattle.tau_spectra.specs.Far.{sounds}
use Rattle.tau_spectra.proofs.far.sounding.Goals as goal

pub loop-sample-init : goal.loop-sample-init
unfolding sounds
loop-sample-init c = search (rules, loops)

pub loop-sample-preserved : goal.loop-sample-preserved
unfolding sounds
loop-sample-preserved c = search (rules, loops)

pub returns : goal.returns
unfolding sounds
returns c = search (rules, loops)
