use Rattle.std.proofs.Common.{rules, refl}
use Rattle.laws.specs.Loops.{loops, over-turn}
use Rattle.tau_spectra.specs.Powers.{four_on}
use Rattle.tau_spectra.proofs.powers.add_four.Goals as goal

pub loop-k-init : goal.loop-k-init
loop-k-init c = search (rules, loops)

pub loop-k-preserved : goal.loop-k-preserved
unfolding four_on
loop-k-preserved c = over-turn _ _ _ c.loop-k.invariant refl

pub returns : goal.returns
returns c = search (rules, loops)
