use Rattle.std.proofs.Common.{rules, arith, ◌≡◌, ◌∙◌}
use Rattle.laws.specs.Loops.{loops, over-turn}
use Rattle.laws.specs.Readings.{over-table}
use Rattle.tau_spectra.specs.Powers.{powers_of}
use Rattle.tau_spectra.proofs.powers.square.Goals as goal

pub loop-k-init : goal.loop-k-init
loop-k-init c = search (rules, loops)

pub loop-k-preserved : goal.loop-k-preserved
loop-k-preserved c = over-turn _ _ _ c.loop-k.invariant (rw c.power.ensures)

pub returns : goal.returns
unfolding powers_of
returns c = let all : c.loop-k.k ≡ 257 = omega arith in rw all at c.loop-k.invariant ∙ over-table 257 _ _ (search rules)
