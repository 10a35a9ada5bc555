use Rattle.tau_update.specs.Update.{rates_of}
use mathlib.Core.Path.{◌≡◌, ◌∙◌}
use native.Mathlib.Omega.{arith}
use Rattle.laws.specs.Loops.{loops, over-turn}
use Rattle.laws.specs.Readings.{over-table}
use borrow.Author.Rules.{rules}
use Rattle.tau_update.proofs.update.rates.Goals as goal

pub loop-k-init : goal.loop-k-init
unfolding rates_of
loop-k-init c = search (rules, loops)

pub loop-k-preserved : goal.loop-k-preserved
unfolding rates_of
loop-k-preserved c = (search rules, over-turn _ _ _ c.loop-k.invariant.1 (rw c.rate.ensures))

pub returns : goal.returns
unfolding rates_of
returns c = let e : c.loop-k.k ≡ 257 = omega arith in rw e at c.loop-k.invariant.1 ∙ over-table 257 _ _ (search rules)
