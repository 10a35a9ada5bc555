use Rattle.tau_suppressor.specs.Suppressor.{average_of, averaged, shaped}
use native.Mathlib.Omega.{arith}
use lib.Ieee.{nan}
use Rattle.laws.specs.Loops.{over2-none, over2-next, over2-end}
use Rattle.laws.specs.Tables.{table_at}
use borrow.Author.Rules.{rules}
use Rattle.tau_suppressor.proofs.suppressor.shape.Goals as goal

pub loop-k-init : goal.loop-k-init
unfolding shaped averaged
loop-k-init c = (search rules, over2-none nan _ _ _)

pub loop-k-preserved : goal.loop-k-preserved
unfolding shaped averaged
loop-k-preserved c = (search rules, over2-next nan _ _ _ _ c.loop-k.invariant.1 (rw (c.put.ensures, c.scale-z.ensures, c.average.ensures, c.get.ensures, table_at 257 (average_of c.args.g.now) c.loop-k.k nan c.loop-k-test.true)))

pub returns : goal.returns
unfolding shaped averaged
returns c = over2-end nan _ _ _ _ _ c.loop-k.invariant.1 (omega arith) (omega arith)
