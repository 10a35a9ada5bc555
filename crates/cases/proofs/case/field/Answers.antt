-- `cases::field` meets its contract: after k digits the value is the number that they spell. Before the last one it is small
-- enough for a digit more. Assumes nothing.
use Rattle.std.proofs.Common.{rules}
use Rattle.laws.specs.Loops.{loops, iter-more}
use Rattle.cases.specs.Line.{number_at}
use Rattle.cases.proofs.Bounds.{room}
use Rattle.cases.proofs.case.field.Goals as goal

pub overflow_mul-value : goal.overflow_mul-value
overflow_mul-value c = search (rules, room _ _ c.loop-k.invariant c.loop-k-test.true)

pub overflow_add-value : goal.overflow_add-value
overflow_add-value c = search (rules, room _ _ c.loop-k.invariant c.loop-k-test.true)

pub loop-k-init : goal.loop-k-init
unfolding number_at
loop-k-init c = search (rules, loops)

pub loop-k-preserved : goal.loop-k-preserved
unfolding number_at
loop-k-preserved c = rw iter-more (cc)

pub returns : goal.returns
unfolding number_at
returns c = search (rules, loops)
