-- `cases::is_case` meets its contract: after k bytes the flag says whether these fit. Assumes nothing.
use Rattle.std.proofs.Common.{rules}
use Rattle.laws.specs.Loops.{loops, iter-more}
use Rattle.cases.specs.Line.{is_case}
use Rattle.cases.proofs.case.is_case.Goals as goal

pub loop-k-init : goal.loop-k-init
unfolding is_case
loop-k-init c = search (rules, loops)

pub loop-k-preserved : goal.loop-k-preserved
unfolding is_case
loop-k-preserved c = rw iter-more (cc)

pub returns : goal.returns
unfolding is_case
returns c = search (rules, loops)
