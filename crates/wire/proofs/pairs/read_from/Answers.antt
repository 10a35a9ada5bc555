-- After k turns the first k places hold their samples.
use Rattle.std.proofs.Common.{rules}
use Rattle.laws.specs.Loops.{over_none, over-turn}
use Rattle.laws.specs.Readings.{over-clip}
use Rattle.wire.proofs.pairs.read_from.Goals as goal

pub loop-k-init : goal.loop-k-init
loop-k-init c = over_none _ _

pub loop-k-preserved : goal.loop-k-preserved
loop-k-preserved c = over-turn _ _ _ c.loop-k.invariant (search rules)

pub returns : goal.returns
returns c = over-clip _ _ _ _ _ c.loop-k.invariant c.loop-k.auto.k-end c.loop-k-test.false (search rules)
