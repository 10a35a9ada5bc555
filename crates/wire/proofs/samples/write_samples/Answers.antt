-- After i turns the first i places hold their bytes.
use Rattle.std.proofs.Common.{rules}
use Rattle.laws.specs.Loops.{over_none, over-next}
use Rattle.laws.specs.Readings.{over-clip}
use Rattle.wire.specs.Wire.{written_at}
use Rattle.wire.proofs.samples.write_samples.Goals as goal

pub loop-i-init : goal.loop-i-init
loop-i-init c = over_none _ _

pub loop-i-preserved : goal.loop-i-preserved
unfolding written_at
loop-i-preserved c = over-next 0 _ _ _ c.loop-i.invariant (search rules)

pub returns : goal.returns
returns c = over-clip _ _ _ _ _ c.loop-i.invariant c.loop-i.auto.i-end c.loop-i-test.false (search rules)
