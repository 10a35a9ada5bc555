-- `trig::turns` meets its contract: each way out by its test. Assumes nothing.
use mathlib.Core.Path.{refl}
use lib.Ieee.{of_bits}
use Rattle.laws.specs.Choice.{pick_yes, pick_no}
use Rattle.trig.specs.Trig.{turns}
use Rattle.trig.proofs.trig.turns.Goals as goal

pub returns-then-x : goal.returns-then-x
unfolding turns of_bits
returns-then-x c = pick_yes _ _ _ c.if-x.true refl

pub returns-else-x : goal.returns-else-x
unfolding turns of_bits
returns-else-x c = pick_no _ _ _ c.if-x.false refl
