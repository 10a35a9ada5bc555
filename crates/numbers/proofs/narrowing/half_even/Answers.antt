-- `numbers::half_even` meets its contract. The remainder against what it lacks of the unit says how twice the remainder compares with the unit. Assumes nothing.
use Rattle.std.proofs.Common.{le_of_lt, mod-lt, div-le_self, arith}
use Rattle.numbers.proofs.Rounding.{closest-down, closest-up, closest-tie}
use Rattle.numbers.proofs.narrowing.half_even.Goals as goal

pub overflow_sub-other : goal.overflow_sub-other
overflow_sub-other c = le_of_lt (mod-lt c.args.m c.requires.unit_positive)

pub returns-then-rest-other : goal.returns-then-rest-other
returns-then-rest-other c = closest-down c.args.m c.args.unit c.requires.unit_positive c.if-rest-other.true

pub overflow_add-result : goal.overflow_add-result
overflow_add-result c = let l = div-le_self c.args.m c.args.unit in omega (arith, l)

pub returns-then-other-rest : goal.returns-then-other-rest
returns-then-other-rest c = closest-up c.args.m c.args.unit c.requires.unit_positive c.if-other-rest.true

pub overflow_add-result-2 : goal.overflow_add-result-2
overflow_add-result-2 c = let l = div-le_self c.args.m c.args.unit in omega (arith, l)

pub returns : goal.returns
returns c = closest-tie c.args.m c.args.unit c.requires.unit_positive c.if-rest-other.false c.if-other-rest.false
