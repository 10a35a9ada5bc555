-- `numbers::Float::from_bits` of f32 meets its contract: with the sign's bit taken off, a NaN's pattern is a number above the infinity's. Assumes nothing.
use Rattle.std.proofs.Common.{sym}
use lib.Ieee.{binary32, div, of_bits}
use Rattle.numbers.proofs.Tests.{bits-nan, bits-no-nan}
use Rattle.numbers.proofs.float.F32Float.from_bits.Goals as goal

pub returns-then-b-gt2139095040 : goal.returns-then-b-gt2139095040
unfolding div of_bits
returns-then-b-gt2139095040 c = sym (bits-nan binary32 c.args.b c.if-b-gt2139095040.true)

pub float_from_bits-result : goal.float_from_bits-result
float_from_bits-result c = bits-no-nan binary32 c.args.b c.if-b-gt2139095040.false
