-- `numbers::Float::from_bits` of f64 meets its contract: with the sign's bit taken off, a NaN's pattern is a number above the infinity's. Assumes nothing.
use Rattle.std.proofs.Common.{sym}
use lib.Ieee.{binary64, div, of_bits}
use Rattle.numbers.proofs.Tests.{bits-nan, bits-no-nan}
use Rattle.numbers.proofs.float.F64Float.from_bits.Goals as goal

pub returns-then-b-gt9218868437227405312 : goal.returns-then-b-gt9218868437227405312
unfolding div of_bits
returns-then-b-gt9218868437227405312 c = sym (bits-nan binary64 c.args.b c.if-b-gt9218868437227405312.true)

pub float_from_bits-result : goal.float_from_bits-result
float_from_bits-result c = bits-no-nan binary64 c.args.b c.if-b-gt9218868437227405312.false
