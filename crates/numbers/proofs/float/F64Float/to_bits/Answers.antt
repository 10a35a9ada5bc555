-- `numbers::Float::to_bits` of f64 meets its contract. Assumes nothing.
use Rattle.std.proofs.Common.{sym, ap, ◌∙◌}
use lib.Ieee.{binary64, to_bits}
use Rattle.numbers.proofs.Tests.{nan-test}
use Rattle.numbers.proofs.float.F64Float.to_bits.Goals as goal

pub returns-then-is_nan : goal.returns-then-is_nan
unfolding to_bits
returns-then-is_nan c = sym (ap (to_bits binary64) (nan-test c.args.self (sym c.is_nan.ensures.value ∙ c.if-is_nan.true)))
