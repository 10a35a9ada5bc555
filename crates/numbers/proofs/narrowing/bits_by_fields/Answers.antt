-- `numbers::bits_by_fields` meets its contract: `narrow-bits-is` says what the bits are. Assumes nothing.
use Rattle.std.proofs.Common.{ℕ, ◌+◌, ◌*◌, ◌/◌, ◌^◌, T, sym, ap, ◌∙◌, subst, arith}
use lib.Ieee.{binary64, to_bits}
use lib.Ieee.Bits.{to_bits-lt}
use Rattle.numbers.proofs.Rounding.{narrow-bits-is}
use Rattle.numbers.proofs.narrowing.bits_by_fields.Goals as goal

pub float_to_bits-bits : goal.float_to_bits-bits
float_to_bits-bits c = c.requires

pub overflow_mul-sign : goal.overflow_mul-sign
overflow_mul-sign c = omega (arith, to_bits-lt binary64 c.args.x (subst T (sym c.well_formed.0.1) tt))

pub overflow_add-result : goal.overflow_add-result
overflow_add-result c = omega (arith, to_bits-lt binary64 c.args.x (subst T (sym c.well_formed.0.1) tt), c.magnitude.ensures.upper_bound)

pub overflow_cast-result : goal.overflow_cast-result
overflow_cast-result c = omega (arith, to_bits-lt binary64 c.args.x (subst T (sym c.well_formed.0.1) tt), c.magnitude.ensures.upper_bound)

pub returns : goal.returns
returns c = let b = to_bits binary64 c.args.x in
    ap (λ (z : ℕ). b / 2 ^ 63 * 2 ^ 31 + z) c.magnitude.ensures.value ∙ sym (narrow-bits-is c.args.x (subst T (sym c.well_formed.0.1) tt) c.requires)
