-- `trig::cos_poly` meets its contract: the constants are the coefficients, which antt computes. Assumes nothing.
use lib.Ieee.{of_bits, of_int, neg, div}
use Rattle.trig.specs.Trig.{horner, cos_coefficients, cos_poly}
use Rattle.trig.proofs.trig.cos_poly.Goals as goal

pub returns : goal.returns
unfolding horner cos_coefficients cos_poly of_bits of_int neg div
returns c = c.horner.ensures
