-- `trig::sin_poly` meets its contract: the constants are the coefficients, which antt computes. Assumes nothing.
use Rattle.std.proofs.Common.{ap}
use lib.Ieee.{Float, of_bits, of_int, neg, div}
use Rattle.trig.specs.Trig.{◌⊗◌, horner, sin_coefficients, sin_poly}
use Rattle.trig.proofs.trig.sin_poly.Goals as goal

pub returns : goal.returns
unfolding horner sin_coefficients sin_poly of_bits of_int neg div
returns c = ap (λ (p : Float). p ⊗ c.args.r) c.horner.ensures
