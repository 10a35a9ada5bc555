-- A handle: `unfolding computed` opens every step of det_sin and det_cos, down to IEEE 754's operations, so that antt computes
-- them at a given angle. Assumes nothing.
use mathlib.Core.Bool.{Bool, true}
use lib.Ieee.{of_bits, of_int, neg, add, sub, mul, div, lt, eq}
use Rattle.laws.specs.Choice.{pick}
use Rattle.numbers.specs.Order.{abs_of}
use Rattle.trig.specs.Trig.{angle, turns, reduced, horner, fold_sin, sin_coefficients, sin_poly, det_sin, fold_cos, sign_cos, cos_coefficients, cos_poly, det_cos}

unfoldable pub computed : Bool
unfolding angle turns reduced horner fold_sin sin_coefficients sin_poly det_sin fold_cos sign_cos cos_coefficients cos_poly det_cos pick abs_of of_bits of_int neg add sub mul div lt eq
computed = true
