-- Which far samples are no sound, and that a near -0.0 stays -0.0. Assumes nothing.
use mathlib.Core.Path.{◌≡◌, refl, sym, ap, subst}
use mathlib.Core.Bool.{true, false}
use lib.Ieee.{Float, binary32, eq, of_bits}
use Rattle.laws.specs.Choice.{pick, pick_no}
use Rattle.numbers.specs.Finite.{plus, is_finite, finite_or_zero}
use Rattle.numbers.specs.Zeros.{Zero, Still}
use Rattle.numbers.proofs.Zeros.{zero-of-eq}
use Rattle.numbers.proofs.Clean.{clean-same}

-- -0.0
abbrev pub minus : Float
minus = of_bits binary32 0x8000_0000

-- 0.0 and -0.0 are still.
pub still-zero : Still plus
unfolding finite_or_zero is_finite pick eq
still-zero = record { still = refl }

pub still-minus : Still minus
unfolding of_bits finite_or_zero is_finite pick eq
still-minus = record { still = refl }

-- What is not finite is still,
pub still-other : (y : Float) → is_finite y ≡ false → Still y
unfolding finite_or_zero eq
still-other y f = record { still = ap (λ (x : Float). eq x plus) (sym (pick_no _ y plus f refl)) }

-- and what is still and finite is a zero, of either sign.
pub still-finite : (y : Float) → Still y → is_finite y ≡ true → Zero y
still-finite y s f = subst Zero (clean-same y f) (zero-of-eq (finite_or_zero y) s.still)

-- A near sample -0.0 is read as -0.0.
pub minus-read : finite_or_zero minus ≡ minus
unfolding of_bits finite_or_zero is_finite pick
minus-read = refl
