-- The standard library's words for what Finite and Order define. Assumes nothing.
use Rattle.std.proofs.Common.{◌≡◌, refl, false}
use Rattle.std.specs.Float.{float_is_finite, float_with_sign}
use lib.Ieee.{Float, nan, inf, fin}
use Rattle.numbers.specs.Finite.{is_finite}
use Rattle.numbers.specs.Order.{abs_of}

pub finite_is : (x : Float) → float_is_finite x ≡ is_finite x
unfolding float_is_finite is_finite
finite_is nan = refl
finite_is (inf s) = refl
finite_is (fin s m e) = refl

pub size_is : (x : Float) → float_with_sign false x ≡ abs_of x
unfolding float_with_sign abs_of
size_is nan = refl
size_is (inf s) = refl
size_is (fin s m e) = refl
