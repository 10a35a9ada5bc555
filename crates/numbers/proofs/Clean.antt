-- Laws of `finite_or_zero`, what an engine reads a sample as. Assumes nothing.
--     clean-finite     it is finite
--     clean-same       a finite sample is read as it is, -0.0 included
--     clean-fits       a sample of a format stays one
use Rattle.std.proofs.Common.{◌≡◌, true, T, sym, refl, subst}
use lib.Ieee.{Float, Format, binary32, binary64, fits}
use Rattle.laws.specs.Choice.{pick_yes, pick-if}
use Rattle.numbers.specs.Finite.{plus, is_finite, finite_or_zero}
use Rattle.numbers.specs.Zeros.{Finite}

plus-fits : (f : Format) → T (fits f plus)
unfolding fits
plus-fits binary32 = tt
plus-fits binary64 = tt

plus-finite : T (is_finite plus)
unfolding is_finite
plus-finite = tt

pub clean-finite : (x : Float) → Finite (finite_or_zero x)
unfolding finite_or_zero
clean-finite x = pick-if Finite (is_finite x) (λ h. record { finite = subst T (sym h) tt }) (λ _. record { finite = plus-finite })

pub clean-same : (x : Float) → is_finite x ≡ true → finite_or_zero x ≡ x
unfolding finite_or_zero
clean-same x h = sym (pick_yes (is_finite x) x plus h refl)

pub clean-fits : (f : Format) (x : Float) → T (fits f x) → T (fits f (finite_or_zero x))
unfolding finite_or_zero
clean-fits f x h = pick-if (λ y. T (fits f y)) (is_finite x) (λ _. h) (λ _. plus-fits f)
