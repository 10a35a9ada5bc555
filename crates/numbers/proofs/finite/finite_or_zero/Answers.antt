-- `numbers::finite_or_zero` meets its contract. Assumes nothing.
use lib.Ieee.{of_bits}
use Rattle.laws.specs.Choice.{pick_yes, pick_no}
use Rattle.numbers.specs.Finite.{finite_or_zero}
use Rattle.numbers.proofs.finite.finite_or_zero.Goals as goal

pub returns-then-is_finite : goal.returns-then-is_finite
unfolding finite_or_zero of_bits
returns-then-is_finite c = pick_yes _ _ _ (cc) (cc)

pub returns : goal.returns
unfolding finite_or_zero of_bits
returns c = pick_no _ _ _ (cc) (cc)
