-- `narrow_list::all_fit` meets its contract. Assumes nothing.
use mathlib.Core.Path.{sym, ap, ◌∙◌, subst}
use lib.Ieee.{Float, binary64}
use Rattle.numbers.specs.Narrowing.{plain_squares}
use Rattle.numbers.specs.Ranges.{Power}
use Rattle.numbers.proofs.Ranged.{power-square}
use Rattle.narrow_list.proofs.Fits.{fit-square}
use Rattle.narrow_list.proofs.all_fit.Goals as goal

pub all_plain-requires : goal.all_plain-requires
all_plain-requires c k l = subst Power (sym (c.squares.ensures k l)) (power-square binary64 _)

pub returns-then-all_plain : goal.returns-then-all_plain
returns-then-all_plain c h k l = fit-square _ (c.type_inv.xs k) (ap (λ (q : Float). plain_squares q q) (sym (c.squares.ensures k l)) ∙ c.all_plain.ensures h k l)
