-- `narrow_list::short` meets its contract. Assumes nothing.
use Rattle.std.proofs.Common.{T, sym, ◌∙◌, subst}
use lib.Ieee.{binary64, fits}
use Rattle.numbers.proofs.Plain.{castable}
use Rattle.narrow_list.proofs.Fits.{fit-rounded, fit-number}
use Rattle.narrow_list.proofs.short.Goals as goal

pub float_to_float-result : goal.float_to_float-result
float_to_float-result c = let f : T (fits binary64 c.args.x) = subst T (sym c.well_formed.0.1) tt in castable _ (c.rounded.ensures ∙ fit-rounded c.args.x f c.requires) (fit-number c.args.x f c.requires)

pub returns : goal.returns
returns c = c.rounded.ensures ∙ fit-rounded c.args.x (subst T (sym c.well_formed.0.1) tt) c.requires
