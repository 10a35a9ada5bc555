-- `numbers::is_plain` meets its contract: `plain-is` says what its square tells. Assumes nothing.
use Rattle.std.proofs.Common.{T, sym, ◌∙◌, subst}
use Rattle.numbers.proofs.Plain.{plain-is}
use Rattle.numbers.proofs.narrowing.is_plain.Goals as goal

pub returns : goal.returns
returns c = c.plain_squares.ensures ∙ plain-is c.args.x (subst T (sym c.well_formed.0.1) tt)
