-- `narrow_list::all_plain` meets its contract. Assumes nothing.
use mathlib.Core.Path.{sym, ◌∙◌}
use Rattle.narrow_list.proofs.Fits.{each-plain}
use Rattle.narrow_list.proofs.all_plain.Goals as goal

pub returns : goal.returns
returns c h = let e = sym c.plain_squares.ensures ∙ h in each-plain c.args.q.now c.requires (rw (c.least-lowest.ensures, c.sum.ensures) at e)
