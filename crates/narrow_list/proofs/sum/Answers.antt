-- `narrow_list::sum` meets its contract. Assumes nothing.
use mathlib.Core.Path.{◌∙◌}
use lib.Ieee.{binary64, add}
use Rattle.narrow_list.proofs.Lanes.{tree-same}
use Rattle.narrow_list.proofs.sum.Goals as goal

pub returns : goal.returns
returns c = c.total.ensures ∙ tree-same (add binary64) _ _ c.sums.ensures
