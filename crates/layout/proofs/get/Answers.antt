use mathlib.Core.Path.{sym, ◌∙◌}
use Rattle.std.proofs.Common.{rules}
use Rattle.layout.proofs.Bins.{bin-one}
use Rattle.layout.proofs.get.Goals as goal

pub returns : goal.returns
returns c = c.new.ensures ∙ sym (bin-one _ _ (search rules) (search rules))
