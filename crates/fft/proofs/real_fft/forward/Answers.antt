use Rattle.std.proofs.Common.{◌≡◌, ◌∙◌, arith, length}
use Rattle.trig.specs.Tables.{recombination}
use Rattle.fft.proofs.Served.{forward_own}
use Rattle.fft.proofs.real_fft.forward.Goals as goal

pub returns : goal.returns
returns c =
    let t : length recombination ≡ 514 = grind arith in
    (rw c.recombination-table.ensures at c.forward_with.ensures.forward_with) ∙ forward_own _ _ _ t (grind arith)
