use Rattle.std.proofs.Common.{◌≡◌, ◌∙◌, arith, length}
use Rattle.trig.specs.Tables.{recombination}
use Rattle.fft.proofs.Served.{inverse_own}
use Rattle.fft.proofs.real_fft.inverse.Goals as goal

pub returns : goal.returns
returns c =
    let t : length recombination ≡ 514 = grind arith in
    (rw c.recombination-table.ensures at c.inverse_with.ensures.inverse_with) ∙ inverse_own _ _ _ t (grind arith)
