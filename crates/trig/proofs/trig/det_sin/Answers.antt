-- `trig::det_sin` meets its contract: its steps, one after the other. Assumes nothing.
use Rattle.trig.specs.Trig.{det_sin}
use Rattle.trig.proofs.trig.det_sin.Goals as goal

pub returns : goal.returns
unfolding det_sin
returns c = rw (c.sin_poly.ensures, c.fold_sin.ensures, c.reduced.ensures)
