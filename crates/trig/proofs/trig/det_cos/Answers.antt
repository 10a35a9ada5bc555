-- `trig::det_cos` meets its contract: the fold and the sign by the way that control came. Assumes nothing.
use lib.Ieee.{of_bits}
use Rattle.laws.specs.Choice.{pick}
use Rattle.trig.specs.Trig.{fold_cos, sign_cos, det_cos}
use Rattle.trig.proofs.trig.det_cos.Goals.{then-r, else-r}
use Rattle.trig.proofs.trig.det_cos.Goals as goal

pub returns : goal.returns
unfolding pick fold_cos sign_cos det_cos of_bits
returns c =
    elim c.if-r.branch [
      | then-r w ↦ rw (c.cos_poly.ensures, w.r-is, w.sign-is, ← c.reduced.ensures, ← c.abs-r.ensures, w.if-r.true)
      | else-r w ↦ rw (c.cos_poly.ensures, w.r-is, w.sign-is, ← c.reduced.ensures, ← c.abs-r.ensures, w.if-r.false)
    ]
