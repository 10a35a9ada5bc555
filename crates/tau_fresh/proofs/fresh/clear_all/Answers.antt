use native.Mathlib.Omega.{arith}
use Rattle.tau_fresh.proofs.fresh.clear_all.Goals as goal

pub shape_of-powers : goal.shape_of-powers
shape_of-powers c = omega (arith, c.clear-4.auto)

pub returns : goal.returns
returns c = (c.clear.ensures, c.clear-2.ensures, c.clear-3.ensures, c.clear-4.ensures)
