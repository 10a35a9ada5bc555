-- `narrow_list::went_over` meets its contract: by the cases of `kind_of`. Assumes nothing.
use Rattle.std.proofs.Common.{◌≡◌, Bool, true, false, not, ◌&&◌, sym, ap, ◌∙◌}
use lib.Ieee.{Float}
use Rattle.numbers.specs.Finite.{is_finite}
use Rattle.numbers.specs.Narrowing.{narrow_of, kind_of}
use Rattle.numbers.proofs.Overs.{kind-over, kind-none}
use Rattle.narrow_list.specs.Overs.{is_over}
use Rattle.narrow_list.proofs.OverCounts.{finite-not}
use Rattle.narrow_list.proofs.went_over.Goals as goal

by-tests : (x y : Float) (b d : Bool) → y ≡ narrow_of x → b ≡ is_finite y → d ≡ is_finite x → (not b && d) ≡ is_over (kind_of x)
by-tests x y true d e p q = sym (finite-not x (sym (ap is_finite e) ∙ sym p))
by-tests x y false true e p q = ap is_over (kind-over x e (sym p) (sym q))
by-tests x y false false e p q = ap is_over (kind-none x (sym q))

pub returns : goal.returns
returns c = by-tests c.args.x c.args.y c.is_finite32.result c.is_finite.result c.requires c.is_finite32.ensures c.is_finite.ensures
