-- `narrow_list::is_fit` meets its contract. Assumes nothing.
use mathlib.Core.Path.{◌≡◌, sym}
use mathlib.Core.Bool.{Bool, true, false, ◌||◌}
use lib.Ieee.{Float, eq, of_bits}
use Rattle.numbers.specs.Finite.{plus}
use Rattle.numbers.specs.Narrowing.{is_plain}
use Rattle.numbers.proofs.Zeros.{zero-of-eq}
use Rattle.narrow_list.specs.Short.{Fit}
use Rattle.narrow_list.proofs.is_fit.Goals as goal

either : (x : Float) (p : Bool) → p ≡ is_plain x → (p || eq x plus) ≡ true → Fit x
either x true p h = Fit.plain (sym p)
either x false p h = Fit.none (zero-of-eq x h)

pub returns : goal.returns
unfolding of_bits
returns c h = either c.args.x c.is_plain.result c.is_plain.ensures h
