use mathlib.Core.Path.{◌≡◌}
use mathlib.Core.Bool.{true}
use Prim.Native.Nat.{ℕ, ◌<◌}
use lib.Ieee.{nan}
use lib.ListN.{get_or}
use Rattle.narrow_list.specs.Short.{Fit}
use Rattle.narrow_list.proofs.each_fits.Given as goal

abbrev pub invariant-loop-x : goal.invariant-loop-x
invariant-loop-x l = l.all ≡ true → (j : ℕ) → j < l.x-index → Fit (get_or l.xs j nan)
