use Rattle.tau_suppressor.specs.Suppressor.{averaged}
use mathlib.Core.Path.{◌≡◌}
use lib.Ieee.{nan}
use lib.ListN.{get_or, length}
use Rattle.complex.specs.Complexes.{new_c, scale_c}
use Rattle.laws.specs.Loops.{over2}
use Rattle.tau_suppressor.proofs.suppressor.shape.Given as goal

abbrev pub invariant-loop-k : goal.invariant-loop-k
invariant-loop-k l = (length l.s ≡ 514) × (l.s ≡ over2 nan l.k (λ j re im. (scale_c (new_c re im) (get_or (averaged l.g) j nan)).re) (λ j re im. (scale_c (new_c re im) (get_or (averaged l.g) j nan)).im) l.initial.s)
