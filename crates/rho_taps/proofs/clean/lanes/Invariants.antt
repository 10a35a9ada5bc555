use Rattle.std.proofs.Common.{◌≡◌}
use Rattle.laws.specs.Loops.{over}
use Rattle.rho_taps.proofs.NoNan.{lane}
use Rattle.rho_taps.proofs.clean.lanes.Given as goal

abbrev pub invariant-loop-k : goal.invariant-loop-k
invariant-loop-k l = l.s ≡ over l.k (λ j x. lane l.xs j) l.initial.s
