use Rattle.std.proofs.Common.{◌≡◌}
use Rattle.laws.specs.Loops.{over}
use Rattle.tau_filter.specs.Filter.{error_at, bad_to}
use Rattle.tau_filter.proofs.filter.errors.Given as goal

abbrev pub invariant-loop-i : goal.invariant-loop-i
invariant-loop-i l = (l.bad ≡ bad_to l.near l.estimate l.i) × (l.error ≡ over l.i (λ k x. error_at l.near l.estimate k) l.initial.error)
