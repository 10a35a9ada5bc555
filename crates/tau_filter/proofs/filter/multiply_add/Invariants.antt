use Rattle.std.proofs.Common.{◌≡◌}
use Rattle.tau_filter.specs.Filter.{added}
use Rattle.tau_filter.proofs.filter.multiply_add.Given as goal

abbrev pub invariant-loop-k : goal.invariant-loop-k
invariant-loop-k l = l.acc ≡ added l.w l.x l.k l.initial.acc
