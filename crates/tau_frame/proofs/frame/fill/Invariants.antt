use Rattle.std.proofs.Common.{◌≡◌, ◌+◌, drop}
use Rattle.tau_frame.specs.Filled.{filled_of}
use Rattle.tau_frame.proofs.frame.fill.Given as goal

abbrev pub invariant-loop-k : goal.invariant-loop-k
invariant-loop-k l = filled_of l.carry (l.at + l.k) (drop l.k l.samples) ≡ filled_of l.initial.carry l.at l.samples
