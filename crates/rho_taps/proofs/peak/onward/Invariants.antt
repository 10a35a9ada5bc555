use Rattle.std.proofs.Common.{◌≡◌, ◌+◌, get_or}
use Rattle.std.specs.Float.{nan}
use Rattle.laws.specs.Loops.{iter}
use Rattle.rho_taps.specs.Peak.{with_size}
use Rattle.rho_taps.proofs.peak.onward.Given as goal

abbrev pub invariant-loop-x : goal.invariant-loop-x
invariant-loop-x l = l.m ≡ iter (λ i a. with_size a (get_or l.xs (0 + i) nan)) l.p l.x-index
