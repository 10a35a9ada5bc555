use Rattle.std.proofs.Common.{◌≡◌, ◌+◌, ◌*◌, get_or}
use Rattle.std.specs.Float.{nan}
use Rattle.laws.specs.Loops.{over}
use Rattle.rho_taps.specs.Peak.{with_size, lanes_of}
use Rattle.rho_taps.proofs.peak.lanes.Given as goal

abbrev pub invariant-loop-q : goal.invariant-loop-q
invariant-loop-q l = l.p ≡ over l.q (λ i a. with_size a (get_or l.xs (16 * l.b + i) nan)) l.initial.p

abbrev pub invariant-loop-b : goal.invariant-loop-b
invariant-loop-b l = l.p ≡ lanes_of l.xs l.b
