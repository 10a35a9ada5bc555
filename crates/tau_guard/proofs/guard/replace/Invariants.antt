use Rattle.std.proofs.Common.{◌≡◌}
use Rattle.tau_guard.specs.Guard.{replaced}
use Rattle.tau_guard.proofs.guard.replace.Given as goal

abbrev pub invariant-loop-i : goal.invariant-loop-i
invariant-loop-i l = l.block ≡ replaced l.near l.i l.initial.block
