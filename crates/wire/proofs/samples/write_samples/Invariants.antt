use Rattle.std.proofs.Common.{◌≡◌}
use Rattle.laws.specs.Loops.{over}
use Rattle.wire.specs.Wire.{written_at}
use Rattle.wire.proofs.samples.write_samples.Given as goal

abbrev pub invariant-loop-i : goal.invariant-loop-i
invariant-loop-i l = l.bytes ≡ over l.i (λ k b. written_at l.samples k) l.initial.bytes
