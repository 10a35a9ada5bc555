use Rattle.std.proofs.Common.{◌≡◌, ◌+◌, ◌*◌}
use Rattle.laws.specs.Loops.{over}
use Rattle.wire.specs.Wire.{sample_at}
use Rattle.wire.proofs.pairs.read_from.Given as goal

abbrev pub invariant-loop-k : goal.invariant-loop-k
invariant-loop-k l = l.to ≡ over l.k (λ j x. sample_at l.bytes (2 * j + l.first)) l.initial.to
