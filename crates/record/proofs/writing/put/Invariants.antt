use Rattle.std.proofs.Common.{◌≡◌, length, get_or}
use Rattle.laws.specs.Loops.{over}
use Rattle.record.proofs.writing.put.Given as goal

abbrev pub invariant-loop-k : goal.invariant-loop-k
invariant-loop-k l = (length l.out ≡ length l.initial.out) × (l.out ≡ over l.k (λ j y. get_or l.bytes j 0) l.initial.out)
