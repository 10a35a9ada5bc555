-- After k digits the value is the number that they spell.
use Rattle.std.proofs.Common.{◌≡◌}
use Rattle.cases.specs.Line.{number_at}
use Rattle.cases.proofs.case.field.Given as goal

abbrev pub invariant-loop-k : goal.invariant-loop-k
invariant-loop-k l = l.value ≡ number_at l.line l.start l.k
