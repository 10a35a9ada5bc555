use mathlib.Core.Path.{◌≡◌}
use Rattle.record_input.specs.Reading.{turns_of}
use Rattle.record_input.proofs.reading.Input.find.Given as goal

abbrev pub invariant-loop-header : goal.invariant-loop-header
invariant-loop-header g l = l.self.place ≡ l.initial.self.place

abbrev pub decreases-loop-header : goal.decreases-loop-header
decreases-loop-header g l = turns_of l.self
