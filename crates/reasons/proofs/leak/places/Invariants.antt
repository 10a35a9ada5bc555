-- The places that are still to come, behind those that stand, are all.
use Rattle.std.proofs.Common.{◌≡◌, ◌-◌, ◌<◌, ◌≤◌, ◌++◌, length}
use Rattle.reasons.specs.Leak.{places_of}
use Rattle.reasons.proofs.leak.places.Given as goal

abbrev pub invariant-loop : goal.invariant-loop
invariant-loop l = (l.rest < 1000000) × (l.counter ≤ 6) × (length l.digits.bytes ≤ l.counter) × (l.digits.bytes ++ places_of (6 - l.counter) l.rest ≡ places_of 6 l.behind)
