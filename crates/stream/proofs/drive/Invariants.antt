use Rattle.std.proofs.Common.{◌≡◌, ◌<◌, length}
use Rattle.stream.proofs.drive.Given as goal

abbrev pub invariant-loop : goal.invariant-loop
invariant-loop g l = (l.left < 8) × (length l.block ≡ 32776)
