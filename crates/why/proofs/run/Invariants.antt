use Rattle.std.proofs.Common.{◌≡◌, length}
use Rattle.why.proofs.run.Given as goal

abbrev pub invariant-loop : goal.invariant-loop
invariant-loop g l = length l.block ≡ 2048
