-- The digits so far.
use Rattle.std.proofs.Common.{◌≡◌, take}
use Rattle.text.proofs.decimal.Given as goal

abbrev pub invariant-loop-digit : goal.invariant-loop-digit
invariant-loop-digit l = l.text.bytes ≡ take l.digit-index l.digit-items
