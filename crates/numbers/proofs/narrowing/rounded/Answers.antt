-- `numbers::rounded` meets its contract: its operations are the definition's. Assumes nothing.
use Rattle.std.proofs.Common.{refl}
use lib.Ieee.{of_bits}
use Rattle.numbers.specs.Narrowing.{rounded_of}
use Rattle.numbers.proofs.narrowing.rounded.Goals as goal

pub returns : goal.returns
unfolding rounded_of of_bits
returns c = refl
