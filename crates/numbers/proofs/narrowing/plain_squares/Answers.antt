-- `numbers::plain_squares` meets its contract: its tests are the definition's. Assumes nothing.
use Rattle.std.proofs.Common.{refl}
use lib.Ieee.{of_bits}
use Rattle.numbers.specs.Narrowing.{plain_squares}
use Rattle.numbers.proofs.narrowing.plain_squares.Goals as goal

pub returns : goal.returns
unfolding plain_squares of_bits
returns c = refl
