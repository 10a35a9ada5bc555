-- `numbers::narrow_told` meets its contract. Assumes nothing.
use Rattle.numbers.proofs.narrowing.narrow_told.Goals as goal

pub returns : goal.returns
returns c = rw (c.kind_of.ensures, c.narrow-value.ensures)
