-- `numbers::narrow_bits` meets its contract: the bits of what `narrow` gives. Assumes nothing.
use Rattle.std.proofs.Common.{ap, ◌∙◌}
use lib.Ieee.{binary32, to_bits}
use Rattle.numbers.proofs.narrowing.narrow_bits.Goals as goal

pub returns : goal.returns
returns c = c.to_bits.ensures ∙ ap (to_bits binary32) c.narrow.ensures
