use Rattle.std.proofs.Common.{rules, ◌∙◌, ap}
use Rattle.std.specs.Float.{binary32}
use Rattle.std.specs.Float.Ieee.{of_bits}
use Rattle.wire.specs.Wire.{pattern_at, sample_at}
use Rattle.wire.proofs.pairs.sample.Goals as goal

pub returns : goal.returns
unfolding pattern_at sample_at
returns c = c.from_bits32.ensures ∙ ap (of_bits binary32) (c.from_le_bytes-pattern.ensures ∙ search rules)
