-- M11: antt computes the first; the second is the leak's greatest. Assumes nothing.
use mathlib.Core.Path.{refl}
use lib.Ieee.{of_bits, mul, div, lt, is_nan}
use Rattle.laws.specs.Choice.{pick}
use Rattle.numbers.specs.Order.{min_of}
use Rattle.tau_paths.specs.Paths.{leak_of}
use Rattle.tau_steps.specs.Marked.{M11}
use Rattle.tau_steps.proofs.Bounds.{leak-most}

pub m11 : M11
unfolding leak_of min_of pick of_bits mul div lt is_nan
m11 = (refl, leak-most)
