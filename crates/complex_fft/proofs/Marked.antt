-- M7: antt computes it. Assumes nothing.
use mathlib.Core.Path.{refl}
use Rattle.laws.specs.Tables.{table}
use Rattle.complex_fft.specs.Reversal.{reversal_table}
use Rattle.complex_fft.specs.Marked.{M7}

pub m7 : M7
unfolding reversal_table table
m7 = (refl, refl, refl)
