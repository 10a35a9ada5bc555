use mathlib.Core.Path.{refl}
use Rattle.laws.specs.Tables.{table}
use Rattle.complex_fft.specs.Reversal.{reversal_table}
use Rattle.complex_fft.proofs.reversal.reversal_table.Goals as goal

pub returns : goal.returns
unfolding reversal_table table
returns c = refl
