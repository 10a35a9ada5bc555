-- What each public call leaves: its answer and the lent buffer. Document 01 leaves the lengths of the transform of 256 points open: it
-- refuses 2 as the real transform does, and 2 "returns its number .. and writes nothing".
use Rattle.std.specs.Prelude.{ℕ, List, Bool, eqb, length, Float}
use Rattle.laws.specs.Choice.{pick}
use Rattle.trig.specs.Tables.{recombination}
use Rattle.complex_fft.specs.Reversal.{reversal_table}
use Rattle.complex_fft.specs.ComplexFft.{run_of}

-- of a call that writes one buffer
pub record Wrote : Type 0 where
  pub answer : ℕ
  pub out : List Float

-- 256 complex points in place
unfoldable pub complex_of : Bool → List Float → Wrote
complex_of inverse points =
    pick (eqb (length points) 512)
    (record { answer = 0; out = run_of recombination reversal_table inverse points })
    (record { answer = 2; out = points })
