-- What each public call leaves: its answer and every lent buffer but the scratch, of which a contract says only that a refused call
-- leaves it as it was. "the real transform (512 samples, 514 spectrum numbers) only 2", and 2 "returns its number .. and writes nothing".
use Rattle.std.specs.Prelude.{List, Bool, ◌&&◌, ℕ, eqb, length, take, drop, Float}
use Rattle.laws.specs.Choice.{pick}
use Rattle.trig.specs.Tables.{recombination}
use Rattle.complex_fft.specs.Reversal.{reversal_table}
pub use Rattle.complex_fft.specs.Calls.{Wrote}
use Rattle.fft.specs.RealFft.{spectrum_with, samples_with, overs_with}

-- at the two tables themselves
unfoldable pub spectrum_of : List Float → List Float
spectrum_of x = spectrum_with recombination reversal_table x

unfoldable pub samples_of : List Float → List Float
samples_of x = samples_with recombination reversal_table x

unfoldable pub overs_of : List Float → ℕ
overs_of x = overs_with recombination reversal_table x

-- after an inverse, which also tells how many of its 512 samples went over
pub record Sampled : Type 0 where
  pub answer : ℕ
  pub overs : ℕ
  pub out : List Float

unfoldable pub forward_of : List Float → List Float → Wrote
forward_of x out =
    pick (eqb (length x) 512 && eqb (length out) 514)
    (record { answer = 0; out = spectrum_of x })
    (record { answer = 2; out = out })

unfoldable pub inverse_of : List Float → List Float → Sampled
inverse_of x out =
    pick (eqb (length x) 514 && eqb (length out) 512)
    (record { answer = 0; overs = overs_of x; out = samples_of x })
    (record { answer = 2; overs = 0; out = out })

-- a table of the needed length, and a scratch of 1,024 numbers
unfoldable pub lent_of : List Float → List Float → Bool
lent_of t scratch = eqb (length t) 514 && eqb (length scratch) 1024

-- over a lent table
unfoldable pub forward_with_of : List Float → List Float → List Float → List Float → Wrote
forward_with_of t scratch x out =
    pick (lent_of t scratch && (eqb (length x) 512 && eqb (length out) 514))
    (record { answer = 0; out = spectrum_with t reversal_table x })
    (record { answer = 2; out = out })

unfoldable pub inverse_with_of : List Float → List Float → List Float → List Float → Sampled
inverse_with_of t scratch x out =
    pick (lent_of t scratch && (eqb (length x) 514 && eqb (length out) 512))
    (record { answer = 0; overs = overs_with t reversal_table x; out = samples_with t reversal_table x })
    (record { answer = 2; overs = 0; out = out })

-- the first or the later half of 512 samples
unfoldable pub half_of_samples : Bool → List Float → List Float
half_of_samples later x = pick later (drop 256 x) (take 256 x)

unfoldable pub half_with_of : List Float → List Float → List Float → Bool → List Float → Sampled
half_with_of t scratch x later out =
    pick (lent_of t scratch && (eqb (length x) 514 && eqb (length out) 256))
    (record { answer = 0; overs = overs_with t reversal_table x; out = half_of_samples later (samples_with t reversal_table x) })
    (record { answer = 2; overs = 0; out = out })
