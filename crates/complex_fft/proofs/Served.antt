-- What a call leaves where the length is right: for the proofs of the crates above, which need not open a call's definition.
-- Assumes nothing.
use mathlib.Core.Path.{◌≡◌, refl, sym}
use mathlib.Core.Bool.{Bool}
use mathlib.Core.List.{List}
use borrow.Author.Tests.{eq-eqb}
use lib.Ieee.{Float}
use lib.ListN.{length}
use Rattle.laws.specs.Choice.{pick_yes}
use Rattle.trig.specs.Tables.{recombination}
use Rattle.complex_fft.specs.Reversal.{reversal_table}
use Rattle.complex_fft.specs.ComplexFft.{run_of}
use Rattle.complex_fft.specs.Calls.{complex_of}

pub complex-served : (inverse : Bool) (points : List Float) → length points ≡ 512
    → complex_of inverse points ≡ record { answer = 0; out = run_of recombination reversal_table inverse points }
unfolding complex_of
complex-served inverse points h = sym (pick_yes _ _ _ (eq-eqb _ _ h) refl)
