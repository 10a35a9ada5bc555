-- What each public function promises: what it is given, then its answer, then what the lent buffer holds after. The contracts cite these
-- names, and crate promises proves that each admits one answer (Answers).
use Rattle.std.specs.Prelude.{◌≡◌, true, false, List, ℕ, Float}
use Rattle.complex.specs.declared.Complex.{Complex}
use Rattle.complex_fft.specs.declared.complex_fft.Wings.{Wings}
use Rattle.complex_fft.specs.Reversal.{reversal_table}
use Rattle.complex_fft.specs.ComplexFft.{wings_of}
use Rattle.complex_fft.specs.Calls.{complex_of}

abbrev pub ComplexForward : List Float → ℕ → List Float → Type 0
ComplexForward points r after = record { answer = r; out = after } ≡ complex_of false points

abbrev pub ComplexInverse : List Float → ℕ → List Float → Type 0
ComplexInverse points r after = record { answer = r; out = after } ≡ complex_of true points

abbrev pub ReversalTable : List ℕ → Type 0
ReversalTable r = r ≡ reversal_table

-- for the crates of the real transform
abbrev pub Butterfly : Complex → Complex → Complex → Wings → Type 0
Butterfly u v twiddle r = r ≡ wings_of u v twiddle
