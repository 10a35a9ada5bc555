-- What each public function promises: what it is given, then its answer, then what the buffer for the result holds after. The contracts
-- cite these names, and crate promises proves that each admits one answer (Answers).
use Rattle.std.specs.Prelude.{◌≡◌, Bool, List, ℕ, Float, Result, Ok, Err}
use Rattle.refusal.specs.declared.Refusal.{Refusal}
use Rattle.refusal.specs.Refusal.{number_of}
use Rattle.fft.specs.declared.real_fft.Inverted.{Inverted}
use Rattle.fft.specs.Calls.{forward_of, inverse_of, forward_with_of, inverse_with_of, half_with_of}

abbrev pub Forward : List Float → List Float → ℕ → List Float → Type 0
Forward x out r after = record { answer = r; out = after } ≡ forward_of x out

abbrev pub Inverse : List Float → List Float → Inverted → List Float → Type 0
Inverse x out r after = record { answer = r.refusal; overs = r.overs; out = after } ≡ inverse_of x out

-- ---- over a lent table t and a lent scratch

abbrev pub ForwardWith : List Float → List Float → List Float → List Float → ℕ → List Float → Type 0
ForwardWith t scratch x out r after = record { answer = r; out = after } ≡ forward_with_of t scratch x out

abbrev pub InverseWith : List Float → List Float → List Float → List Float → Inverted → List Float → Type 0
InverseWith t scratch x out r after = record { answer = r.refusal; overs = r.overs; out = after } ≡ inverse_with_of t scratch x out

abbrev pub InverseHalfWith : List Float → List Float → List Float → Bool → List Float → Inverted → List Float → Type 0
InverseHalfWith t scratch x later out r after = record { answer = r.refusal; overs = r.overs; out = after } ≡ half_with_of t scratch x later out

-- What these three promise of the scratch besides: a refused call leaves it as it was. What an accepted one leaves there is open.
abbrev pub RefusedKeeps : List Float → ℕ → List Float → Type 0
RefusedKeeps scratch r after = r ≡ 2 → after ≡ scratch

-- an inverse's answer as C has it: its number, and how many samples went over, 0 where it is refused
abbrev pub inverted_of : Result ℕ Refusal → Inverted
inverted_of (Ok overs) = record { refusal = 0; overs = overs }
inverted_of (Err refusal) = record { refusal = number_of refusal; overs = 0 }
