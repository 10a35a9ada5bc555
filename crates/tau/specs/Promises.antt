-- What each call promises: what it is given, then its answer, then what each lent buffer holds after: shadow, output, spectra, powers, and
-- out where there is one. The contracts cite these names, and crate promises proves that each admits one answer (Answers).
use Rattle.std.specs.Prelude.{◌≡◌, Bool, List, ℕ, Float}
use Rattle.tau.specs.declared.calls.Started.{Started}
use Rattle.tau.specs.declared.calls.Answer.{Answer}
use Rattle.tau_frame.specs.Pairs.{Engine}
use Rattle.tau.specs.Calls.{create_of, process_of, flush_of, reset_of}

-- of the partitions, the flag for suppression and the four buffers
abbrev pub Create : ℕ → Bool → List Float → List Float → List Float → List Float → Started → List Float → List Float → List Float → List Float → Type 0
Create parts flag shadow output spectra powers r shadow_after output_after spectra_after powers_after =
    record { answer = r; shadow = shadow_after; output = output_after; spectra = spectra_after; powers = powers_after } ≡ create_of parts flag shadow output spectra powers

abbrev pub Reset : Engine → Started → List Float → List Float → List Float → List Float → Type 0
Reset e r shadow_after output_after spectra_after powers_after =
    record { answer = r; shadow = shadow_after; output = output_after; spectra = spectra_after; powers = powers_after } ≡ reset_of e

-- of near, far and out
abbrev pub Process : Engine → List Float → List Float → List Float → Answer → List Float → List Float → List Float → List Float → List Float → Type 0
Process e near far out r shadow_after output_after spectra_after powers_after out_after =
    record { answer = r; shadow = shadow_after; output = output_after; spectra = spectra_after; powers = powers_after; out = out_after } ≡ process_of e near far out

abbrev pub Flush : Engine → List Float → Answer → List Float → List Float → List Float → List Float → List Float → Type 0
Flush e out r shadow_after output_after spectra_after powers_after out_after =
    record { answer = r; shadow = shadow_after; output = output_after; spectra = spectra_after; powers = powers_after; out = out_after } ≡ flush_of e out
