-- What each call promises: what it is given, then its answer, then what each lent buffer holds after: shadow, output, spectra, powers,
-- bytes. The contracts cite these names, and crate promises proves that each admits one answer (Answers).
use Rattle.std.specs.Prelude.{◌≡◌, List, ℕ, Float}
use Rattle.tau.specs.declared.calls.Answer.{Answer}
use Rattle.tau_frame.specs.Pairs.{Engine}
use Rattle.capture.specs.Feeds.{fed_of, finished_of}

-- of the bytes held and the buffer for bytes
abbrev pub Feed : Engine → List ℕ → List ℕ → Answer → List Float → List Float → List Float → List Float → List ℕ → Type 0
Feed e held bytes r shadow_after output_after spectra_after powers_after bytes_after =
    record { answer = r; shadow = shadow_after; output = output_after; spectra = spectra_after; powers = powers_after; bytes = bytes_after } ≡ fed_of e held bytes

abbrev pub Finish : Engine → List ℕ → Answer → List Float → List Float → List Float → List Float → List ℕ → Type 0
Finish e bytes r shadow_after output_after spectra_after powers_after bytes_after =
    record { answer = r; shadow = shadow_after; output = output_after; spectra = spectra_after; powers = powers_after; bytes = bytes_after } ≡ finished_of e bytes
