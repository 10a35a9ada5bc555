-- What each call promises: what it is given, then its answer, then what each lent buffer holds after: shadow, output, spectra, powers,
-- out. The contracts cite these names, and crate promises proves that each admits one answer (Answers).
use Rattle.std.specs.Prelude.{◌≡◌, List, ℕ, Float}
use Rattle.tau_frame.specs.Pairs.{Engine}
use Rattle.recorded.specs.Recorded.{Recorded, feed_of, finish_of}

-- of the pairs' bytes and the buffer for records
abbrev pub Feed : Engine → List ℕ → List ℕ → Recorded → List Float → List Float → List Float → List Float → List ℕ → Type 0
Feed e pairs out r shadow_after output_after spectra_after powers_after out_after =
    record { answer = r; shadow = shadow_after; output = output_after; spectra = spectra_after; powers = powers_after; out = out_after } ≡ feed_of e pairs out

abbrev pub Finish : Engine → List ℕ → Recorded → List Float → List Float → List Float → List Float → List ℕ → Type 0
Finish e out r shadow_after output_after spectra_after powers_after out_after =
    record { answer = r; shadow = shadow_after; output = output_after; spectra = spectra_after; powers = powers_after; out = out_after } ≡ finish_of e out
