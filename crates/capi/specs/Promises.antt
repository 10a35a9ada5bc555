-- What `process` and `flush` of Tau promise a host: what each is given, then its answer as numbers, then what each lent buffer holds
-- after: shadow, output, spectra, powers, out. What reading a record promises: the bytes, then the answer. And what the kind of a narrowing is. Every
-- other function here has the promise of the function below it, by its name there. The contracts cite these names, and crate promises proves
-- that each admits one answer (Answers).
use Rattle.std.specs.Prelude.{◌≡◌, List, ℕ, Float}
use Rattle.numbers.specs.Narrowing.{kind_of, kind_number}
use Rattle.tau_frame.specs.Pairs.{Engine}
use Rattle.tau.specs.Calls.{process_of, flush_of}
use Rattle.capi.specs.declared.tau_calls.TauAnswer.{TauAnswer}
use Rattle.capi.specs.declared.record_calls.RecordRead as declared
use Rattle.capi.specs.Tau.{hosted_of}
use Rattle.capi.specs.Record.{record_read_of}

-- of near, far and out
abbrev pub TauProcess : Engine → List Float → List Float → List Float → TauAnswer → List Float → List Float → List Float → List Float → List Float → Type 0
TauProcess e near far out r shadow_after output_after spectra_after powers_after out_after =
    record { answer = r; shadow = shadow_after; output = output_after; spectra = spectra_after; powers = powers_after; out = out_after } ≡ hosted_of (process_of e near far out)

abbrev pub TauFlush : Engine → List Float → TauAnswer → List Float → List Float → List Float → List Float → List Float → Type 0
TauFlush e out r shadow_after output_after spectra_after powers_after out_after =
    record { answer = r; shadow = shadow_after; output = output_after; spectra = spectra_after; powers = powers_after; out = out_after } ≡ hosted_of (flush_of e out)

-- the kind of a narrowing by its number
abbrev pub NarrowKind : Float → ℕ → Type 0
NarrowKind x r = r ≡ kind_number (kind_of x)

abbrev pub RecordRead : List ℕ → declared.RecordRead → Type 0
RecordRead bytes r = r ≡ record_read_of bytes
