-- What each call promises: what it is given, then its answer, then what each lent buffer holds after. The contracts cite these names, and
-- crate promises proves that each admits one answer (Answers).
use Rattle.std.specs.Prelude.{◌≡◌, List, [], ℕ, Float}
use Rattle.rho.specs.declared.calls.Started.{Started}
use Rattle.rho.specs.declared.calls.Answer.{Answer}
use Rattle.rho_sample.specs.Sample.{Engine}
use Rattle.rho.specs.Calls.{create_of, process_of, flush_of, reset_of}

-- of the rate and the tail
abbrev pub Create : ℕ → ℕ → List Float → List Float → Started → List Float → List Float → Type 0
Create rate tail weights history r weights_after history_after =
    record { answer = r; weights = weights_after; history = history_after } ≡ create_of rate tail weights history

abbrev pub Reset : Engine → Started → List Float → List Float → Type 0
Reset e r weights_after history_after = record { answer = r; weights = weights_after; history = history_after } ≡ reset_of e

-- of near, far and out
abbrev pub Process : Engine → List Float → List Float → List Float → Answer → List Float → List Float → List Float → Type 0
Process e near far out r weights_after history_after out_after =
    record { answer = r; weights = weights_after; history = history_after; out = out_after } ≡ process_of e near far out

-- it is lent nothing to write
abbrev pub Flush : Engine → Answer → Type 0
Flush e r = record { answer = r; weights = e.weights; history = e.history; out = [] } ≡ flush_of e
