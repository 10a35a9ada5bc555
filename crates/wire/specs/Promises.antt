-- What each public function promises: what it is given, then its answer or what the lent buffer holds after. The contracts cite these
-- names, and crate promises proves that each admits one answer (Answers).
use Rattle.std.specs.Prelude.{◌≡◌, List, ℕ, ◌+◌, ◌*◌, ◌/◌, ◌%◌, leb, Float, length, get_or}
use Rattle.laws.specs.Choice.{pick}
use Rattle.laws.specs.Loops.{over}
use Rattle.wire.specs.Wire.{pairs_in, sample_at, written_at}

abbrev pub WholePairs : List ℕ → ℕ → Type 0
WholePairs bytes r = r ≡ pairs_in bytes

abbrev pub ReadNear : List ℕ → List Float → List Float → Type 0
ReadNear bytes near after = after ≡ over (pairs_in bytes) (λ k x. sample_at bytes (2 * k)) near

abbrev pub ReadFar : List ℕ → List Float → List Float → Type 0
ReadFar bytes far after = after ≡ over (pairs_in bytes) (λ k x. sample_at bytes (2 * k + 1)) far

abbrev pub KeepRest : ℕ → List ℕ → List ℕ → Type 0
KeepRest held block after =
    after ≡ pick (leb held (length block)) (over (held % 8) (λ k x. get_or block (held / 8 * 8 + k) 0) block) block

abbrev pub WriteSamples : List Float → List ℕ → List ℕ → Type 0
WriteSamples samples bytes after = after ≡ over (4 * length samples) (λ i b. written_at samples i) bytes
