-- What the public function promises: what it is given, then its answer, then what the lent buffer holds after. The contract cites this
-- name, and crate promises proves that it admits one answer (Answers).
--     number_of e       the number of a refusal
--     sorted_by r       the answer as two numbers: the refusal, 0 where the manifest was sorted, and how many bytes were written
use Rattle.std.specs.Prelude.{◌≡◌, List, ℕ, Result, Ok, Err}
use Rattle.manifest.specs.declared.SortError.{SortError}
use Rattle.manifest.specs.declared.SortError.TheVariants.{TooLong, TooManyLines, NoRoom}
use Rattle.manifest.specs.Sorted.{answer_of}

pub record Sorted : Type 0 where
  pub refusal : ℕ
  pub written : ℕ

abbrev pub number_of : SortError → ℕ
number_of TooLong = 1
number_of TooManyLines = 2
number_of NoRoom = 3

abbrev pub sorted_by : Result ℕ SortError → Sorted
sorted_by (Ok n) = record { refusal = 0; written = n }
sorted_by (Err e) = record { refusal = number_of e; written = 0 }

abbrev pub Sort : List ℕ → List ℕ → Sorted → List ℕ → Type 0
Sort text out r after = record { refusal = r.refusal; written = r.written; out = after } ≡ answer_of text out
