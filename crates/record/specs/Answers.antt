-- The answers by numbers, of which the promises speak. Definitions only.
--     found_of r      of who reads: what is refused has kind 0 and size 0
--     written_of r    of who writes: what is refused has written nothing
use Rattle.std.specs.Prelude.{ℕ, ◌+◌, Result, Ok, Err}
use Rattle.refusal.specs.declared.Refusal.{Refusal}
use Rattle.refusal.specs.Refusal as refusals
use Rattle.record.specs.declared.header.Header.{Header}
use Rattle.record.specs.declared.writing.Written.{Written}
use Rattle.record.specs.Kind.{number_of}
use Rattle.record.specs.Reading.{Found}

abbrev pub found_of : Result Header Refusal → Found
found_of (Ok h) = record { refusal = 0; kind = number_of h.kind; size = 6 + h.len }
found_of (Err refusal) = record { refusal = refusals.number_of refusal; kind = 0; size = 0 }

abbrev pub written_of : Result ℕ Refusal → Written
written_of (Ok n) = record { refusal = 0; written = n }
written_of (Err refusal) = record { refusal = refusals.number_of refusal; written = 0 }
