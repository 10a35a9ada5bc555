-- What each public function promises: what it is given, then its answer, then what the lent buffer holds after. The contracts cite these
-- names, and crate promises proves that each admits one answer (Answers).
use Rattle.std.specs.Prelude.{◌≡◌, List, ℕ}
use Rattle.record.specs.declared.writing.Written.{Written}
use Rattle.record.specs.Reading.{Found, read_of, payload_of}
use Rattle.record.specs.Writing.{write_of}

abbrev pub Read : List ℕ → Found → Type 0
Read bytes r = r ≡ read_of bytes

-- the part that is handed back
abbrev pub Payload : List ℕ → List ℕ → Type 0
Payload bytes part = part ≡ payload_of bytes

abbrev pub Write : ℕ → List ℕ → List ℕ → Written → List ℕ → Type 0
Write kind payload out r after = record { refusal = r.refusal; written = r.written; out = after } ≡ write_of kind payload out
