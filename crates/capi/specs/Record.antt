-- What a read leaves for a host: the answer, and the payload's place and length in the host's own bytes, since a part of them does not
-- cross to C. Definitions only.
use Rattle.std.specs.Prelude.{List, ℕ, ◌-◌, eqb}
use Rattle.laws.specs.Choice.{pick}
use Rattle.record.specs.Reading.{Found, read_of}
use Rattle.capi.specs.declared.record_calls.RecordRead.{RecordRead}

-- a payload stands behind the six bytes of its header, and ends with its record; the place and length of none are 0
abbrev pub placed_of : Found → RecordRead
placed_of r =
    pick (eqb r.refusal 0)
    (record { refusal = r.refusal; kind = r.kind; size = r.size; payload_at = 6; payload_len = r.size - 6 })
    (record { refusal = r.refusal; kind = r.kind; size = r.size; payload_at = 0; payload_len = 0 })

abbrev pub record_read_of : List ℕ → RecordRead
record_read_of s = placed_of (read_of s)
