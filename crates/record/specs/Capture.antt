-- A capture of records: bytes that are read record by record, as long as that goes. Definitions only.
--     Fits r             a record that may be written
--     bytes_of r          a record's bytes
--     joined_of rs        the bytes of records end to end
--     capture_of s        what the bytes s hold: as many records as can be read, then the first refusal and its place. Nothing is refused
--                        where the last record ends with the bytes, so none in an empty capture
-- A record starts where the one before it ends, so the place of any record is the length of those before it.
use Rattle.std.specs.Prelude.{◌≡◌, true, List, [], ◌∷◌, ◌++◌, ℕ, zero, suc, ◌+◌, eqb, length, drop}
use Rattle.laws.specs.Choice.{pick}
use Rattle.record.specs.Record.{fits_of, record_of}
use Rattle.record.specs.Reading.{read_of, payload_of}

pub record Record : Type 0 where
  pub kind : ℕ
  pub payload : List ℕ

abbrev pub Fits : Record → Type 0
Fits r = fits_of r.kind (length r.payload) ≡ true

abbrev pub bytes_of : Record → List ℕ
bytes_of r = record_of r.kind r.payload

unfoldable pub joined_of : List Record → List ℕ
joined_of [] = []
joined_of (r ∷ rs) = bytes_of r ++ joined_of rs

-- the refusal is 0 where there is none, and the place then the capture's end
pub record Capture : Type 0 where
  pub records : List Record
  pub refusal : ℕ
  pub place : ℕ

abbrev pub ended_of : Capture
ended_of = record { records = []; refusal = 0; place = 0 }

abbrev pub refused_of : ℕ → Capture
refused_of n = record { records = []; refusal = n; place = 0 }

-- a record of so many bytes, and the capture behind it
abbrev pub behind : Record → ℕ → Capture → Capture
behind r size c = record { records = r ∷ c.records; refusal = c.refusal; place = size + c.place }

-- at most `turns` records
unfoldable pub capture_in : ℕ → List ℕ → Capture
capture_in zero s = ended_of
capture_in (suc turns) s =
    let read = read_of s in
    let first : Record = record { kind = read.kind; payload = payload_of s } in
    pick (eqb (length s) 0) ended_of
    (pick (eqb read.refusal 0) (behind first read.size (capture_in turns (drop read.size s))) (refused_of read.refusal))

-- a record takes a byte at least, so there are no more of them than bytes
abbrev pub capture_of : List ℕ → Capture
capture_of s = capture_in (length s) s
