-- K1. Records from the box: what is promised of a record, read and written, and of a capture made of records. Bytes are numbers below 256.
-- Statements; proved in proofs/Records.antt.
use Rattle.std.specs.Prelude.{◌≡◌, true, false, ◌&&◌, List, [], ◌∷◌, ◌++◌, ℕ, ◌+◌, ◌*◌, ◌%◌, ◌≤◌, ◌<◌, eqb, leb, length, get_or, take, drop}
use Rattle.laws.specs.Kinds.{All}
use Rattle.record.specs.Record.{Byte, fits_of, record_of}
use Rattle.record.specs.Reading.{read_of, payload_of}
use Rattle.record.specs.Writing.{write_of}
use Rattle.record.specs.Capture.{Record, Fits, joined_of, capture_of}
use Rattle.capi.specs.Record.{record_read_of}
use Rattle.promises.specs.Demand1.{first_of, test}

-- ---- what fits: "Kind 1 holds pairs (8 bytes each), 2 output samples (4 each), 3 flush and 4 reset (both empty)", "at most 4,096"

abbrev pub KindsFit : Type 0
KindsFit = (n : ℕ)
    → (fits_of 1 n ≡ leb n 4096 && eqb (n % 8) 0)
    × (fits_of 2 n ≡ leb n 4096 && eqb (n % 4) 0)
    × (fits_of 3 n ≡ leb n 4096 && eqb n 0)
    × (fits_of 4 n ≡ leb n 4096 && eqb n 0)
    × (fits_of 0 n ≡ false)
    × ((kind : ℕ) → 4 < kind → fits_of kind n ≡ false)

-- ---- reading

-- the payload's length in the header, "16-bit little-endian"
abbrev pub said : List ℕ → ℕ
said s = get_or s 4 0 + 256 * get_or s 5 0

-- "9 for fewer than six bytes, then 7 for a wrong mark, 8 for a non-zero fourth byte, unknown kind or a length over 4,096 or not fitting the
-- kind, 9 for a short payload"; EC is 236 and 0E is 14
abbrev pub ReadRefuses : Type 0
ReadRefuses = (s : List ℕ)
    → (read_of s).refusal ≡ first_of (
    test (leb 6 (length s)) 9
    ∷ test (eqb (get_or s 0 0) 236 && eqb (get_or s 1 0) 14) 7
    ∷ test (eqb (get_or s 3 0) 0 && fits_of (get_or s 2 0) (said s)) 8
    ∷ test (leb (6 + said s) (length s)) 9
    ∷ [])

-- an accepted read, and the part that is handed back
abbrev pub ReadGives : Type 0
ReadGives = (s : List ℕ) → (read_of s).refusal ≡ 0
    → (read_of s ≡ record { refusal = 0; kind = get_or s 2 0; size = 6 + said s }) × (payload_of s ≡ take (said s) (drop 6 s))

-- "A refusal hands back an empty part"
abbrev pub ReadRefused : Type 0
ReadRefused = (s : List ℕ) → ((read_of s).refusal ≡ 0 → ⊥)
    → (read_of s ≡ record { refusal = (read_of s).refusal; kind = 0; size = 0 }) × (payload_of s ≡ [])

-- where a host finds it: a part does not cross to C, and a place and a length stand for it
abbrev pub PayloadPlaced : Type 0
PayloadPlaced = (s : List ℕ) → payload_of s ≡ take (record_read_of s).payload_len (drop (record_read_of s).payload_at s)

-- ---- writing

-- "the writer gives 8, then 5"
abbrev pub WriteRefuses : Type 0
WriteRefuses = (kind : ℕ) (payload out : List ℕ)
    → (write_of kind payload out).refusal ≡ first_of (
    test (fits_of kind (length payload)) 8
    ∷ test (leb (6 + length payload) (length out)) 5
    ∷ [])

abbrev pub WriteGives : Type 0
WriteGives = (kind : ℕ) (payload out : List ℕ) → (write_of kind payload out).refusal ≡ 0
    → write_of kind payload out
    ≡ record { refusal = 0; written = 6 + length payload; out = record_of kind payload ++ drop (6 + length payload) out }

-- "A refusal .. writes nothing"
abbrev pub WriteRefused : Type 0
WriteRefused = (kind : ℕ) (payload out : List ℕ) → ((write_of kind payload out).refusal ≡ 0 → ⊥)
    → write_of kind payload out ≡ record { refusal = (write_of kind payload out).refusal; written = 0; out = out }

-- ---- the two together

-- "Any record written is read back the same", whatever follows it
abbrev pub WrittenReads : Type 0
WrittenReads = (kind : ℕ) (payload behind : List ℕ) → fits_of kind (length payload) ≡ true
    → (read_of (record_of kind payload ++ behind) ≡ record { refusal = 0; kind = kind; size = 6 + length payload })
    × (payload_of (record_of kind payload ++ behind) ≡ payload)

-- "an accepted record written again gives its bytes"
abbrev pub ReadWrites : Type 0
ReadWrites = (s out : List ℕ) → All Byte s → (read_of s).refusal ≡ 0
    → let size = (read_of s).size in
    size ≤ length out
    → write_of (read_of s).kind (payload_of s) out ≡ record { refusal = 0; written = size; out = take size s ++ drop size out }

-- ---- captures

-- The records of joined records are these records, and those of whatever follows them come after; a refusal is that of what follows, and its
-- place is counted on.
abbrev pub JoinedReads : Type 0
JoinedReads = (rs : List Record) (s : List ℕ) → All Fits rs
    → let behind = capture_of s in
    capture_of (joined_of rs ++ s)
    ≡ record { records = rs ++ behind.records; refusal = behind.refusal; place = length (joined_of rs) + behind.place }

-- by themselves: nothing is refused, and the place is their end
abbrev pub JoinedAlone : Type 0
JoinedAlone = (rs : List Record) → All Fits rs → capture_of (joined_of rs) ≡ record { records = rs; refusal = 0; place = length (joined_of rs) }

-- Of any bytes: what is found are records that fit, their bytes are the capture's up to the place, and from there on there is nothing, or bytes
-- that the reader refuses by that number. So no more can be read, and no less was.
abbrev pub CaptureReads : Type 0
CaptureReads = (s : List ℕ) → All Byte s
    → let c = capture_of s in
    All Fits c.records
    × (joined_of c.records ≡ take c.place s)
    × (c.refusal ≡ 0 → c.place ≡ length s)
    × ((c.refusal ≡ 0 → ⊥) → (c.place < length s) × ((read_of (drop c.place s)).refusal ≡ c.refusal))
