-- A record: "the mark EC 0E (hex), a kind byte, a zero byte, a 16-bit little-endian payload length of at most 4,096, the payload. Kind 1
-- holds pairs (8 bytes each), 2 output samples (4 each), 3 flush and 4 reset (both empty)." Definitions only.
--     Byte b                  b is a byte: bytes are numbers here, and those of a buffer are below 256
--     fits_of kind n           whether a record of this kind may have a payload of n bytes
--     header_of kind n         the six bytes before a payload of n
--     record_of kind payload   a record's bytes
use Rattle.std.specs.Prelude.{Bool, false, ◌&&◌, List, [], ◌∷◌, ◌++◌, ℕ, ◌/◌, ◌%◌, ◌<◌, eqb, leb, length}
use Rattle.laws.specs.Choice.{pick}

abbrev pub Byte : ℕ → Type 0
Byte b = b < 256

unfoldable pub fits_of : ℕ → ℕ → Bool
fits_of kind n =
    leb n 4096
    && pick (eqb kind 1) (eqb (n % 8) 0)
    (pick (eqb kind 2) (eqb (n % 4) 0)
    (pick (eqb kind 3) (eqb n 0)
    (pick (eqb kind 4) (eqb n 0)
    false)))

-- (EC is 236 and 0E is 14)
abbrev pub header_of : ℕ → ℕ → List ℕ
header_of kind n = 236 ∷ 14 ∷ kind ∷ 0 ∷ n % 256 ∷ n / 256 ∷ []

abbrev pub record_of : ℕ → List ℕ → List ℕ
record_of kind payload = header_of kind (length payload) ++ payload
