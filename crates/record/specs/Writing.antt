-- Writing: "the writer gives 8, then 5. A refusal .. writes nothing". Definitions only, over the kind, the payload and the buffer out.
--     write_refusal kind n room    the refusal for a payload of n bytes and a buffer of so many places, 0 where there is none
--     write_of kind payload out    the answer of any call. A record stands at the buffer's start, and what lies behind it stays
--     put_of bytes at out          out with some bytes put at a place of it
use Rattle.std.specs.Prelude.{List, ◌++◌, ℕ, ◌+◌, eqb, leb, length, take, drop}
use Rattle.laws.specs.Choice.{pick}
use Rattle.record.specs.Record.{fits_of, record_of}

unfoldable pub write_refusal : ℕ → ℕ → ℕ → ℕ
write_refusal kind n room = pick (fits_of kind n) (pick (leb (6 + n) room) 0 5) 8

-- the refusal, how many bytes are written, and the buffer after the call
pub record Wrote : Type 0 where
  pub refusal : ℕ
  pub written : ℕ
  pub out : List ℕ

unfoldable pub write_of : ℕ → List ℕ → List ℕ → Wrote
write_of kind payload out =
    let size = 6 + length payload in
    let refusal = write_refusal kind (length payload) (length out) in
    pick (eqb refusal 0) (record { refusal = 0; written = size; out = record_of kind payload ++ drop size out })
    (record { refusal = refusal; written = 0; out = out })

abbrev pub put_of : List ℕ → ℕ → List ℕ → List ℕ
put_of bytes at out = take at out ++ (bytes ++ drop (at + length bytes) out)
