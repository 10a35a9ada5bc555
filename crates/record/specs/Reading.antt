-- Reading: "9 for fewer than six bytes, then 7 for a wrong mark, 8 for a non-zero fourth byte, unknown kind or a length over 4,096 or not
-- fitting the kind, 9 for a short payload .. A refusal hands back an empty part". Definitions only, over the bytes s.
--     kind_in s, length_in s     the kind and the payload's length that the header says
--     marked_of s, headed_of s, whole_of s     the mark is right; the rest of the header is; the payload is there
--     header_refusal s          the refusal by the header alone, 0 where there is none
--     read_refusal s            the refusal
--     Found, read_of s          the answer by numbers: refusal, kind and size
--     payload_of s              the part that is handed back
use Rattle.std.specs.Prelude.{Bool, ◌&&◌, List, [], ℕ, ◌+◌, ◌*◌, eqb, leb, length, get_or, take, drop}
use Rattle.laws.specs.Choice.{pick}
use Rattle.record.specs.Record.{fits_of}

abbrev pub kind_in : List ℕ → ℕ
kind_in s = get_or s 2 0

abbrev pub length_in : List ℕ → ℕ
length_in s = get_or s 4 0 + 256 * get_or s 5 0

abbrev pub marked_of : List ℕ → Bool
marked_of s = eqb (get_or s 0 0) 236 && eqb (get_or s 1 0) 14

abbrev pub headed_of : List ℕ → Bool
headed_of s = eqb (get_or s 3 0) 0 && fits_of (kind_in s) (length_in s)

abbrev pub whole_of : List ℕ → Bool
whole_of s = leb (6 + length_in s) (length s)

unfoldable pub header_refusal : List ℕ → ℕ
header_refusal s = pick (leb 6 (length s)) (pick (marked_of s) (pick (headed_of s) 0 8) 7) 9

unfoldable pub read_refusal : List ℕ → ℕ
read_refusal s = let first = header_refusal s in pick (eqb first 0) (pick (whole_of s) 0 9) first

pub record Found : Type 0 where
  pub refusal : ℕ
  pub kind : ℕ
  pub size : ℕ

unfoldable pub read_of : List ℕ → Found
read_of s =
    let refusal = read_refusal s in
    pick (eqb refusal 0) (record { refusal = 0; kind = kind_in s; size = 6 + length_in s }) (record { refusal = refusal; kind = 0; size = 0 })

unfoldable pub payload_of : List ℕ → List ℕ
payload_of s = pick (eqb (read_refusal s) 0) (take (length_in s) (drop 6 s)) []
