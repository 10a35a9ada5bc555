-- What the bytes held have at their front, by record's own answer. Definitions only.
--     front_of s over        the bytes s, behind which the input has ended or has not
--     front_in r             the answer that the code gives
--     place_after place n    the place n bytes on, and no more than 64 bits hold
use Rattle.std.specs.Prelude.{Bool, List, ℕ, ◌+◌, ◌-◌, ◌^◌, eqb, ltb, length, Result, Ok, Err}
use Rattle.laws.specs.Choice.{pick}
use Rattle.refusal.specs.declared.Refusal.{Refusal}
use Rattle.refusal.specs.Refusal as refusals
use Rattle.record.specs.Kind.{number_of}
use Rattle.record.specs.Reading.{read_of}
use Rattle.record_input.specs.declared.front.Front as declared
use Rattle.record_input.specs.declared.front.Front.TheVariants as front

-- a whole record by its kind and its size, and a refusal, by numbers
pub data Front : Type 0 where
  Whole : ℕ → ℕ → Front
  Begun : Front
  End : Front
  Refused : ℕ → Front

abbrev pub front_in : Result declared.Front Refusal → Front
front_in (Ok (front.Whole h)) = Whole (number_of h.kind) (6 + h.len)
front_in (Ok front.Begun) = Begun
front_in (Ok front.End) = End
front_in (Err refusal) = Refused (refusals.number_of refusal)

-- too few bytes are no refusal as long as more may come; and none at all are no refusal, but the end
unfoldable pub front_of : List ℕ → Bool → Front
front_of s over =
    let read = read_of s in
    pick (eqb read.refusal 0) (Whole read.kind read.size)
    (pick (eqb read.refusal 9) (pick over (pick (eqb (length s) 0) End (Refused 9)) Begun) (Refused read.refusal))

unfoldable pub place_after : ℕ → ℕ → ℕ
place_after place n = pick (ltb (2 ^ 64 - 1 - place) n) (2 ^ 64 - 1) (place + n)
