-- What is held of the input, and what an answer says of it. Definitions only.
--     bytes_at from i     the block's bytes from a place on, up to where what is held ends
--     held_of i           the bytes held
--     IsStart i           an input of which nothing is read
--     Passed i n after    n of the bytes held are passed over, and nothing else changes
--     Handed place r i    the record r, where what is held began at this place of the input, and what is then held
--     Says place r i      any answer to who asks for a record
--     SaysAtOnce place r  what of that is known while the record is held
--     Found place r i     any answer to who asks whether there is one, which is still held
--     Grew i r after      a read: what was held stands at the block's front, and there is more of it, unless the input has ended
use Rattle.std.specs.Prelude.{◌≡◌, false, List, [], ℕ, suc, ◌+◌, ◌-◌, ◌<◌, length, take, drop, Result, Ok, Err, Option, None, Some}
use Rattle.laws.specs.Choice.{pick}
use Rattle.refusal.specs.Refusal as refusals
use Rattle.record.specs.declared.header.Header.{Header}
use Rattle.record.specs.Kind.{number_of}
use Rattle.record.specs.Reading.{read_of, payload_of}
use Rattle.pipe.specs.declared.program.ProgramError.TheVariants.{ReadFailed}
use Rattle.record_input.specs.declared.error.RecordsError.{RecordsError}
use Rattle.record_input.specs.declared.error.RecordsError.TheVariants.{Refused, Failed}
use Rattle.record_input.specs.declared.reading.Input.{Input}
use Rattle.record_input.specs.declared.reading.Record.{Record}
use Rattle.record_input.specs.Front as fronts
use Rattle.record_input.specs.Front.{front_of, place_after}

abbrev pub bytes_at : ℕ → Input → List ℕ
bytes_at from i = take (i.end - from) (drop from i.block)

abbrev pub held_of : Input → List ℕ
held_of i = bytes_at i.from i

-- nothing is read yet
abbrev pub IsStart : Input → Type 0
IsStart i = (held_of i ≡ []) × ((i.place ≡ 0) × (i.ended ≡ false))

-- what follows is held still, where it is
pub record Passed (i : Input) (n : ℕ) (after : Input) : Type 0 where
  pub block : after.block ≡ i.block
  pub from : after.from ≡ i.from + n
  pub end : after.end ≡ i.end
  pub place : after.place ≡ place_after i.place n
  pub ended : after.ended ≡ i.ended

-- it is what record reads at this place of the block, and what is held then begins behind it
pub record Handed (place : ℕ) (r : Record) (after : Input) : Type 0 where
  pub from : ℕ
  pub whole : read_of (bytes_at from after) ≡ record { refusal = 0; kind = number_of r.kind; size = 6 + length r.payload.now }
  pub payload : r.payload.now ≡ payload_of (bytes_at from after)
  pub rest : after.from ≡ from + (6 + length r.payload.now)
  pub begins : r.place ≡ place
  pub goes_on : after.place ≡ place_after place (6 + length r.payload.now)

abbrev pub Fails : ℕ → RecordsError → Input → Type 0
Fails place (Refused refusal at) i = (at ≡ place) × ((i.place ≡ place) × (front_of (held_of i) i.ended ≡ fronts.Refused (refusals.number_of refusal)))
Fails place (Failed error) i = (i.place ≡ place) × (error ≡ ReadFailed)

abbrev pub Ends : ℕ → Input → Type 0
Ends place i = (i.place ≡ place) × (front_of (held_of i) i.ended ≡ fronts.End)

abbrev pub Says : ℕ → Result (Option Record) RecordsError → Input → Type 0
Says place (Ok (Some r)) i = Handed place r i
Says place (Ok None) i = Ends place i
Says place (Err e) i = Fails place e i

-- what is known while the record is held: the answer says so of an Input, the one that is left then
pub record SaysAtOnce (place : ℕ) (r : Result (Option Record) RecordsError) : Type 0 where
  pub left : Input
  pub says : Says place r left

abbrev pub Found : ℕ → Result (Option Header) RecordsError → Input → Type 0
Found place (Ok (Some h)) i = (i.place ≡ place) × (read_of (held_of i) ≡ record { refusal = 0; kind = number_of h.kind; size = 6 + h.len })
Found place (Ok None) i = Ends place i
Found place (Err e) i = Fails place e i

-- how many turns of the loop are left at most: as many as the block has places free, and one more
abbrev pub turns_of : Input → ℕ
turns_of i = pick i.ended 0 (suc (length i.block - (i.end - i.from)))

abbrev pub Grew : Input → Result Unit RecordsError → Input → Type 0
Grew i (Ok u) after =
    (after.place ≡ i.place)
    × ((take (i.end - i.from) (held_of after) ≡ held_of i) × (turns_of after < turns_of i))
Grew i (Err e) after = (after.place ≡ i.place) × (e ≡ Failed ReadFailed)
