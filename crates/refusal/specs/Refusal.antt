-- The refusals by their numbers. Definitions only.
use Rattle.std.specs.Prelude.{ℕ, Result, Ok, Err}
use Rattle.refusal.specs.declared.Refusal.{Refusal}
use Rattle.refusal.specs.declared.Refusal.TheVariants.{Settings, WrongLength, UnequalLengths, TooManyPairs, NoRoom, StateOutOfRange, NoMark, BadHeader, CutShort}

abbrev pub number_of : Refusal → ℕ
number_of Settings = 1
number_of WrongLength = 2
number_of UnequalLengths = 3
number_of TooManyPairs = 4
number_of NoRoom = 5
number_of StateOutOfRange = 6
number_of NoMark = 7
number_of BadHeader = 8
number_of CutShort = 9

-- of an answer: 0 where nothing is refused
abbrev pub number_in : {A : Type 0} → Result A Refusal → ℕ
number_in (Ok v) = 0
number_in (Err refusal) = number_of refusal
