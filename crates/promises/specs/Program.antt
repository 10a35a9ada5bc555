-- The program, from bytes to bytes: however a capture comes in reads, it writes the bytes of the whole capture's samples, flush last, and
-- no call is refused; and of a capture with no far sound it writes the near samples. The statements are those of specs/Program
-- in capture and recorded.
use Rattle.std.specs.Prelude.{◌≡◌, List, ℕ, ◌<◌, Float, length, get_or}
use Rattle.std.specs.Float.{nan}
use Rattle.laws.specs.Kinds.{All}
use Rattle.numbers.specs.Zeros.{Fits}
use Rattle.wire.specs.Wire.{sample_at, bytes_of}
use Rattle.capture.specs.Program.{Program, Singer}
use Rattle.recorded.specs.Program as recorded

abbrev pub Whole : Type 0
Whole = Program × Singer

-- and the bytes of samples, read again, are the samples, where each is an f32
abbrev pub ReadAgain : Type 0
ReadAgain = (xs : List Float) (k : ℕ) → All Fits xs → k < length xs → sample_at (bytes_of xs) k ≡ get_or xs k nan

-- The program that records its run: of an input in blocks of 512 pairs it writes records, and what they hold is this: the pairs as they
-- came, and what the program above writes of them. No call is refused, and who reads the bytes finds these records and nothing else.
abbrev pub Recorded : Type 0
Recorded = recorded.Program
