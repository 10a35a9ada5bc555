-- How many bytes a block holds after a `fill`, whichever way it ended. Definitions only.
use Rattle.std.specs.Prelude.{ℕ, Ok, Err}
use Rattle.std.specs.declared.result.Result.{Result}
use Rattle.pipe.specs.declared.ReadFailed.{ReadFailed}

abbrev pub held_of : Result ℕ ReadFailed → ℕ
held_of (Ok held) = held
held_of (Err failed) = failed.held
