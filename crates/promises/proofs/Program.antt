-- The programs, from the theorems of capture and recorded. Assumes nothing.
use Rattle.wire.proofs.Captures.{read_again}
use Rattle.capture.proofs.Program.{program, singer}
use Rattle.recorded.proofs.Program as recorded-proofs
use Rattle.promises.specs.Program.{Whole, ReadAgain, Recorded}

pub whole : Whole
whole = (program, singer)

pub reads-again : ReadAgain
reads-again = read_again

pub recorded : Recorded
recorded = recorded-proofs.program
