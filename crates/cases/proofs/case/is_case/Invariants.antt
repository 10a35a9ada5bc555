-- After k bytes the flag says whether these fit.
use Rattle.std.proofs.Common.{◌≡◌, true, ◌&&◌, length, get_or}
use Rattle.laws.specs.Loops.{iter}
use Rattle.cases.specs.Line.{fits_at}
use Rattle.cases.proofs.case.is_case.Given as goal

abbrev pub invariant-loop-k : goal.invariant-loop-k
invariant-loop-k l = l.fits ≡ iter (λ j fit. fit && fits_at (length l.line) j (get_or l.line j 0)) true l.k
