-- The numbers of the reasons. Assumes nothing.
use Rattle.std.proofs.Common.{◌≤◌, arith}
use Rattle.tau_state.specs.declared.report.Reason.{Reason}
use Rattle.tau_state.specs.declared.report.Reason.TheVariants.{NoBlock, FlushBlock, OutputDiverged, FarNotActive, NotEstablished, Rescued, QuietStreakShort, NoOutputPower, NoAdvantage, Moved}
use Rattle.tau_state.specs.Report.{reason_number}

pub most : (r : Reason) → reason_number r ≤ 9
unfolding reason_number
most NoBlock = omega arith
most FlushBlock = omega arith
most OutputDiverged = omega arith
most FarNotActive = omega arith
most NotEstablished = omega arith
most Rescued = omega arith
most QuietStreakShort = omega arith
most NoOutputPower = omega arith
most NoAdvantage = omega arith
most (Moved leak) = omega arith
