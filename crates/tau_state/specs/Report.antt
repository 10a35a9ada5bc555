-- "Process and flush also return a block report: transfers, resets, double talk, and an outcome, either no move, a rescue, or a move with
-- its leak as f64. .. Where none ran .. the outcome is a fourth case that says so and the rest is read from the state." Request K2 adds why,
-- and K8 how many samples went over. Definitions only.
use Rattle.std.specs.Prelude.{ℕ, Float}
use Rattle.tau_state.specs.Constants.{zero64}
use Rattle.tau_state.specs.declared.state.Mic.{Mic}
use Rattle.tau_state.specs.declared.report.Report.{Report}
use Rattle.tau_state.specs.declared.report.Last.{Last}
use Rattle.tau_state.specs.declared.report.Last.TheVariants.{NoneRan, Did}
use Rattle.tau_state.specs.declared.report.Outcome.{Outcome}
use Rattle.tau_state.specs.declared.report.Outcome.TheVariants.{NotRun, NoMove, Rescue, Move}
use Rattle.tau_state.specs.declared.report.Reason.{Reason}
use Rattle.tau_state.specs.declared.report.Reason.TheVariants.{NoBlock, FlushBlock, OutputDiverged, FarNotActive, NotEstablished, Rescued, QuietStreakShort, NoOutputPower, NoAdvantage, Moved}

-- the cases by number: no block, no move, a rescue, a move
unfoldable pub number_of : Outcome → ℕ
number_of NotRun = 0
number_of NoMove = 1
number_of Rescue = 2
number_of (Move leak) = 3

-- the leak, 0.0 where nothing moved
unfoldable pub leak_in : Outcome → Float
leak_in NotRun = zero64
leak_in NoMove = zero64
leak_in Rescue = zero64
leak_in (Move leak) = leak

-- K2: "the first that holds of no block run, flush block, output diverged, far not active, detector not established, rescued, quiet streak
-- below 6, output power not above 0, advantage not at least 0.1; otherwise moved, with its leak": the reasons by number, in this order
unfoldable pub reason_number : Reason → ℕ
reason_number NoBlock = 0
reason_number FlushBlock = 1
reason_number OutputDiverged = 2
reason_number FarNotActive = 3
reason_number NotEstablished = 4
reason_number Rescued = 5
reason_number QuietStreakShort = 6
reason_number NoOutputPower = 7
reason_number NoAdvantage = 8
reason_number (Moved leak) = 9

-- the outcome that a reason has
unfoldable pub outcome_of : Reason → Outcome
outcome_of NoBlock = NotRun
outcome_of FlushBlock = NoMove
outcome_of OutputDiverged = NoMove
outcome_of FarNotActive = NoMove
outcome_of NotEstablished = NoMove
outcome_of Rescued = Rescue
outcome_of QuietStreakShort = NoMove
outcome_of NoOutputPower = NoMove
outcome_of NoAdvantage = NoMove
outcome_of (Moved leak) = Move leak

-- the last block's reason
unfoldable pub reason_in : Last → Reason
reason_in NoneRan = NoBlock
reason_in (Did told) = told.reason

-- K8: "The block report everywhere gains one number, 0 where no block ran."
unfoldable pub overs_in : Last → ℕ
overs_in NoneRan = 0
overs_in (Did told) = told.overs

unfoldable pub report_of : Mic → Last → Report
report_of m last = record {
  transfers = m.transfers;
  divergence_resets = m.divergence_resets;
  double_talk = m.detector.double_talk;
  outcome = outcome_of (reason_in last);
  overs = overs_in last;
  last = last;
}
