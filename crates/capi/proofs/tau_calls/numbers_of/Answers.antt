-- `capi::tau_calls::numbers_of` has the report's numbers: the outcome's and the reason's, the overs and the leak. Assumes nothing.
use Rattle.tau_state.specs.Report.{report_of}
use Rattle.capi.proofs.tau_calls.numbers_of.Goals as goal

pub returns : goal.returns
unfolding report_of
returns c = rw (c.leak_of.ensures, c.overs_of.ensures, c.reason_number.ensures, c.number.ensures, c.outcome_of-outcome.ensures, c.reason_of-reason.ensures)
