-- What process and flush of Tau leave for a host: the answer as numbers alone, which cross to C, the four lent buffers and the output
-- buffer. Definitions only.
use Rattle.std.specs.Prelude.{List, Float}
use Rattle.tau_state.specs.Report.{number_of, leak_in, reason_number, reason_in}
use Rattle.tau.specs.declared.calls.Answer.{Answer}
use Rattle.tau.specs.Calls.{Called}
use Rattle.capi.specs.declared.tau_calls.TauAnswer.{TauAnswer}

-- "If an answer is an enum, the promises use a definition that gives this paper's number and values for each of its cases": the outcome
-- and the reason by their numbers, and the leak, which is 0.0 where there is no move
abbrev pub numbers_of : Answer → TauAnswer
numbers_of a = record {
  refusal = a.refusal;
  delivered = a.delivered;
  state = a.state;
  transfers = a.report.transfers;
  divergence_resets = a.report.divergence_resets;
  double_talk = a.report.double_talk;
  outcome = number_of a.report.outcome;
  reason = reason_number (reason_in a.report.last);
  overs = a.report.overs;
  leak = leak_in a.report.outcome;
}

pub record Hosted : Type 0 where
  pub answer : TauAnswer
  pub shadow : List Float
  pub output : List Float
  pub spectra : List Float
  pub powers : List Float
  pub out : List Float

abbrev pub hosted_of : Called → Hosted
hosted_of c = record { answer = numbers_of c.answer; shadow = c.shadow; output = c.output; spectra = c.spectra; powers = c.powers; out = c.out }
