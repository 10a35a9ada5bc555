-- `capi::tau_calls::aspeyruni_tau_process` is what `tau::process_unreported` promises, with its answer as numbers. Assumes nothing.
use mathlib.Core.Path.{ap}
use Rattle.capi.specs.Tau.{hosted_of}
use Rattle.capi.proofs.tau_calls.aspeyruni_tau_process.Goals as goal

pub returns : goal.returns
returns c = rw c.numbers_of.ensures (ap hosted_of c.process_unreported.ensures)
