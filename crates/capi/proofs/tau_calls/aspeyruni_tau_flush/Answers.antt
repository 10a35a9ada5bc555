-- `capi::tau_calls::aspeyruni_tau_flush` is what `tau::flush_unreported` promises, with its answer as numbers. Assumes nothing.
use mathlib.Core.Path.{ap}
use Rattle.capi.specs.Tau.{hosted_of}
use Rattle.capi.proofs.tau_calls.aspeyruni_tau_flush.Goals as goal

pub returns : goal.returns
returns c = rw c.numbers_of.ensures (ap hosted_of c.flush_unreported.ensures)
