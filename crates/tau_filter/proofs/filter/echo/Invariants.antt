use Rattle.std.proofs.Common.{◌≡◌}
use Rattle.tau_spectra.specs.FarRing.{ring_in}
use Rattle.tau_filter.specs.Filter.{echo_to}
use Rattle.tau_filter.proofs.filter.echo.Given as goal

abbrev pub invariant-loop-p : goal.invariant-loop-p
invariant-loop-p l = l.acc ≡ echo_to l.weights (ring_in l.ring) l.p
