use Rattle.std.proofs.Common.{◌≡◌}
use Rattle.tau_spectra.specs.Far.{sounds}
use Rattle.tau_spectra.proofs.far.sounding.Given as goal

abbrev pub invariant-loop-sample : goal.invariant-loop-sample
invariant-loop-sample l = l.on ≡ sounds l.block l.sample-index
