use Rattle.std.proofs.Common.{◌≡◌}
use Rattle.tau_spectra.specs.Bins.{power_at}
use Rattle.laws.specs.Loops.{over}
use Rattle.tau_spectra.proofs.powers.square.Given as goal

abbrev pub invariant-loop-k : goal.invariant-loop-k
invariant-loop-k l = l.powers ≡ over l.k (λ j y. power_at l.spectrum j) l.initial.powers
