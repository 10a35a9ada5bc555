use Rattle.std.proofs.Common.{◌≡◌}
use Rattle.tau_spectra.specs.Powers.{four_on}
use Rattle.laws.specs.Loops.{over}
use Rattle.tau_spectra.proofs.powers.add_four.Given as goal

abbrev pub invariant-loop-k : goal.invariant-loop-k
invariant-loop-k l = l.sum ≡ over l.k (four_on l.powers) l.initial.sum
