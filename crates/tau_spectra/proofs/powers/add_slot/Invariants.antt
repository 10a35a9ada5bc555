use Rattle.std.proofs.Common.{◌≡◌, get_or}
use Rattle.std.specs.Float.{nan, binary64}
use Rattle.std.specs.Float.Ieee.{add}
use Rattle.laws.specs.Loops.{over}
use Rattle.tau_spectra.proofs.powers.add_slot.Given as goal

abbrev pub invariant-loop-k : goal.invariant-loop-k
invariant-loop-k l = l.sum ≡ over l.k (λ j a. add binary64 a (get_or l.powers j nan)) l.initial.sum
