-- M8 and M9: what the table holds at an entry, which antt computes. Assumes nothing.
use native.Mathlib.Omega.{arith}
use lib.Ieee.{nan}
use Rattle.trig.specs.Marked.{M8, M9}
use Rattle.trig.proofs.Computed.{computed}
use Rattle.trig.proofs.Entries.{recombination-at}

pub m8 : M8
unfolding computed
m8 = recombination-at 0 nan (omega arith)

pub m9 : M9
unfolding computed
m9 = recombination-at 256 nan (omega arith)
