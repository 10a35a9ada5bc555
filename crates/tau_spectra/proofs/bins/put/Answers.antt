use lib.ListN.{length-set}
use native.Mathlib.Omega.{arith}
use Rattle.tau_spectra.proofs.bins.put.Goals as goal

pub bounds-s-k-2 : goal.bounds-s-k-2
bounds-s-k-2 c = simp length-set (omega arith)
