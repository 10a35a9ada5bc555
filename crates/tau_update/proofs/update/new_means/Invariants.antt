use mathlib.Core.Path.{◌≡◌}
use lib.Ieee.{nan}
use lib.ListN.{get_or}
use Rattle.tau_state.specs.Constants.{f0·98, smooth_by}
use Rattle.laws.specs.Loops.{over}
use Rattle.tau_update.proofs.update.new_means.Given as goal

abbrev pub invariant-loop-k : goal.invariant-loop-k
invariant-loop-k l = l.t ≡ over l.k (λ j mean. smooth_by f0·98 mean (get_or l.powers j nan)) l.initial.t
