use Rattle.std.proofs.Common.{◌≡◌, ◌*◌, length}
use Rattle.tau_spectra.specs.FarRing.{ring_in}
use Rattle.tau_update.specs.Update.{Learnt, learnt_to}
use Rattle.tau_update.proofs.update.learn.Given as goal

abbrev pub invariant-loop-p : goal.invariant-loop-p
invariant-loop-p l = (length l.shadow ≡ 514 * l.ring.partitions)
    × (◌≡◌ {A = Learnt} (record { weights = l.shadow; finite = l.finite; overs = l.overs }) (learnt_to (ring_in l.ring) l.e l.rates l.initial.shadow l.p))
