use Rattle.std.proofs.Common.{◌≡◌, ◌≤◌, length}
use Rattle.watch.specs.Watched.{lent_at}
use Rattle.watch.proofs.Pieces.{Going}
use Rattle.watch.proofs.lent.pairs.Given as goal

abbrev pub invariant-loop-rest : goal.invariant-loop-rest
invariant-loop-rest g l =
    ((l.state.carried ≤ 255) × ((length l.shadow ≡ length l.initial.shadow) × ((length l.output ≡ length l.initial.output) × ((length l.spectra ≡ length l.initial.spectra) × (length l.powers ≡ length l.initial.powers)))))
    × Going (lent_at l.initial.state l.initial.course l.initial.shadow l.initial.output l.initial.spectra l.initial.powers l.initial.counts) l.bytes (lent_at l.state l.course l.shadow l.output l.spectra l.powers l.counts) l.rest

abbrev pub decreases-loop-rest : goal.decreases-loop-rest
decreases-loop-rest g l = length l.rest
