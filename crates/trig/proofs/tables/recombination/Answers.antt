-- `trig::recombination` meets its contract: antt computes the definition at each of the 514 places, and tests the constant's
-- number against it. Assumes nothing.
use mathlib.Core.Path.{refl}
use Rattle.laws.specs.Tables.{is-table2}
use Rattle.numbers.specs.Same.{same, same-eq}
use Rattle.trig.specs.Trig.{angle, det_sin, det_cos}
use Rattle.trig.specs.Tables.{recombination}
use Rattle.trig.proofs.Computed.{computed}
use Rattle.trig.proofs.tables.recombination.Goals as goal

pub returns : goal.returns
unfolding computed recombination
returns c = is-table2 same same-eq (λ k. det_cos (angle 512 k)) (λ k. det_sin (angle 512 k)) 257 _ refl tt
