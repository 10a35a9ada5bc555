-- `wire::read_near` meets its contract. Assumes nothing.
use mathlib.Core.Path.{ap, ◌∙◌}
use Prim.Native.Nat.{◌*◌}
use native.Mathlib.Nat.{add-zero}
use Rattle.laws.specs.Readings.{over-cong}
use Rattle.wire.specs.Wire.{sample_at}
use Rattle.wire.proofs.pairs.read_near.Goals as goal

pub returns : goal.returns
returns c = c.read_from.ensures ∙ over-cong _ _ _ _ (λ k x l. ap (sample_at _) (add-zero (2 * k)))
