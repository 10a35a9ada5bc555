-- A stream of pairs: what `process` makes of it. Definitions only.
use Rattle.std.specs.Prelude.{List, [], ◌∷◌, Float}
use Rattle.numbers.specs.Finite.{finite_or_zero}
use Rattle.rho_sample.specs.Sample.{Engine, step_of}

pub record Run : Type 0 where
  pub engine : Engine
  pub samples : List Float

-- Pair by pair, "non-finite samples" read as 0.0: the engine after them, and a sample for each.
unfoldable pub pairs_of : Engine → List Float → List Float → Run
pairs_of e [] far = record { engine = e; samples = [] }
pairs_of e (x ∷ near) [] = record { engine = e; samples = [] }
pairs_of e (x ∷ near) (y ∷ far) =
    let t = step_of e (finite_or_zero x) (finite_or_zero y) in
    let rest = pairs_of t.engine near far in
    record { engine = rest.engine; samples = t.output ∷ rest.samples }
