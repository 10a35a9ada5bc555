-- The parts of a stream. Assumes nothing.
use mathlib.Core.List.{List, [], ◌∷◌}
use Prim.Native.Nat.{◌≤◌}
use native.Mathlib.Omega.{arith}
use lib.ListN.{length, length-append}
use Rattle.laws.specs.Kinds.{All, all_none, all_cons}
use Rattle.streams.specs.Parts.{Part, Level, Fair, all_near}

-- No part is longer than the whole.
pub parts-fair : (ps : List Part) → length (all_near ps) ≤ 4096 → All Level ps → All Fair ps
unfolding all_near
parts-fair [] h l = all_none
parts-fair (p ∷ ps) h l =
    let k = length-append p.near (all_near ps) in
    all_cons (record { level = l.each.0.level; few = omega arith }) (parts-fair ps (omega arith) (record { each = l.each.1 }))
