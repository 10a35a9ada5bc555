use Rattle.std.specs.Prelude.{◌≡◌, ◌+◌, ◌*◌}
use Rattle.laws.specs.Loops.{iter}
use Rattle.self_sorting.specs.Quads.{turns_of}
use Rattle.self_sorting.specs.Passes.{row_of}
use Rattle.self_sorting.proofs.passes.pass.Given as goal

abbrev pub invariant-loop-j : goal.invariant-loop-j
invariant-loop-j g l =
    l.z ≡ iter (λ j m. row_of (turns_of l.table l.inverse (g.row.STEP * j)) g.row.STEP (4 * g.row.STEP * j + g.row.FROM) (g.row.STEP * j + g.row.TO) m) l.initial.z l.j
