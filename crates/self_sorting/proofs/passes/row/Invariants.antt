use Rattle.std.specs.Prelude.{◌≡◌, ◌+◌}
use Rattle.laws.specs.Loops.{iter}
use Rattle.self_sorting.specs.Quads.{four_of, put_four, two_stages}
use Rattle.self_sorting.proofs.passes.row.Given as goal

abbrev pub invariant-loop-q : goal.invariant-loop-q
invariant-loop-q g l = l.z ≡ iter (λ k m. put_four m (l.to + k) (two_stages (four_of m (l.from + k) g.row.STEP) l.w)) l.initial.z l.q
