use Rattle.std.specs.Prelude.{◌≡◌}
use Rattle.std.specs.Float.{nan}
use Rattle.laws.specs.Loops.{over2}
use Rattle.self_sorting.specs.Passes.{points_of}
use Rattle.fft.specs.RealFft.{bin_of}
use Rattle.fft.proofs.real_fft.recombine.Given as goal

abbrev pub invariant-loop-k : goal.invariant-loop-k
invariant-loop-k g l =
    g.B.Bins.in_pairs l.out
    ≡ over2 nan l.k (λ j x y. (bin_of l.table (points_of l.z) j).re) (λ j x y. (bin_of l.table (points_of l.z) j).im) (g.B.Bins.in_pairs l.initial.out)
