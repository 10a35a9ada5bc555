use Rattle.std.specs.Prelude.{◌≡◌, ◌+◌}
use Rattle.laws.specs.Loops.{iter}
use Rattle.complex.specs.Complexes.{put_c}
use Rattle.self_sorting.specs.Passes.{small_of}
use Rattle.fft.proofs.real_fft.scale_points.Given as goal

abbrev pub invariant-loop-i : goal.invariant-loop-i
invariant-loop-i l = l.z ≡ iter (λ k m. put_c m (256 + k) (small_of m (l.first + k))) l.initial.z l.i
