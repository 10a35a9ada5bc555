use Rattle.std.specs.Prelude.{◌≡◌}
use Rattle.laws.specs.Loops.{iter}
use Rattle.complex.specs.Complexes.{get_c}
use Rattle.self_sorting.specs.Quads.{put_s}
use Rattle.fft.specs.RealFft.{halves_of}
use Rattle.fft.proofs.real_fft.load_halves.Given as goal

abbrev pub invariant-loop-i : goal.invariant-loop-i
invariant-loop-i g l = l.z ≡ iter (λ k m. put_s m k (get_c (halves_of l.table (g.B.Bins.in_pairs l.spectrum)) k)) l.initial.z l.i
