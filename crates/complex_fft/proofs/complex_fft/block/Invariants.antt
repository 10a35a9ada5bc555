use Rattle.std.specs.Prelude.{◌≡◌, ◌+◌, ◌*◌}
use Rattle.laws.specs.Loops.{iter}
use Rattle.complex_fft.specs.ComplexFft.{butterfly_at, twiddle_of}
use Rattle.complex_fft.proofs.complex_fft.block.Given as goal

abbrev pub invariant-loop-j : goal.invariant-loop-j
invariant-loop-j l = l.s ≡ iter (λ k m. butterfly_at (twiddle_of l.table l.inverse (k * l.stride)) (l.base + k) l.half m) l.initial.s l.j
