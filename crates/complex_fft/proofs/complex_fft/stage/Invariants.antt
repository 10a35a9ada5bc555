use Rattle.std.specs.Prelude.{◌≡◌, ◌*◌}
use Rattle.laws.specs.Loops.{iter}
use Rattle.complex_fft.specs.ComplexFft.{block_at}
use Rattle.complex_fft.proofs.complex_fft.stage.Given as goal

abbrev pub invariant-loop-b : goal.invariant-loop-b
invariant-loop-b l = l.s ≡ iter (λ k m. block_at l.table l.inverse l.half l.stride (k * (2 * l.half)) m) l.initial.s l.b
