use Rattle.std.specs.Prelude.{◌≡◌, ◌/◌, ◌^◌}
use Rattle.laws.specs.Loops.{iter}
use Rattle.complex_fft.specs.ComplexFft.{stage_at}
use Rattle.complex_fft.proofs.complex_fft.all_stages.Given as goal

abbrev pub invariant-loop-k : goal.invariant-loop-k
invariant-loop-k l = l.s ≡ iter (λ j m. stage_at l.table l.inverse (2 ^ j) (128 / 2 ^ j) m) l.initial.s l.k
