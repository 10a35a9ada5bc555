use Rattle.std.specs.Prelude.{◌≡◌}
use Rattle.laws.specs.Loops.{iter}
use Rattle.complex_fft.specs.ComplexFft.{swap_step}
use Rattle.complex_fft.proofs.complex_fft.permute.Given as goal

abbrev pub invariant-loop-i : goal.invariant-loop-i
invariant-loop-i l = l.s ≡ iter (swap_step l.table) l.initial.s l.i
