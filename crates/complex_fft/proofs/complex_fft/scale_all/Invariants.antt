use Rattle.std.specs.Prelude.{◌≡◌}
use Rattle.laws.specs.Loops.{iter}
use Rattle.std.specs.Float.{binary64}
use Rattle.std.specs.Float.Ieee.{of_bits}
use Rattle.complex.specs.Complexes.{get_c, put_c, scale_c}
use Rattle.complex_fft.proofs.complex_fft.scale_all.Given as goal

abbrev pub invariant-loop-i : goal.invariant-loop-i
invariant-loop-i l = l.s ≡ iter (λ k m. put_c m k (scale_c (get_c m k) (of_bits binary64 0x3f70_0000_0000_0000))) l.initial.s l.i
