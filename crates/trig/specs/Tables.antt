-- The two tables of the transform. Definitions only.
use Rattle.std.specs.Prelude.{ℕ, List, Float}
use Rattle.laws.specs.Tables.{table2}
use Rattle.trig.specs.Trig.{det_sin, det_cos, angle}

-- "257 recombination entries, entry k at -TWO_PI*k/512": the real part, then the imaginary part of each
unfoldable pub recombination : List Float
recombination = table2 257 (λ k. det_cos (angle 512 k)) (λ k. det_sin (angle 512 k))

-- "128 twiddles, entry r at angle -TWO_PI*r/256": the parts of entry r
abbrev pub twiddle_re : ℕ → Float
twiddle_re r = det_cos (angle 256 r)

abbrev pub twiddle_im : ℕ → Float
twiddle_im r = det_sin (angle 256 r)
