-- The self-sorting form of the eight stages, two stages a pass, from one half of a scratch of 1,024 numbers to the other: what each
-- function of src/passes does. That the four passes give what `stages` gives of the swapped points is proved in proofs/Sorting.
use Rattle.std.specs.Prelude.{ℕ, ◌+◌, ◌*◌, List, Bool, Float}
use Rattle.std.specs.Float.{binary64}
use Rattle.std.specs.Float.Ieee.{of_bits}
use Rattle.laws.specs.Loops.{iter}
use Rattle.laws.specs.Tables.{table2}
use Rattle.complex.specs.declared.Complex.{Complex}
use Rattle.complex.specs.Complexes.{get_c, scale_c}
use Rattle.self_sorting.specs.declared.quads.Turns.{Turns}
use Rattle.self_sorting.specs.Quads.{get_s, put_s, four_of, put_four, two_stages, turns_of}

-- points that lie real part then imaginary, into the first half
unfoldable pub loaded : List Float → List Float → List Float
loaded l z = iter (λ i m. put_s m i (get_c l i)) z 256

-- the first half, part by part
unfoldable pub points_of : List Float → List Float
points_of z = table2 256 (λ i. (get_s z i).re) (λ i. (get_s z i).im)

-- times 1/256
abbrev pub small_of : List Float → ℕ → Complex
small_of z i = scale_c (get_s z i) (of_bits binary64 0x3f70_0000_0000_0000)

-- n quads side by side, with the same twiddles
unfoldable pub row_of : Turns → ℕ → ℕ → ℕ → List Float → List Float
row_of w n i o z = iter (λ q m. put_four m (o + q) (two_stages (four_of m (i + q) n) w)) z n

-- a pass, from the half at s to the half at d: rows of n quads
unfoldable pub pass_of : List Float → Bool → ℕ → ℕ → ℕ → ℕ → List Float → List Float
pass_of t inverse rows n s d z = iter (λ j m. row_of (turns_of t inverse (n * j)) n (4 * n * j + s) (n * j + d) m) z rows

-- the four passes
unfoldable pub passes : List Float → Bool → List Float → List Float
passes t inverse z =
    pass_of t inverse 64 1 512 0 (pass_of t inverse 16 4 0 512 (pass_of t inverse 4 16 512 0 (pass_of t inverse 1 64 0 512 z)))
