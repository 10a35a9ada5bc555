-- The inverse's points and its last step in the core's scratch, for the code of real_fft alone.
use Rattle.std.specs.Prelude.{ℕ, ◌+◌, List, Float}
use Rattle.laws.specs.Loops.{iter}
use Rattle.laws.specs.Tables.{table2}
use Rattle.complex.specs.Complexes.{put_c}
use Rattle.self_sorting.specs.Passes.{small_of}

-- n points from `first` on, times 1/256, at the scratch's numbers 256, 257, ..
unfoldable pub scaled_from : ℕ → ℕ → List Float → List Float
scaled_from first n z = iter (λ i m. put_c m (256 + i) (small_of m (first + i))) z n

-- the 256 points that stand in the scratch, times 1/256
abbrev pub points_in : List Float → List Float
points_in z = table2 256 (λ i. (small_of z i).re) (λ i. (small_of z i).im)
