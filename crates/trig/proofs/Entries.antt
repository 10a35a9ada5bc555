-- What the recombination table holds, for the proofs of the crates above. Assumes nothing.
--     recombination-at         the parts of entry k
--     twiddle-at               the parts of twiddle r, which is entry 2r: one table serves both
--     length-recombination     514 numbers
--     recombination-finite     each of them finite, by a test that antt computes
use mathlib.Core.Path.{◌≡◌}
use Prim.Native.Nat.{ℕ, ◌+◌, ◌*◌, ◌<◌}
use native.Mathlib.Omega.{arith}
use lib.ListN.{length, get_or}
use lib.Ieee.{Float}
use Rattle.laws.specs.Kinds.{All, all-passes, all-weaken}
use Rattle.laws.specs.Tables.{table2, table2-at, length-table2}
use Rattle.numbers.specs.Finite.{is_finite}
use Rattle.numbers.specs.Zeros.{Finite}
use Rattle.trig.specs.Trig.{angle, det_sin, det_cos}
use Rattle.trig.specs.Tables.{recombination, twiddle_re, twiddle_im}
use Rattle.trig.proofs.Angles.{angle-even}
use Rattle.trig.proofs.Computed.{computed}

pub recombination-at : (k : ℕ) (d : Float) → k < 257
    → (get_or recombination (2 * k) d ≡ det_cos (angle 512 k)) × (get_or recombination (2 * k + 1) d ≡ det_sin (angle 512 k))
unfolding recombination
recombination-at k d h = table2-at 257 (λ i. det_cos (angle 512 i)) (λ i. det_sin (angle 512 i)) k d h

pub twiddle-at : (r : ℕ) (d : Float) → r < 128
    → (get_or recombination (2 * (2 * r)) d ≡ twiddle_re r) × (get_or recombination (2 * (2 * r) + 1) d ≡ twiddle_im r)
twiddle-at r d h = rw (angle-even r h) (recombination-at (2 * r) d (omega arith))

pub length-recombination : length recombination ≡ 514
unfolding recombination
length-recombination = length-table2 257 (λ k. det_cos (angle 512 k)) (λ k. det_sin (angle 512 k))

pub recombination-finite : All Finite recombination
unfolding computed recombination table2 is_finite
recombination-finite = all-weaken (λ x h. record { finite = h }) (all-passes is_finite recombination tt)
