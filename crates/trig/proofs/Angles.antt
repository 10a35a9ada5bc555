-- The constants and the angles of the tables: each is a test that antt computes. Assumes nothing.
--     two-pi, half-pi     the constants' bits are the Rust's products
--     turns-round         document 01's rule for the round is Rust's round, at every angle of the tables
--     angle-even          the angle of twiddle r is that of recombination entry 2r
use mathlib.Core.Path.{◌≡◌, refl}
use mathlib.Core.Bool.{Bool}
use Prim.Native.Nat.{ℕ, ◌*◌, ◌<◌}
use lib.Ieee.{Float, round}
use Rattle.laws.specs.Tables.{at-below}
use Rattle.numbers.specs.Same.{same, same-eq}
use Rattle.trig.specs.Trig.{◌⊗◌, ◌⊘◌, whole, half, pi, two_pi, half_pi, angle, turns, round_away}
use Rattle.trig.proofs.Computed.{computed}

pub two-pi : two_pi ≡ whole 2 ⊗ pi
unfolding computed
two-pi = refl

pub half-pi : half_pi ≡ half ⊗ pi
unfolding computed
half-pi = refl

abbrev rounded : Float → Bool
rounded x = same (turns x) (round_away (x ⊘ two_pi))

pub turns-round : (k : ℕ) → k < 257 → turns (angle 512 k) ≡ round_away (angle 512 k ⊘ two_pi)
unfolding computed round_away round
turns-round k h = same-eq (turns (angle 512 k)) (round_away (angle 512 k ⊘ two_pi)) (at-below (λ i. rounded (angle 512 i)) 257 k tt h)

pub angle-even : (r : ℕ) → r < 128 → angle 256 r ≡ angle 512 (2 * r)
unfolding computed
angle-even r h = same-eq (angle 256 r) (angle 512 (2 * r)) (at-below (λ i. same (angle 256 i) (angle 512 (2 * i))) 128 r tt h)
