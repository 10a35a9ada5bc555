-- What the loops of the real transform start from and read. Assumes nothing.
use mathlib.Core.Path.{◌≡◌, ◌∙◌, refl, ap}
use mathlib.Core.Bool.{false}
use mathlib.Core.List.{List, [], ◌∷◌}
use Prim.Native.Nat.{ℕ, ◌-◌, ◌%◌, ◌≤◌, ◌<◌}
use native.Mathlib.Omega.{arith}
use lib.ListN.{length}
use lib.Ieee.{Float, nan}
use Rattle.laws.specs.Loops.{over2}
use Rattle.laws.specs.Tables.{table2-at}
use Rattle.complex.specs.declared.Complex.{Complex}
use Rattle.complex.specs.Complexes.{new_c, get_c, put_c}
use Rattle.self_sorting.specs.Quads.{get_s}
use Rattle.complex_fft.specs.Reversal.{reversal_table}
use Rattle.self_sorting.specs.Passes.{loaded, points_of, passes}
use Rattle.self_sorting.proofs.Sorting.{forward-run}
use Rattle.fft.specs.RealFft.{bin_from, bin_of, bins_of, half_of, halves_of, spectrum_with}
use Rattle.fft.specs.Parts.{half_from}

-- a loop may start where the first number is put already
pub over2-first : (f g : ℕ → Float) (e : List Float) → 2 ≤ length e
    → put_c e 0 (new_c (f 0) (g 0)) ≡ over2 nan 1 (λ k x y. f k) (λ k x y. g k) (put_c e 0 (new_c (f 0) (g 0)))
unfolding over2
over2-first f g [] h = absurd (omega arith)
over2-first f g (x ∷ []) h = absurd (omega arith)
over2-first f g (x ∷ y ∷ e) h = refl

pub halves-at : (t x : List Float) (i : ℕ) → i < 256 → get_c (halves_of t x) i ≡ half_of t x i
unfolding halves_of
halves-at t x i h = let a = table2-at 256 (λ k. (half_of t x k).re) (λ k. (half_of t x k).im) i nan h in rw (a.0, a.1)

-- and of the three numbers that it is made of
pub from_halves : (t x : List Float) (i : ℕ) → i < 256 → get_c (halves_of t x) i ≡ half_from (get_c x i) (get_c x (256 - i)) (get_c t i)
unfolding half_of half_from
from_halves t x i h = halves-at t x i h

points-at : (z : List Float) (i : ℕ) → i < 256 → get_s z i ≡ get_c (points_of z) i
unfolding points_of
points-at z i h = let a = table2-at 256 (λ k. (get_s z k).re) (λ k. (get_s z k).im) i nan h in rw (a.0, a.1)

from-eq : {a b x y : Complex} (w : Complex) → a ≡ x → b ≡ y → bin_from a b w ≡ bin_from x y w
from-eq w p q = rw (p, q)

-- a bin of the scratch's points, from their places in it
pub bin-there : (t z : List Float) (k here mirror : ℕ) → here ≡ k % 256 → mirror ≡ (256 - k) % 256
    → bin_from (get_s z here) (get_s z mirror) (get_c t k) ≡ bin_of t (points_of z) k
unfolding bin_of
bin-there t z k here mirror e f =
    from-eq (get_c t k) (points-at z here (omega arith) ∙ ap (get_c (points_of z)) e) (points-at z mirror (omega arith) ∙ ap (get_c (points_of z)) f)

-- the bins of what was loaded and passed are the spectrum
pub loaded-bins : (t x z : List Float) → length x ≡ 512 → length z ≡ 1024 → bins_of t (points_of (passes t false (loaded x z))) ≡ spectrum_with t reversal_table x
unfolding spectrum_with
loaded-bins t x z h k = ap (bins_of t) (forward-run t x z h k)
