-- What the test of the lent table and scratch says of their lengths. Assumes nothing.
use mathlib.Core.Path.{◌≡◌, sym, subst, ◌∙◌}
use mathlib.Core.Bool.{Bool, true, ◌&&◌}
use mathlib.Core.List.{List}
use lib.Dec.{T, eqb, eqb→eq}
use lib.Ieee.{Float}
use lib.Ieee.Fits.{and_l, and_r}
use lib.ListN.{length}
use Rattle.fft.specs.Calls.{lent_of}

pub record Lengths (t s : List Float) : Type 0 where
  pub table : length t ≡ 514
  pub scratch : length s ≡ 1024

pub lengths : (t s : List Float) (b : Bool) → b ≡ lent_of t s → b ≡ true → Lengths t s
unfolding lent_of
lengths t s b e h =
    let A = eqb (length t) 514 in
    let B = eqb (length s) 1024 in
    let y : T (A && B) = subst T (sym h ∙ e) tt in
    record { table = eqb→eq (length t) 514 (and_l A B y); scratch = eqb→eq (length s) 1024 (and_r A B y) }
