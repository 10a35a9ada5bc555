-- Every list that the real transform gives has its length, whatever stands in it, and no more samples go over than there are. Assumes nothing.
use mathlib.Core.Path.{◌≡◌, ◌∙◌}
use mathlib.Core.Bool.{true}
use mathlib.Core.List.{List}
use Prim.Native.Nat.{ℕ, ◌≤◌}
use lib.Ieee.{Float}
use native.Mathlib.Omega.{arith}
use lib.ListN.{length, length-map}
use Rattle.laws.specs.Tables.{length-table2}
use Rattle.numbers.specs.Narrowing.{narrow_of}
use Rattle.narrow_list.proofs.OverCounts.{overs-few as few}
use Rattle.complex_fft.specs.ComplexFft.{run_of}
use Rattle.complex_fft.proofs.Sizes.{run_long}
use Rattle.fft.specs.RealFft.{halves_of, bins_of, spectrum_with, samples_with, overs_with}
use Rattle.fft.specs.Calls.{spectrum_of, overs_of}

pub length-spectrum : (t : List Float) (r : List ℕ) (x : List Float) → length (spectrum_with t r x) ≡ 514
unfolding spectrum_with bins_of
length-spectrum t r x = length-table2 257 _ _

pub spectrum-514 : (x : List Float) → length (spectrum_of x) ≡ 514
unfolding spectrum_of
spectrum-514 x = length-spectrum _ _ x

pub halves_long : (t x : List Float) → length (halves_of t x) ≡ 512
unfolding halves_of
halves_long t x = length-table2 256 _ _

pub overs-few : (t : List Float) (r : List ℕ) (x : List Float) → overs_with t r x ≤ 512
unfolding overs_with
overs-few t r x =
    let points = run_of t r true (halves_of t x) in
    omega (arith, few points, run_long 512 t r true (halves_of t x) (halves_long t x))

pub overs-512 : (x : List Float) → overs_of x ≤ 512
unfolding overs_of
overs-512 x = overs-few _ _ x

pub length-samples : (t : List Float) (r : List ℕ) (x : List Float) → length (samples_with t r x) ≡ 512
unfolding samples_with
length-samples t r x = length-map (run_of t r true (halves_of t x)) narrow_of ∙ run_long 512 t r true (halves_of t x) (halves_long t x)
