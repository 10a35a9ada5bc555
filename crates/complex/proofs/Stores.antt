-- What stands at each place of a buffer of complex numbers after a store, and after two. Assumes nothing.
use mathlib.Core.Path.{◌≡◌, ◌∙◌}
use mathlib.Core.List.{List}
use mathlib.Core.Logic.{◌≢◌}
use Prim.Native.Nat.{ℕ, ◌+◌, ◌*◌, ◌<◌}
use native.Mathlib.Omega.{arith}
use lib.ListN.{length, set, length-set}
use lib.Seq.{get_or-set_same, get_or-set_other}
use lib.Ieee.{Float, nan}
use Rattle.complex.specs.declared.Complex.{Complex}
use Rattle.complex.specs.Complexes.{get_c, put_c}

pub length-put : (l : List Float) (i : ℕ) (z : Complex) → length (put_c l i z) ≡ length l
length-put l i z = simp length-set

pub get-put-same : (l : List Float) (i : ℕ) (z : Complex) → 2 * i + 1 < length l → get_c (put_c l i z) i ≡ z
get-put-same l i z h =
    let a = get_or-set_other (set l (2 * i) z.re) (2 * i + 1) (2 * i) z.im nan (omega arith) in
    let b = get_or-set_same l (2 * i) z.re nan (omega arith) in
    let d = get_or-set_same (set l (2 * i) z.re) (2 * i + 1) z.im nan (simp length-set (omega arith)) in
    rw (a, b, d)

pub get-put-other : (l : List Float) (i j : ℕ) (z : Complex) → j ≢ i → get_c (put_c l i z) j ≡ get_c l j
get-put-other l i j z n =
    let a = get_or-set_other (set l (2 * i) z.re) (2 * i + 1) (2 * j) z.im nan (omega arith) in
    let b = get_or-set_other l (2 * i) (2 * j) z.re nan (omega arith) in
    let d = get_or-set_other (set l (2 * i) z.re) (2 * i + 1) (2 * j + 1) z.im nan (omega arith) in
    let e = get_or-set_other l (2 * i) (2 * j + 1) z.re nan (omega arith) in
    rw (a, b, d, e)

-- a pair of places i and j, that are two: each takes its value, and every other place keeps its own
module _ (l : List Float) (i j : ℕ) (x y : Complex) (n : j ≢ i) (hi : 2 * i + 1 < length l) (hj : 2 * j + 1 < length l) where
  pub pair-first : get_c (put_c (put_c l i x) j y) i ≡ x
  pair-first = get-put-other (put_c l i x) j i y (omega arith) ∙ get-put-same l i x hi

  pub pair-second : get_c (put_c (put_c l i x) j y) j ≡ y
  pair-second = get-put-same (put_c l i x) j y (rw length-put hj)

pub pair-other : (l : List Float) (i j k : ℕ) (x y : Complex) → k ≢ i → k ≢ j → get_c (put_c (put_c l i x) j y) k ≡ get_c l k
pair-other l i j k x y p q = get-put-other (put_c l i x) j k y q ∙ get-put-other l i k x p
