-- Butterfly facts, for any span: which places change, to what, and which stay. Assumes nothing.
use mathlib.Core.Path.{◌≡◌}
use mathlib.Core.List.{List}
use mathlib.Core.Logic.{◌≢◌}
use Prim.Native.Nat.{ℕ, ◌+◌, ◌*◌, ◌<◌}
use native.Mathlib.Omega.{arith}
use lib.ListN.{length, length-set}
use lib.Ieee.{Float}
use Rattle.complex.specs.declared.Complex.{Complex}
use Rattle.complex.specs.Complexes.{get_c, add_c, sub_c, mul_c}
use Rattle.complex_fft.specs.ComplexFft.{butterfly_at}
use Rattle.complex.proofs.Stores.{pair-first, pair-second, pair-other}

-- a butterfly at any span: its two places, and the others
module _ (l : List Float) (i half : ℕ) (w : Complex) (h : 0 < half) (m : 2 * (i + half) + 1 < length l) where
  pub butterfly-upper : get_c (butterfly_at w i half l) i ≡ add_c (get_c l i) (mul_c w (get_c l (i + half)))
  unfolding butterfly_at
  butterfly-upper = pair-first l i (i + half) _ _ (omega arith) (omega arith) (omega arith)

  pub butterfly-lower : get_c (butterfly_at w i half l) (i + half) ≡ sub_c (get_c l i) (mul_c w (get_c l (i + half)))
  unfolding butterfly_at
  butterfly-lower = pair-second l i (i + half) _ _ (omega arith) (omega arith) (omega arith)

pub butterfly-other : (l : List Float) (i half k : ℕ) (w : Complex) → k ≢ i → k ≢ i + half → get_c (butterfly_at w i half l) k ≡ get_c l k
unfolding butterfly_at
butterfly-other l i half k w p q = pair-other l i (i + half) k _ _ p q

pub length-butterfly : (l : List Float) (i half : ℕ) (w : Complex) → length (butterfly_at w i half l) ≡ length l
unfolding butterfly_at
length-butterfly l i half w = simp length-set
