-- The 256-point transform keeps a kind of numbers that its butterfly keeps, for any table of finite twiddles. Assumes nothing.
use mathlib.Core.Path.{◌≡◌, ◌∙◌}
use mathlib.Core.Bool.{Bool}
use mathlib.Core.List.{List}
use Prim.Native.Nat.{ℕ, ◌+◌, ◌*◌, ◌/◌, ◌^◌, ◌≤◌, ◌<◌}
use native.Mathlib.Omega.{arith}
use lib.Dec.{ltb}
use lib.ListN.{get_or, set, length-set}
use lib.Ieee.{Float, nan, binary64, of_bits}
use Rattle.complex.specs.declared.Complex.{Complex}
use Rattle.complex.specs.Complexes.{get_c, put_c, add_c, sub_c, mul_c, scale_c}
use Rattle.complex_fft.specs.ComplexFft.{swap_at, swap_step, permuted, butterfly_at, twiddle_of, block_at, stage_at, stages, scaled, run_of}
use Rattle.laws.specs.Choice.{pick-if}
use Rattle.complex_fft.proofs.Spans.{place, room, halves}
use Rattle.numbers.specs.Zeros.{Finite}
use Rattle.numbers.proofs.Zeros.{finite-neg}
use Rattle.laws.specs.Kinds.{Kept, all-get, all_set, iter-keeps}

-- both parts of a kind
pub record Parts (P : Float → Type 0) (z : Complex) : Type 0 where
  pub real : P z.re
  pub imag : P z.im

pub get-parts : {P : Float → Type 0} {n : ℕ} {l : List Float} (i : ℕ) → Kept P n l → 2 * i + 1 < n → Parts P (get_c l i)
get-parts i h k = record { real = all-get (2 * i) nan h.all (omega (arith, h.long, k)); imag = all-get (2 * i + 1) nan h.all (omega (arith, h.long, k)) }

pub put-parts : {P : Float → Type 0} {n : ℕ} {l : List Float} (i : ℕ) (z : Complex) → Kept P n l → Parts P z → Kept P n (put_c l i z)
put-parts {l = l} i z h k = record {
  long = length-set (set l (2 * i) z.re) (2 * i + 1) z.im ∙ length-set l (2 * i) z.re ∙ h.long;
  all = all_set (2 * i + 1) (all_set (2 * i) h.all k.real) k.imag;
}

-- what the transform asks of a kind
pub record Steady (P : Float → Type 0) : Type 0 where
  pub upper : (u v w : Complex) → Parts P u → Parts P v → Parts Finite w → Parts P (add_c u (mul_c w v))
  pub lower : (u v w : Complex) → Parts P u → Parts P v → Parts Finite w → Parts P (sub_c u (mul_c w v))
  pub small : (z : Complex) → Parts P z → Parts P (scale_c z (of_bits binary64 0x3f70_0000_0000_0000))

-- a table of 256 places, all below 256
pub record Places (r : List ℕ) : Type 0 where
  pub below : (i : ℕ) → i < 256 → get_or r i 0 < 256

module _ {P : Float → Type 0} (S : Steady P) (t : List Float) (F : Kept Finite 514 t) (r : List ℕ) (R : Places r) where
  swap-keeps : (i j : ℕ) (l : List Float) → i < 256 → j < 256 → Kept P 512 l → Kept P 512 (swap_at l i j)
  unfolding swap_at
  swap-keeps i j l I J h = put-parts j (get_c l i) (put-parts i (get_c l j) h (get-parts j h (omega arith))) (get-parts i h (omega arith))

  permute-keeps : (l : List Float) → Kept P 512 l → Kept P 512 (permuted r l)
  unfolding permuted swap_step
  permute-keeps l h =
      iter-keeps (Kept P 512) (swap_step r) l 256 h
      (λ k x b g. pick-if (Kept P 512) (ltb k (get_or r k 0)) (λ _. swap-keeps k (get_or r k 0) x b (R.below k b) g) (λ _. g))

  butterfly-keeps : (i half : ℕ) (w : Complex) (l : List Float) → i + half < 256 → Parts Finite w → Kept P 512 l → Kept P 512 (butterfly_at w i half l)
  unfolding butterfly_at
  butterfly-keeps i half w l I W h =
      let u = get_c l i in
      let v = get_c l (i + half) in
      let pu : Parts P u = get-parts i h (omega arith) in
      let pv : Parts P v = get-parts (i + half) h (omega arith) in
      put-parts (i + half) (sub_c u (mul_c w v)) (put-parts i (add_c u (mul_c w v)) h (S.upper u v w pu pv W)) (S.lower u v w pu pv W)

  twiddle-finite : (inverse : Bool) (j : ℕ) → j < 128 → Parts Finite (twiddle_of t inverse j)
  unfolding twiddle_of
  twiddle-finite inverse j h =
      let w : Parts Finite (get_c t (2 * j)) = get-parts (2 * j) F (omega arith) in
      pick-if (Parts Finite) inverse (λ _. record { real = w.real; imag = finite-neg w.imag }) (λ _. w)

  block-keeps : (inverse : Bool) (half stride base : ℕ) (l : List Float) → half * stride ≡ 128 → base + 2 * half ≤ 256 → Kept P 512 l → Kept P 512 (block_at t inverse half stride base l)
  unfolding block_at
  block-keeps inverse half stride base l e b h =
      iter-keeps (Kept P 512) (λ j m. butterfly_at (twiddle_of t inverse (j * stride)) (base + j) half m) l half h
      (λ j x k g. butterfly-keeps (base + j) half (twiddle_of t inverse (j * stride)) x (omega arith) (twiddle-finite inverse (j * stride) (place j half stride k e)) g)

  stage-keeps : (inverse : Bool) (half stride : ℕ) (l : List Float) → half * stride ≡ 128 → Kept P 512 l → Kept P 512 (stage_at t inverse half stride l)
  unfolding stage_at
  stage-keeps inverse half stride l e h =
      iter-keeps (Kept P 512) (λ b m. block_at t inverse half stride (b * (2 * half)) m) l stride h
      (λ b x k g. block-keeps inverse half stride (b * (2 * half)) x e (room b half stride k e) g)

  stages-keeps : (inverse : Bool) (l : List Float) → Kept P 512 l → Kept P 512 (stages t inverse l)
  unfolding stages
  stages-keeps inverse l h =
      iter-keeps (Kept P 512) (λ k m. stage_at t inverse (2 ^ k) (128 / 2 ^ k) m) l 8 h (λ k x b g. stage-keeps inverse (2 ^ k) (128 / 2 ^ k) x (halves k b) g)

  scaled-keeps : (l : List Float) → Kept P 512 l → Kept P 512 (scaled l)
  unfolding scaled
  scaled-keeps l h =
      iter-keeps (Kept P 512) (λ i m. put_c m i (scale_c (get_c m i) (of_bits binary64 0x3f70_0000_0000_0000))) l 256 h
      (λ k x b g. put-parts k (scale_c (get_c x k) (of_bits binary64 0x3f70_0000_0000_0000)) g (S.small (get_c x k) (get-parts k g (omega arith))))

  pub run-keeps : (inverse : Bool) (l : List Float) → Kept P 512 l → Kept P 512 (run_of t r inverse l)
  unfolding run_of
  run-keeps inverse l h =
      let g : Kept P 512 (stages t inverse (permuted r l)) = stages-keeps inverse (permuted r l) (permute-keeps l h) in
      pick-if (Kept P 512) inverse (λ _. scaled-keeps (stages t inverse (permuted r l)) g) (λ _. g)
