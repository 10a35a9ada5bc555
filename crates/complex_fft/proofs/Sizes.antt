-- Every list that the stages and the swaps give has its length, whatever stands in it. Assumes nothing.
use mathlib.Core.Path.{◌≡◌, ◌∙◌}
use mathlib.Core.Bool.{Bool}
use mathlib.Core.List.{List}
use Prim.Native.Nat.{ℕ, ◌+◌, ◌*◌, ◌/◌, ◌^◌}
use lib.Dec.{ltb}
use lib.Ieee.{Float, binary64, of_bits}
use lib.ListN.{length, get_or}
use Rattle.laws.specs.Choice.{pick-if}
use Rattle.laws.specs.Kinds.{iter-keeps}
use Rattle.complex.specs.Complexes.{get_c, put_c, scale_c}
use Rattle.complex_fft.specs.ComplexFft.{swap_at, swap_step, permuted, butterfly_at, twiddle_of, block_at, stage_at, stages, scaled, run_of}
use Rattle.complex.proofs.Stores.{length-put}
use Rattle.complex_fft.proofs.Places.{length-butterfly}

module _ (n : ℕ) where
  Long : List Float → Type 0
  Long l = length l ≡ n

  pub permute-long : (r : List ℕ) (l : List Float) → length l ≡ n → length (permuted r l) ≡ n
  unfolding permuted swap_step swap_at Long
  permute-long r l h =
      iter-keeps Long (swap_step r) l 256 h
      (λ k m b g. let j = get_or r k 0 in pick-if Long (ltb k j) (λ _. length-put (put_c m k (get_c m j)) j (get_c m k) ∙ length-put m k (get_c m j) ∙ g) (λ _. g))

  block-long : (t : List Float) (inverse : Bool) (half stride base : ℕ) (l : List Float) → length l ≡ n → length (block_at t inverse half stride base l) ≡ n
  unfolding block_at Long
  block-long t inverse half stride base l h =
      iter-keeps Long (λ j m. butterfly_at (twiddle_of t inverse (j * stride)) (base + j) half m) l half h
      (λ j m b g. length-butterfly m (base + j) half (twiddle_of t inverse (j * stride)) ∙ g)

  pub stage-long : (t : List Float) (inverse : Bool) (half stride : ℕ) (l : List Float) → length l ≡ n → length (stage_at t inverse half stride l) ≡ n
  unfolding stage_at Long
  stage-long t inverse half stride l h =
      iter-keeps Long (λ b m. block_at t inverse half stride (b * (2 * half)) m) l stride h (λ b m k g. block-long t inverse half stride (b * (2 * half)) m g)

  pub stages-long : (t : List Float) (inverse : Bool) (l : List Float) → length l ≡ n → length (stages t inverse l) ≡ n
  unfolding stages Long
  stages-long t inverse l h = iter-keeps Long (λ k m. stage_at t inverse (2 ^ k) (128 / 2 ^ k) m) l 8 h (λ k m b g. stage-long t inverse (2 ^ k) (128 / 2 ^ k) m g)

  scaled-long : (l : List Float) → length l ≡ n → length (scaled l) ≡ n
  unfolding scaled Long
  scaled-long l h =
      iter-keeps Long (λ i m. put_c m i (scale_c (get_c m i) (of_bits binary64 0x3f70_0000_0000_0000))) l 256 h
      (λ k m b g. length-put m k (scale_c (get_c m k) (of_bits binary64 0x3f70_0000_0000_0000)) ∙ g)

  pub run_long : (t : List Float) (r : List ℕ) (inverse : Bool) (l : List Float) → length l ≡ n → length (run_of t r inverse l) ≡ n
  unfolding run_of Long
  run_long t r inverse l h =
      let g = stages-long t inverse (permuted r l) (permute-long r l h) in
      pick-if Long inverse (λ _. scaled-long (stages t inverse (permuted r l)) g) (λ _. g)
