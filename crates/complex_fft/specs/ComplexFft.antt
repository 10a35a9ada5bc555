-- `ComplexFft` for 256 points, step by step in the source's order, on the list of 512 parts. t is the recombination table and r
-- the reversal table: the meaning is stated over any.
use Rattle.std.specs.Prelude.{ℕ, ◌+◌, ◌*◌, ◌/◌, ◌^◌, List, Bool, ltb, get_or, Float}
use Rattle.std.specs.Float.{binary64}
use Rattle.std.specs.Float.Ieee.{of_bits}
use Rattle.laws.specs.Choice.{pick}
use Rattle.laws.specs.Loops.{iter}
use Rattle.complex.specs.declared.Complex.{Complex}
use Rattle.complex_fft.specs.declared.complex_fft.Wings.{Wings}
use Rattle.complex.specs.Complexes.{get_c, put_c, add_c, sub_c, mul_c, conj_c, scale_c}

-- the numbers at i and j change places
unfoldable pub swap_at : List Float → ℕ → ℕ → List Float
swap_at l i j = put_c (put_c l i (get_c l j)) j (get_c l i)

-- the swap pass: each pair once, from its lower place
unfoldable pub swap_step : List ℕ → ℕ → List Float → List Float
swap_step r i l = let j = get_or r i 0 in pick (ltb i j) (swap_at l i j) l

unfoldable pub permuted : List ℕ → List Float → List Float
permuted r l = iter (swap_step r) l 256

-- one butterfly: u and v become u + w v and u - w v
abbrev pub wings_of : Complex → Complex → Complex → Wings
wings_of u v w = record { upper = add_c u (mul_c w v); lower = sub_c u (mul_c w v) }

-- of the numbers at i and half further on
unfoldable pub butterfly_at : Complex → ℕ → ℕ → List Float → List Float
butterfly_at w i half l =
    let b = wings_of (get_c l i) (get_c l (i + half)) w in
    put_c (put_c l i b.upper) (i + half) b.lower

-- twiddle r, which is entry 2r of the recombination table; the inverse conjugates it
unfoldable pub twiddle_of : List Float → Bool → ℕ → Complex
twiddle_of t inverse r = pick inverse (conj_c (get_c t (2 * r))) (get_c t (2 * r))

-- the butterflies of one block, which starts at base
unfoldable pub block_at : List Float → Bool → ℕ → ℕ → ℕ → List Float → List Float
block_at t inverse half stride base l = iter (λ j m. butterfly_at (twiddle_of t inverse (j * stride)) (base + j) half m) l half

-- the blocks of one stage, 2 * half numbers each
unfoldable pub stage_at : List Float → Bool → ℕ → ℕ → List Float → List Float
stage_at t inverse half stride l = iter (λ b m. block_at t inverse half stride (b * (2 * half)) m) l stride

-- the eight stages: half is 1, 2, 4, .., 128, and stride 128, 64, .., 1
unfoldable pub stages : List Float → Bool → List Float → List Float
stages t inverse l = iter (λ k m. stage_at t inverse (2 ^ k) (128 / 2 ^ k) m) l 8

-- every number times 1/256
unfoldable pub scaled : List Float → List Float
scaled l = iter (λ i m. put_c m i (scale_c (get_c m i) (of_bits binary64 0x3f70_0000_0000_0000))) l 256

-- `ComplexFft::run`
unfoldable pub run_of : List Float → List ℕ → Bool → List Float → List Float
run_of t r inverse l = let m = stages t inverse (permuted r l) in pick inverse (scaled m) m
