-- `RealFft` for 512 samples and 257 bins, step by step in the source's order. t is the recombination table and r the reversal
-- table: the meaning is stated over any, and `spectrum_of`, `samples_of`, `overs_of` are at the two tables themselves.
use Rattle.std.specs.Prelude.{ℕ, ◌-◌, ◌%◌, List, map, true, false, Float}
use Rattle.std.specs.Float.{binary64}
use Rattle.std.specs.Float.Ieee.{add, sub, mul, neg, of_bits}
use Rattle.laws.specs.Tables.{table2}
use Rattle.numbers.specs.Narrowing.{narrow_of}
use Rattle.narrow_list.specs.Overs.{over_count}
use Rattle.complex.specs.declared.Complex.{Complex}
use Rattle.complex.specs.Complexes.{new_c, get_c, add_c, sub_c, mul_c, conj_c, scale_c}
use Rattle.complex_fft.specs.ComplexFft.{run_of}

abbrev pub half : Float
half = of_bits binary64 0x3fe0_0000_0000_0000

-- bin k of the real spectrum, of number k of the half-length spectrum, the number at its mirror and the table's entry k:
-- E[k] = (Z[k] + conj(Z[256-k])) / 2, O[k] = -i (Z[k] - conj(Z[256-k])) / 2, X[k] = E[k] + W[k] O[k]
unfoldable pub bin_from : Complex → Complex → Complex → Complex
bin_from zk other w =
    let mirror = conj_c other in
    let even = scale_c (add_c zk mirror) half in
    let diff = sub_c zk mirror in
    let odd = new_c (mul binary64 half diff.im) (mul binary64 (neg half) diff.re) in
    add_c even (mul_c w odd)

-- of the half-length spectrum z
unfoldable pub bin_of : List Float → List Float → ℕ → Complex
bin_of t z k = bin_from (get_c z (k % 256)) (get_c z ((256 - k) % 256)) (get_c t k)

unfoldable pub bins_of : List Float → List Float → List Float
bins_of t z = table2 257 (λ k. (bin_of t z k).re) (λ k. (bin_of t z k).im)

-- number k of the half-length spectrum, of the real spectrum x:
-- E[k] = (X[k] + conj(X[256-k])) / 2, O[k] = conj(W[k]) (X[k] - conj(X[256-k])) / 2, Z[k] = E[k] + i O[k]
unfoldable pub half_of : List Float → List Float → ℕ → Complex
half_of t x k =
    let xk = get_c x k in
    let mirror = conj_c (get_c x (256 - k)) in
    let even = scale_c (add_c xk mirror) half in
    let diff = sub_c xk mirror in
    let odd = scale_c (mul_c (conj_c (get_c t k)) diff) half in
    new_c (sub binary64 even.re odd.im) (add binary64 even.im odd.re)

unfoldable pub halves_of : List Float → List Float → List Float
halves_of t x = table2 256 (λ k. (half_of t x k).re) (λ k. (half_of t x k).im)

-- `RealFft::forward`: sample pairs are the complex points as they stand
unfoldable pub spectrum_with : List Float → List ℕ → List Float → List Float
spectrum_with t r x = bins_of t (run_of t r false x)

-- `RealFft::inverse`
unfoldable pub samples_with : List Float → List ℕ → List Float → List Float
samples_with t r x = map narrow_of (run_of t r true (halves_of t x))

-- of the numbers that it narrows. K8: "The real inverse then says how many of its 512 samples went over"
unfoldable pub overs_with : List Float → List ℕ → List Float → ℕ
overs_with t r x = over_count (run_of t r true (halves_of t x))
