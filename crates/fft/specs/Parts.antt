-- The inverse's points of three numbers: `half_of` takes them from two lists (proofs/Ends).
use Rattle.std.specs.Float.{binary64}
use Rattle.std.specs.Float.Ieee.{add, sub}
use Rattle.complex.specs.declared.Complex.{Complex}
use Rattle.complex.specs.Complexes.{new_c, add_c, sub_c, mul_c, conj_c, scale_c}
use Rattle.fft.specs.RealFft.{half}

-- number k of the half-length spectrum, of bin k of the real one, the bin at its mirror and the table's entry k
unfoldable pub half_from : Complex → Complex → Complex → Complex
half_from xk other w =
    let mirror = conj_c other in
    let even = scale_c (add_c xk mirror) half in
    let diff = sub_c xk mirror in
    let odd = scale_c (mul_c (conj_c w) diff) half in
    new_c (sub binary64 even.re odd.im) (add binary64 even.im odd.re)
