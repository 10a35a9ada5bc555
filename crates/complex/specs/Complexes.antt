-- Complex numbers: each operation is the source's, one IEEE 754 rounding for each operator. Assumes nothing.
use Rattle.std.specs.Prelude.{ℕ, ◌+◌, ◌*◌, List, get_or, set, Float}
use Rattle.std.specs.Float.{nan, binary64}
use Rattle.std.specs.Float.Ieee.{add, sub, mul, neg}
use Rattle.complex.specs.declared.Complex.{Complex}

abbrev pub new_c : Float → Float → Complex
new_c x y = record { re = x; im = y }

abbrev pub conj_c : Complex → Complex
conj_c z = new_c z.re (neg z.im)

abbrev pub add_c : Complex → Complex → Complex
add_c a b = new_c (add binary64 a.re b.re) (add binary64 a.im b.im)

abbrev pub sub_c : Complex → Complex → Complex
sub_c a b = new_c (sub binary64 a.re b.re) (sub binary64 a.im b.im)

abbrev pub mul_c : Complex → Complex → Complex
mul_c a b =
    new_c (sub binary64 (mul binary64 a.re b.re) (mul binary64 a.im b.im))
    (add binary64 (mul binary64 a.re b.im) (mul binary64 a.im b.re))

abbrev pub scale_c : Complex → Float → Complex
scale_c a k = new_c (mul binary64 a.re k) (mul binary64 a.im k)

-- number i of a buffer, which holds complex numbers real part then imaginary; and the buffer with it replaced
abbrev pub get_c : List Float → ℕ → Complex
get_c l i = new_c (get_or l (2 * i) nan) (get_or l (2 * i + 1) nan)

abbrev pub put_c : List Float → ℕ → Complex → List Float
put_c l i z = set (set l (2 * i) z.re) (2 * i + 1) z.im
