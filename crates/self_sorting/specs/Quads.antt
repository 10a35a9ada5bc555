-- Four numbers at a time: what each function of src/quads does.
use Rattle.std.specs.Prelude.{ℕ, ◌+◌, ◌*◌, List, Bool, get_or, set, Float}
use Rattle.std.specs.Float.{nan}
use Rattle.complex.specs.declared.Complex.{Complex}
use Rattle.complex.specs.Complexes.{new_c}
use Rattle.complex_fft.specs.ComplexFft.{wings_of, twiddle_of}
use Rattle.self_sorting.specs.declared.quads.Four.{Four}
use Rattle.self_sorting.specs.declared.quads.Turns.{Turns}

-- the number at i of the scratch: its imaginary part lies 256 above its real part
abbrev pub get_s : List Float → ℕ → Complex
get_s z i = new_c (get_or z i nan) (get_or z (i + 256) nan)

abbrev pub put_s : List Float → ℕ → Complex → List Float
put_s z i v = set (set z i v.re) (i + 256) v.im

-- four numbers, each step on from the one before
unfoldable pub four_of : List Float → ℕ → ℕ → Four
four_of z i step = record { a = get_s z i; b = get_s z (i + step); c = get_s z (i + 2 * step); d = get_s z (i + 3 * step) }

unfoldable pub put_four : List Float → ℕ → Four → List Float
put_four z o f = put_s (put_s (put_s (put_s z o f.a) (o + 64) f.b) (o + 128) f.c) (o + 192) f.d

-- two stages over four numbers
unfoldable pub two_stages : Four → Turns → Four
two_stages x w =
    let p = wings_of x.a x.c w.first in
    let q = wings_of x.b x.d w.first in
    let r = wings_of p.upper q.upper w.second in
    let s = wings_of p.lower q.lower w.third in
    record { a = r.upper; b = s.upper; c = r.lower; d = s.lower }

-- their three twiddles
unfoldable pub turns_of : List Float → Bool → ℕ → Turns
turns_of t inverse r = record { first = twiddle_of t inverse (2 * r); second = twiddle_of t inverse r; third = twiddle_of t inverse (r + 64) }
