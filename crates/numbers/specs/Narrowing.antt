-- Narrowing, over the values of lib.Ieee. Definitions only.
use Rattle.std.specs.Prelude.{ℕ, ◌+◌, ◌-◌, ◌*◌, ◌/◌, ◌%◌, ◌^◌, Bool, false, not, ◌&&◌, pos, negsuc, nat_le, nat_lt, to_bits}
use lib.Ieee.{Float, nan, inf, fin, binary32, binary64, up, down, round, mul, sub, eq, lt, le}
use Rattle.std.specs.Float.Ieee.Nearest.{closest}
use Rattle.laws.specs.Choice.{pick}
use Rattle.numbers.specs.Finite.{is_finite}
use Rattle.numbers.specs.declared.narrowing.Kind.{Kind}
use Rattle.numbers.specs.declared.narrowing.Kind.TheVariants.{Exact, Rounded, Over}
use Rattle.numbers.specs.declared.narrowing.Narrowed.{Narrowed}

-- The f32 nearest to x, a tie to the one with the even last digit: IEEE 754's own rounding, `round` of lib.Ieee, at x's sign
-- and size. (x is m * 2 ^ e, which is the fraction m * up e / down e.)
unfoldable pub narrow_of : Float → Float
narrow_of nan = nan
narrow_of (inf s) = inf s
narrow_of (fin s m e) = round binary32 s (m * up e) (down e)

-- K8: "Narrowing shall say, besides its f32, whether it was exact, rounded, or a finite number that became infinite. .. An infinite or NaN
-- input reads as exact and is not counted."
unfoldable pub kind_of : Float → Kind
kind_of x =
    pick (not (is_finite x)) Exact
    (pick (not (is_finite (narrow_of x))) Over
    (pick (eq x (narrow_of x)) Exact Rounded))

abbrev pub told_of : Float → Narrowed
told_of x = record { value = narrow_of x; kind = kind_of x }

-- the kinds by number
unfoldable pub kind_number : Kind → ℕ
kind_number Exact = 0
kind_number Rounded = 1
kind_number Over = 2

-- "Most f64 results lie well inside the f32 normal range. Give that range a short way through" (K3). The range: an exponent's field from
-- 897 to 1149, a size from 2^-126 up to 2^127. The f32 nearest to such a number is normal, and a carry does not make it the infinity.
abbrev pub field_of : Float → ℕ
field_of x = to_bits binary64 x % 2 ^ 63 / 2 ^ 52

unfoldable pub is_plain : Float → Bool
is_plain x = nat_le 897 (field_of x) && nat_lt (field_of x) 1150

-- 2^-252 and 2^254: the squares of the range's two ends. So x is plain where `plain_squares (x * x) (x * x)` (proofs/Plain).
abbrev pub low_square : Float
low_square = fin false 1 (negsuc 251)

abbrev pub high_square : Float
high_square = fin false 1 (pos 254)

unfoldable pub plain_squares : Float → Float → Bool
plain_squares least most = le low_square least && lt most high_square

-- 2^29 + 1
abbrev pub splitter : Float
splitter = fin false (2 ^ 29 + 1) (pos 0)

-- What the short way computes in f64, operation by operation. Of a plain number and of a zero it is `narrow_of` (proofs/Plain).
unfoldable pub rounded_of : Float → Float
rounded_of x = sub binary64 (mul binary64 x splitter) (sub binary64 (mul binary64 x splitter) x)

-- The bits, without the sign's, of the f32 nearest to the finite f64 whose exponent's field is e and whose digits' field is t. It
-- is what the code computes, and no public contract cites it.
unfoldable pub mag_of : ℕ → ℕ → ℕ
mag_of e t =
    pick (nat_lt e 873) 0
    (pick (nat_lt e 897) (closest (2 ^ 52 + t) (2 ^ (926 - e)))
    (pick (nat_lt e 1151) ((e - 897) * 2 ^ 23 + closest (2 ^ 52 + t) (2 ^ 29))
    (255 * 2 ^ 23)))
