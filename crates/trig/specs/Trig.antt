-- det_sin and det_cos of the Rust's fft.rs, step by step over IEEE 754's binary64: one rounding an operation, in the source's
-- order. Beside each step stands the Rust's own line. `plus` is +0.0, and `one` 1.0. Definitions only.
use Rattle.std.specs.Prelude.{ℕ, ◌+◌, ◌*◌, ◌/◌, List, [], ◌∷◌, pos, Float}
use Rattle.std.specs.Float.{nan, inf, fin, binary64}
use Rattle.std.specs.Float.Ieee.{up, down, round, of_bits, of_int, neg, add, sub, mul, div, lt, eq}
use Rattle.laws.specs.Choice.{pick}
use Rattle.numbers.specs.Finite.{plus}
use Rattle.numbers.specs.Order.{abs_of}
use Rattle.numbers.specs.Ranges.{one}

infixl 7 ◌⊗◌ ◌⊘◌
infixl 6 ◌⊕◌ ◌⊖◌
-- + - * / of f64
abbrev pub ◌⊕◌ : Float → Float → Float
x ⊕ y = add binary64 x y

abbrev pub ◌⊖◌ : Float → Float → Float
x ⊖ y = sub binary64 x y

abbrev pub ◌⊗◌ : Float → Float → Float
x ⊗ y = mul binary64 x y

abbrev pub ◌⊘◌ : Float → Float → Float
x ⊘ y = div binary64 x y

-- a whole number as an f64: the literal `5_040.0`, and `k as f64`
abbrev pub whole : ℕ → Float
whole n = of_int binary64 (pos n)

-- 0.5
abbrev pub half : Float
half = of_bits binary64 0x3fe0_0000_0000_0000

-- PI; TWO_PI, which is 2.0 * PI; HALF_PI, which is 0.5 * PI
abbrev pub pi : Float
pi = of_bits binary64 0x4009_21fb_5444_2d18

abbrev pub two_pi : Float
two_pi = of_bits binary64 0x4019_21fb_5444_2d18

abbrev pub half_pi : Float
half_pi = of_bits binary64 0x3ff9_21fb_5444_2d18

-- the angle of entry k: let theta = -TWO_PI * (k as f64) / (n as f64)
unfoldable pub angle : ℕ → ℕ → Float
angle n k = neg two_pi ⊗ whole k ⊘ whole n

-- ---- what both have

-- "For our angles, `(x / TWO_PI).round()` is -1 where the ratio is -0.5 and -0.0 otherwise"
unfoldable pub turns : Float → Float
turns x = pick (eq (x ⊘ two_pi) (neg half)) (neg one) (neg plus)

-- let k = (x / TWO_PI).round(); let r = x - k * TWO_PI
unfoldable pub reduced : Float → Float
reduced x = x ⊖ turns x ⊗ two_pi

-- p = p * r2 + a, for each coefficient a in turn
unfoldable pub horner : Float → Float → List Float → Float
horner r2 p [] = p
horner r2 p (a ∷ l) = horner r2 (p ⊗ r2 ⊕ a) l

-- 1.0 / n and -1.0 / n
abbrev pub one_over : ℕ → Float
one_over n = one ⊘ whole n

abbrev pub minus_one_over : ℕ → Float
minus_one_over n = neg one ⊘ whole n

-- ---- det_sin

-- if r > HALF_PI { r = PI - r } else if r < -HALF_PI { r = -PI - r }
unfoldable pub fold_sin : Float → Float
fold_sin r = pick (lt half_pi r) (pi ⊖ r) (pick (lt r (neg half_pi)) (neg pi ⊖ r) r)

-- a10, a9, .. a0, where a_k = (-1)^k / (2k + 1)!
unfoldable pub sin_coefficients : List Float
sin_coefficients =
    one_over 51_090_942_171_709_440_000
    ∷ minus_one_over 121_645_100_408_832_000
    ∷ one_over 355_687_428_096_000
    ∷ minus_one_over 1_307_674_368_000
    ∷ one_over 6_227_020_800
    ∷ minus_one_over 39_916_800
    ∷ one_over 362_880
    ∷ minus_one_over 5_040
    ∷ one_over 120
    ∷ minus_one_over 6
    ∷ one
    ∷ []

-- let r2 = r * r; let mut p = a11; ..; p * r
unfoldable pub sin_poly : Float → Float
sin_poly r = horner (r ⊗ r) (minus_one_over 25_852_016_738_884_976_640_000) sin_coefficients ⊗ r

unfoldable pub det_sin : Float → Float
det_sin x = sin_poly (fold_sin (reduced x))

-- ---- det_cos

-- if r > HALF_PI { r = PI - r; sign = -1.0 }
unfoldable pub fold_cos : Float → Float
fold_cos r = pick (lt half_pi r) (pi ⊖ r) r

unfoldable pub sign_cos : Float → Float
sign_cos r = pick (lt half_pi r) (neg one) one

-- b10, b9, .. b0, where b_k = (-1)^k / (2k)!
unfoldable pub cos_coefficients : List Float
cos_coefficients =
    one_over 2_432_902_008_176_640_000
    ∷ minus_one_over 6_402_373_705_728_000
    ∷ one_over 20_922_789_888_000
    ∷ minus_one_over 87_178_291_200
    ∷ one_over 479_001_600
    ∷ minus_one_over 3_628_800
    ∷ one_over 40_320
    ∷ minus_one_over 720
    ∷ one_over 24
    ∷ minus_one_over 2
    ∷ one
    ∷ []

-- let r2 = r * r; let mut p = b11; .. (p is the answer)
unfoldable pub cos_poly : Float → Float
cos_poly r = horner (r ⊗ r) (minus_one_over 1_124_000_727_777_607_680_000) cos_coefficients

-- let mut r = r.abs(); ..; sign * p
unfoldable pub det_cos : Float → Float
det_cos x = let r = abs_of (reduced x) in sign_cos r ⊗ cos_poly (fold_cos r)

-- ---- what `turns` stands for

-- Rust's f64::round: the nearest whole number, from a half on away from zero, with the sign kept. proofs/Angles.antt shows that
-- `turns` is it at every angle of the tables.
unfoldable pub round_away : Float → Float
round_away nan = nan
round_away (inf s) = inf s
round_away (fin s m e) = round binary64 s ((2 * m * up e + down e) / (2 * down e)) 1
