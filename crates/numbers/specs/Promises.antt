-- What each public function promises: what it is given, then its answer. The contracts cite these names, and crate promises proves that
-- each admits one answer (Answers). Where f32 and f64 have one definition they have one promise: `abs32`, `max32` and `is_finite32` have
-- that of the name without the width.
use Rattle.std.specs.Prelude.{◌≡◌, ℕ, min, Bool, from_bits, to_bits, Float}
use Rattle.std.specs.Float.{binary32, binary64}
use Rattle.numbers.specs.declared.narrowing.Kind.{Kind}
use Rattle.numbers.specs.declared.narrowing.Narrowed.{Narrowed}
use Rattle.numbers.specs.Order.{abs_of, min_of, max_of, clamp_of}
use Rattle.numbers.specs.Finite.{is_finite, finite_or_zero}
use Rattle.numbers.specs.Narrowing.{narrow_of, told_of, kind_number, is_plain, plain_squares, rounded_of}

-- ---- sizes and the order

abbrev pub Abs : Float → Float → Type 0
Abs x r = r ≡ abs_of x

abbrev pub Min : Float → Float → Float → Type 0
Min x y r = r ≡ min_of x y

abbrev pub Max : Float → Float → Float → Type 0
Max x y r = r ≡ max_of x y

abbrev pub Clamp : Float → Float → Float → Float → Type 0
Clamp x lo hi r = r ≡ clamp_of x lo hi

abbrev pub Lesser : ℕ → ℕ → ℕ → Type 0
Lesser a b r = r ≡ min a b

-- ---- finite or not

abbrev pub IsFinite : Float → Bool → Type 0
IsFinite x r = r ≡ is_finite x

abbrev pub FiniteOrZero : Float → Float → Type 0
FiniteOrZero x r = r ≡ finite_or_zero x

-- ---- widening and narrowing

abbrev pub Widen : Float → Float → Type 0
Widen x r = r ≡ x

abbrev pub Narrow : Float → Float → Type 0
Narrow x r = r ≡ narrow_of x

abbrev pub NarrowBits : Float → ℕ → Type 0
NarrowBits x r = r ≡ to_bits binary32 (narrow_of x)

abbrev pub NarrowTold : Float → Narrowed → Type 0
NarrowTold x r = r ≡ told_of x

abbrev pub KindNumber : Kind → ℕ → Type 0
KindNumber kind r = r ≡ kind_number kind

abbrev pub IsPlain : Float → Bool → Type 0
IsPlain x r = r ≡ is_plain x

abbrev pub PlainSquares : Float → Float → Bool → Type 0
PlainSquares least most r = r ≡ plain_squares least most

abbrev pub Rounded : Float → Float → Type 0
Rounded x r = r ≡ rounded_of x

-- ---- bits

abbrev pub FromBits : ℕ → Float → Type 0
FromBits b r = r ≡ from_bits binary64 b

abbrev pub FromBits32 : ℕ → Float → Type 0
FromBits32 b r = r ≡ from_bits binary32 b

abbrev pub ToBits : Float → ℕ → Type 0
ToBits x r = r ≡ to_bits binary64 x

abbrev pub ToBits32 : Float → ℕ → Type 0
ToBits32 x r = r ≡ to_bits binary32 x
