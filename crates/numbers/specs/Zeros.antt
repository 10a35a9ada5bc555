-- Kinds of floats, for the singer's rule: what a sample is, and what is left of a zero. Definitions only.
--     Zero x         +0.0 or -0.0
--     Plus x         +0.0
--     Faint x        +0.0, -0.0 or a NaN: what is left of a zero after it was multiplied by anything
--     Blank x        +0.0, where it is finite at all
--     Finite x       neither a NaN nor an infinity
--     Fits x         an f32
--     Still y        no sound: what the sample is read as equals 0.0. So 0.0, -0.0, NaN and the infinities are still
use Rattle.std.specs.Prelude.{◌≡◌, zero, suc, Bool, true, false, T, Float}
use Rattle.std.specs.Float.{nan, inf, fin, binary32}
use Rattle.std.specs.Float.Ieee.{eq, fits}
use Rattle.numbers.specs.Finite.{plus, is_finite, finite_or_zero}

abbrev pub is_zero : Float → Bool
is_zero nan = false
is_zero (inf s) = false
is_zero (fin s zero e) = true
is_zero (fin s (suc m) e) = false

abbrev pub is_faint : Float → Bool
is_faint nan = true
is_faint (inf s) = false
is_faint (fin s zero e) = true
is_faint (fin s (suc m) e) = false

pub record Zero (x : Float) : Type 0 where
  pub zero : T (is_zero x)

pub record Faint (x : Float) : Type 0 where
  pub faint : T (is_faint x)

pub record Plus (x : Float) : Type 0 where
  pub is : x ≡ plus

pub record Blank (x : Float) : Type 0 where
  pub clear : is_finite x ≡ true → x ≡ plus

pub record Finite (x : Float) : Type 0 where
  pub finite : T (is_finite x)

pub record Fits (x : Float) : Type 0 where
  pub fit : T (fits binary32 x)

pub record Still (y : Float) : Type 0 where
  pub still : eq (finite_or_zero y) plus ≡ true
