-- Kinds of floats by their range, for the bounds of the engines' factors. Definitions only.
--     Unit x         from 0 to 1
--     Power x        not below 0, or a NaN: what a sum of squares is, whatever was squared
use Rattle.std.specs.Prelude.{zero, suc, Bool, true, false, not, T, pos, Float}
use Rattle.std.specs.Float.{nan, inf, fin}
use Rattle.std.specs.Float.Ieee.{le}
use Rattle.numbers.specs.Finite.{plus}

-- 1.0
abbrev pub one : Float
one = fin false 1 (pos 0)

pub record Unit (x : Float) : Type 0 where
  pub low : T (le plus x)
  pub high : T (le x one)

abbrev pub is_power : Float → Bool
is_power nan = true
is_power (inf s) = not s
is_power (fin s zero e) = true
is_power (fin s (suc m) e) = not s

pub record Power (x : Float) : Type 0 where
  pub power : T (is_power x)
