-- Finite or not, over the values of lib.Ieee. Definitions only.
use Rattle.std.specs.Prelude.{Bool, true, false, pos}
use lib.Ieee.{Float, nan, inf, fin}
use Rattle.laws.specs.Choice.{pick}

-- +0.0
abbrev pub plus : Float
plus = fin false 0 (pos 0)

-- neither a NaN nor an infinity
unfoldable pub is_finite : Float → Bool
is_finite nan = false
is_finite (inf s) = false
is_finite (fin s m e) = true

-- "A call turns non-finite samples into 0.0"
unfoldable pub finite_or_zero : Float → Float
finite_or_zero x = pick (is_finite x) x plus
