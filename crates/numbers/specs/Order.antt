-- Sizes and the order, over the values of lib.Ieee. Definitions only.
use Rattle.std.specs.Prelude.{false, is_nan}
use lib.Ieee.{Float, nan, inf, fin, lt}
use Rattle.laws.specs.Choice.{pick}

-- the size of x: the sign of a zero and of an infinity goes too
unfoldable pub abs_of : Float → Float
abs_of nan = nan
abs_of (inf s) = inf false
abs_of (fin s m e) = fin false m e

-- "Minimum and maximum with one NaN give the other operand". Of two equal ones, as +0.0 and -0.0, the first.
unfoldable pub min_of : Float → Float → Float
min_of x y = pick (is_nan x) y (pick (lt y x) y x)

unfoldable pub max_of : Float → Float → Float
max_of x y = pick (is_nan x) y (pick (lt x y) y x)

-- x held between lo and hi; "a clamped NaN stays NaN"
unfoldable pub clamp_of : Float → Float → Float → Float
clamp_of x lo hi = pick (lt x lo) lo (pick (lt hi x) hi x)
