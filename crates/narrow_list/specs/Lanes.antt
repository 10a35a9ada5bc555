-- 32 numbers gathered into one by an operation on two: four at a time in eight lanes, then the lanes. Definitions only. No public
-- contract cites them.
use Rattle.std.specs.Prelude.{List, ℕ, ◌+◌, Float, get_or}
use Rattle.std.specs.Float.{nan}
use Rattle.std.specs.Float.Ieee.{lt}
use Rattle.laws.specs.Choice.{pick}

-- the lesser of two, and the second where one is a NaN
abbrev pub lesser_of : Float → Float → Float
lesser_of x y = pick (lt x y) x y

module _ (op : Float → Float → Float) where
  abbrev pub lane : (ℕ → Float) → ℕ → Float
  lane x k = op (op (x k) (x (k + 8))) (op (x (k + 16)) (x (k + 24)))

  abbrev pub tree : (ℕ → Float) → Float
  tree s = op (op (op (s 0) (s 4)) (op (s 2) (s 6))) (op (op (s 1) (s 5)) (op (s 3) (s 7)))

  abbrev pub lane_of : List Float → ℕ → Float
  lane_of q = lane (λ k. get_or q k nan)

  abbrev pub gathered : List Float → Float
  gathered q = tree (lane_of q)
