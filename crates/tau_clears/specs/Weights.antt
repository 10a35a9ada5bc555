-- What is done to all weights of a filter at once, number by number. Definitions only.
use Rattle.std.specs.Prelude.{List, map, get_or, length, replicate, Float}
use Rattle.std.specs.Float.{nan, binary64}
use Rattle.std.specs.Float.Ieee.{add, sub, mul}
use Rattle.laws.specs.Loops.{over}
use Rattle.tau_state.specs.Constants.{zero64, f0·5}

-- every number +0.0
unfoldable pub cleared : List Float → List Float
cleared d = replicate (length d) zero64

-- every number times 0.5
unfoldable pub halved : List Float → List Float
halved d = map (λ x. mul binary64 x f0·5) d

-- "each weight moves by leak times its difference": every number of d towards s's
unfoldable pub leaked : Float → List Float → List Float → List Float
leaked leak s d = over (length d) (λ k w. add binary64 w (mul binary64 leak (sub binary64 (get_or s k nan) w))) d
