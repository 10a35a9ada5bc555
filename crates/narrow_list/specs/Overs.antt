-- How many numbers of a list go over. Definitions only.
use Rattle.std.specs.Prelude.{List, [], ◌∷◌, map, ℕ, ◌+◌, Bool, true, false, Float}
use Rattle.std.specs.Float.{binary64}
use Rattle.std.specs.Float.Ieee.{mul}
use Rattle.numbers.specs.Narrowing.{kind_of}
use Rattle.numbers.specs.declared.narrowing.Kind.{Kind}
use Rattle.numbers.specs.declared.narrowing.Kind.TheVariants.{Exact, Rounded, Over}

-- whether a number of this kind went over
abbrev pub is_over : Kind → Bool
is_over Exact = false
is_over Rounded = false
is_over Over = true

-- what a number of this kind adds to the count
unfoldable pub over_one : Kind → ℕ
over_one Exact = 0
over_one Rounded = 0
over_one Over = 1

-- K8: "how many of its .. samples went over"
unfoldable pub over_count : List Float → ℕ
over_count [] = 0
over_count (x ∷ xs) = over_one (kind_of x) + over_count xs

-- each number times the scale
abbrev pub scaled_by : Float → List Float → List Float
scaled_by scale xs = map (λ x. mul binary64 x scale) xs
