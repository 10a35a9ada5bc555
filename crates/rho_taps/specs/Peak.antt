-- The greatest size in index order, and what the code computes on the way to it. Definitions only.
use Rattle.std.specs.Prelude.{ℕ, ◌+◌, ◌-◌, ◌*◌, List, Float, length, get_or, replicate}
use Rattle.std.specs.Float.{nan}
use Rattle.std.specs.Float.Ieee.{neg, lt}
use Rattle.laws.specs.Choice.{pick}
use Rattle.laws.specs.Loops.{iter, over}
use Rattle.numbers.specs.Finite.{plus}
use Rattle.numbers.specs.Order.{abs_of, max_of}

-- the greatest size in xs, from +0.0 and from the first place on; a NaN is ignored
unfoldable pub peak_up : List Float → Float
peak_up xs = iter (λ k a. max_of a (abs_of (get_or xs k nan))) plus (length xs)

-- ---- what the code computes; no public contract cites these

-- x where it is above p, else p, as where one of them is a NaN
unfoldable pub greater_of : Float → Float → Float
greater_of p x = pick (lt p x) x p

-- the size of x where that is above p, else p
unfoldable pub with_size : Float → Float → Float
with_size p x = greater_of p (greater_of x (neg x))

-- p, with the sizes from place start to the end
unfoldable pub onward_of : List Float → ℕ → Float → Float
onward_of xs start p = iter (λ k a. with_size a (get_or xs (start + k) nan)) p (length xs - start)

-- sixteen running maxima after n times sixteen samples: the sample at 16 b + q goes to the one at q
unfoldable pub lanes_of : List Float → ℕ → List Float
lanes_of xs n = iter (λ b p. over 16 (λ q a. with_size a (get_or xs (16 * b + q) nan)) p) (replicate 16 plus) n
