-- The carries of pairs that fill no block. Definitions only.
use Rattle.std.specs.Prelude.{List, [], ◌∷◌, ℕ, ◌+◌, Float, set, length}
use Rattle.numbers.specs.Finite.{finite_or_zero}
use Rattle.tau_state.specs.declared.state.TauCanceller.{TauCanceller}
use Rattle.tau_frame.specs.Pairs.{carrying}

-- a carry with the samples at place n and behind it
unfoldable pub filled_of : List Float → ℕ → List Float → List Float
filled_of carry n [] = carry
filled_of carry n (x ∷ xs) = filled_of (set carry n (finite_or_zero x)) (n + 1) xs

-- the state with such pairs in its carry
abbrev pub filled_in : TauCanceller → List Float → List Float → TauCanceller
filled_in s near far =
    let n = s.carried in
    carrying s (filled_of s.near_carry n near) (filled_of s.far_carry n far) (n + length near)
