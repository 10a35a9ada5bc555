-- The far history, a ring whose newest sample stands at pos. Definitions only.
use Rattle.std.specs.Prelude.{ℕ, ◌+◌, ◌-◌, List, leb, eqb, Float, get_or}
use Rattle.std.specs.Float.{nan, binary64}
use Rattle.std.specs.Float.Ieee.{add, mul}
use Rattle.laws.specs.Choice.{pick}
use Rattle.laws.specs.Loops.{iter}
use Rattle.numbers.specs.Finite.{plus}
use Rattle.numbers.specs.Order.{abs_of, max_of}

-- the ring moves on by one
unfoldable pub next_of : ℕ → ℕ → ℕ
next_of pos n = pick (eqb (pos + 1) n) 0 (pos + 1)

-- where the sample of lag k stands, of n: from pos downward to 0, then from the top downward
unfoldable pub lag_slot_of : ℕ → ℕ → ℕ → ℕ
lag_slot_of pos n k = pick (leb k pos) (pos - k) (pos + n - k)

-- the far sample of lag k, newest first
abbrev pub lag_of : List Float → ℕ → ℕ → ℕ → Float
lag_of history pos n k = get_or history (lag_slot_of pos n k) nan

-- In the Rust's words "One pass over the history in fixed lag order (newest to oldest)": the echo estimate, the window energy and the peak magnitude
unfoldable pub estimate_of : List Float → List Float → ℕ → ℕ → Float
estimate_of weights history pos n = iter (λ k a. add binary64 a (mul binary64 (get_or weights k nan) (lag_of history pos n k))) plus n

unfoldable pub window_energy_of : List Float → ℕ → ℕ → Float
window_energy_of history pos n = iter (λ k a. add binary64 a (mul binary64 (lag_of history pos n k) (lag_of history pos n k))) plus n

unfoldable pub peak_of : List Float → ℕ → ℕ → Float
peak_of history pos n = iter (λ k a. max_of a (abs_of (lag_of history pos n k))) plus n
