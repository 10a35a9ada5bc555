-- Counters that hold at their largest: "stay at their largest number where Rust would wrap".
use Rattle.std.specs.Prelude.{ℕ, ◌+◌, ◌-◌, ◌^◌, ltb}
use Rattle.laws.specs.Choice.{pick}

-- one more, and no more than 64 bits hold
unfoldable pub one_more : ℕ → ℕ
one_more n = pick (ltb n (2 ^ 64 - 1)) (n + 1) n

-- nor than 32 bits
unfoldable pub one_more32 : ℕ → ℕ
one_more32 n = pick (ltb n (2 ^ 32 - 1)) (n + 1) n
