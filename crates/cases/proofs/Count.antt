-- One more, by `saturating_add`. Assumes nothing.
use Rattle.std.proofs.Common.{◌≡◌, ℕ, ◌+◌, ◌-◌, ◌/◌, ◌^◌, ◌<◌, min, refl, inl, inr, lt-ltb, le-ltb, arith}
use Rattle.std.proofs.Math.Nat.{add-div_left}
use Rattle.laws.specs.Choice.{pick_yes, pick_no, lt-or-ge}
use Rattle.cases.specs.Count.{more}

pub more_saturates : (n : ℕ) {m : ℕ} → m ≡ min (n + 1) (2 ^ 64 - 1) → n < 2 ^ 64 → m ≡ more n
unfolding more
more_saturates n e h = elim (lt-or-ge n (2 ^ 64 - 1)) [
  | inl l ↦ pick_yes _ _ _ (lt-ltb _ _ l) (omega arith)
  | inr l ↦ pick_no _ _ _ (le-ltb _ _ l) (omega arith)
]

-- A line of d bytes is counted, and b bytes are left of a.
pub one_line : (n m a b d total : ℕ) → 0 < d → m ≡ more n → a ≡ d + b → total < 2 ^ 64 → n + a / d ≡ total → m + b / d ≡ total
unfolding more
one_line n m a b d total p e l f h =
    let q : a / d ≡ b / d + 1 = rw l (add-div_left b p) in
    let one : n + 1 ≡ more n = pick_yes _ _ _ (lt-ltb _ _ (omega (arith, q, h))) refl in
    omega (arith, e, one, q, h)
