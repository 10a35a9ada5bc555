-- The heading and the rows of the numbers before this one stand.
use Rattle.std.proofs.Common.{ℕ, ◌+◌, ◌-◌, ◌*◌, ◌≤◌, List, length}
use Rattle.reasons.specs.Tally.{Heading, Rows}
use Rattle.reasons.proofs.tally.summary.Given as goal

pub record Going (blocks : ℕ) (counts : List ℕ) (n : ℕ) (t : List ℕ) : Type 0 where
  pub heading : List ℕ
  pub is-heading : Heading blocks heading
  pub is-rows : Rows counts n heading t

abbrev pub invariant-loop-number : goal.invariant-loop-number
invariant-loop-number l = (length l.text.bytes + 48 ≤ 29 + 48 * l.number) × Going l.blocks l.counts (l.number - 1) l.text.bytes
