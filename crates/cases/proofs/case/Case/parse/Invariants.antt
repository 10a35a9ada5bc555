-- The fields before `k` are those of the line.
use Rattle.std.proofs.Common.{◌≡◌, ℕ, ◌+◌, ◌*◌, ◌<◌, length, slice_index}
use Rattle.cases.specs.Line.{number_at}
use Rattle.cases.proofs.case.Case.parse.Given as goal

abbrev pub invariant-loop-k : goal.invariant-loop-k
invariant-loop-k g l = record {
  size : length l.fields ≡ g.row.FIELDS;
  set : (j : ℕ) → j < l.k → slice_index l.fields j ≡ number_at l.line (17 * j + 2) 16;
}
