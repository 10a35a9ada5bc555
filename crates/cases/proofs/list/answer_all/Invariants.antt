-- The lines that are left come to what is counted in the end.
use Rattle.std.proofs.Common.{◌≡◌, ◌+◌, ◌*◌, ◌/◌, ◌^◌, ◌<◌, length}
use Rattle.cases.proofs.list.answer_all.Given as goal

abbrev pub invariant-loop-line : goal.invariant-loop-line
invariant-loop-line g l = record {
  size : l.line-iterator.size ≡ 17 * g.row.FIELDS + 2;
  count : l.fn.tally.lines + length l.fn.lines / (17 * g.row.FIELDS + 2) < 2 ^ 64
      → l.tally.lines + length l.line-iterator.rest.now / (17 * g.row.FIELDS + 2) ≡ l.fn.tally.lines + length l.fn.lines / (17 * g.row.FIELDS + 2);
}
