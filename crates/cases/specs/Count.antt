-- What a line adds to a tally. Definitions only.
--     more n               one more than n, or n where a u64 has no more
--     judged t got want    a case: it counts, and it differs where the two patterns do
--     refused t            a line that is no case
use Rattle.std.specs.Prelude.{ℕ, ◌+◌, ◌-◌, ◌^◌, eqb, ltb}
use Rattle.laws.specs.Choice.{pick}
use Rattle.cases.specs.declared.tally.Tally.{Tally}

unfoldable pub more : ℕ → ℕ
more n = pick (ltb n (2 ^ 64 - 1)) (n + 1) n

unfoldable pub judged : Tally → ℕ → ℕ → Tally
judged t got want =
    record {
      lines = more t.lines;
      cases = more t.cases;
      differ = pick (eqb got want) t.differ (more t.differ);
      refused = t.refused;
    }

unfoldable pub refused : Tally → Tally
refused t = record { lines = more t.lines; cases = t.cases; differ = t.differ; refused = more t.refused }
