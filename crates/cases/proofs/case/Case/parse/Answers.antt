-- `Case::parse` meets its contract: a turn sets one field more.
use Rattle.std.proofs.Common.{rules, ◌+◌, ◌*◌}
use Rattle.cases.specs.Line.{number_at}
use Rattle.cases.proofs.Fields.{one_more}
use Rattle.cases.proofs.case.Case.parse.Goals as goal

pub loop-k-preserved : goal.loop-k-preserved
loop-k-preserved g c = record {
  size = search rules;
  set = one_more (λ j. number_at c.args.line.now (17 * j + 2) 16) _ _ _ (search rules) c.loop-k.invariant.set c.field.ensures;
}
