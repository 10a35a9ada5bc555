-- `answer_all` meets its contract: a turn takes a line off and counts one more.
use Rattle.std.proofs.Common.{rules, ap, length, arith, length-append}
use Rattle.cases.specs.Count.{judged, refused}
use Rattle.cases.proofs.Count.{one_line}
use Rattle.cases.proofs.list.answer_all.Goals as goal

pub loop-line-preserved-in-Some-answered : goal.loop-line-preserved-in-Some-answered
unfolding judged
loop-line-preserved-in-Some-answered g c = record {
  size = search rules;
  count = λ f. one_line _ _ _ _ _ _ (omega arith) (ap (λ t. t.lines) c.judge.ensures) (omega (arith, c.in-Some.ensures.steps.1.1, simp length-append at (ap length c.in-Some.ensures.steps.1.0))) f (c.loop-line.invariant.count f);
}

pub loop-line-preserved : goal.loop-line-preserved
unfolding refused
loop-line-preserved g c = record {
  size = search rules;
  count = λ f. one_line _ _ _ _ _ _ (omega arith) (ap (λ t. t.lines) c.refuse.ensures) (omega (arith, c.in-Some.ensures.steps.1.1, simp length-append at (ap length c.in-Some.ensures.steps.1.0))) f (c.loop-line.invariant.count f);
}
