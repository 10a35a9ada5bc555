-- `line_order::at_most` meets its contract: the values decide, and where these are the same the bytes. Assumes nothing.
use Rattle.std.proofs.Common.{rules, ◌∙◌}
use Rattle.line_order.proofs.Walk.{at-most-compared}
use Rattle.line_order.proofs.at_most.Goals as goal

pub returns : goal.returns
returns c = c.is_le.ensures ∙ at-most-compared c.args.a.now c.args.b.now c.compare_by_value.ensures c.then_with.ensures (λ k. search rules)
