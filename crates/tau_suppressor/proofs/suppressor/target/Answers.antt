use Rattle.tau_suppressor.specs.Suppressor.{target_of}
use Rattle.laws.specs.Choice.{choices}
use borrow.Author.Rules.{rules}
use Rattle.tau_suppressor.proofs.suppressor.target.Goals as goal

pub returns-then-protect : goal.returns-then-protect
unfolding target_of
returns-then-protect c = search (rules, choices)

pub returns-then-sum : goal.returns-then-sum
unfolding target_of
returns-then-sum c = search (rules, choices)

pub returns : goal.returns
unfolding target_of
returns c = search (rules, choices)
