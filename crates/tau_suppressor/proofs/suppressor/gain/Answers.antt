use Rattle.tau_suppressor.specs.Suppressor.{gain_of}
use Rattle.laws.specs.Choice.{choices}
use borrow.Author.Rules.{rules}
use Rattle.tau_suppressor.proofs.suppressor.gain.Goals as goal

pub returns-then-g-target : goal.returns-then-g-target
unfolding gain_of
returns-then-g-target c = search (rules, choices)

pub returns : goal.returns
unfolding gain_of
returns c = search (rules, choices)
