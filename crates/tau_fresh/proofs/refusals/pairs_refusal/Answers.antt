use Rattle.tau_fresh.specs.Refusals.{pairs_refusal}
use Rattle.laws.specs.Choice.{choices}
use borrow.Author.Rules.{rules}
use Rattle.tau_fresh.proofs.refusals.pairs_refusal.Goals as goal

pub returns-then-near-far : goal.returns-then-near-far
unfolding pairs_refusal
returns-then-near-far c = search (rules, choices)

pub returns-then-near-gt4096 : goal.returns-then-near-gt4096
unfolding pairs_refusal
returns-then-near-gt4096 c = search (rules, choices)

pub returns-then-out-carried : goal.returns-then-out-carried
unfolding pairs_refusal
returns-then-out-carried c = search (rules, choices)

pub returns : goal.returns
unfolding pairs_refusal
returns c = search (rules, choices)
