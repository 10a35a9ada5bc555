use Rattle.tau_update.specs.Update.{factor_of}
use Rattle.laws.specs.Choice.{choices}
use Rattle.laws.specs.Choice.{pick_yes}
use borrow.Author.Rules.{rules}
use Rattle.tau_update.proofs.update.factor.Goals as goal

pub returns-then-mean : goal.returns-then-mean
unfolding factor_of
returns-then-mean c = pick_yes _ _ _ c.if-mean.true (rw (c.max.ensures, c.min-share.ensures))

pub returns : goal.returns
unfolding factor_of
returns c = search (rules, choices)
