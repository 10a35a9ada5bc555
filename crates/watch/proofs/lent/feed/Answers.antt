use Rattle.std.proofs.Common.{sym, subst, ◌≤◌}
use Rattle.capture.specs.Feeds.{Fed}
use Rattle.watch.proofs.Waits.{fed-waits}
use Rattle.watch.proofs.lent.feed.Goals as goal

pub returns-clause-waits : goal.returns-clause-waits
returns-clause-waits g c = subst (λ (f : Fed). f.answer.state.carried ≤ 255) (sym c.feed-answer.ensures) (fed-waits _ _ _ c.requires)
