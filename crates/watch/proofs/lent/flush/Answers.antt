use Rattle.std.proofs.Common.{sym, subst, ◌≤◌}
use Rattle.capture.specs.Feeds.{Fed}
use Rattle.watch.proofs.Waits.{ended-waits}
use Rattle.watch.proofs.lent.flush.Goals as goal

pub returns-clause-waits : goal.returns-clause-waits
returns-clause-waits g c = subst (λ (f : Fed). f.answer.state.carried ≤ 255) (sym c.finish-answer.ensures) (ended-waits _ _ c.requires)
