use Rattle.std.proofs.Common.{sym, subst, ◌≤◌}
use Rattle.tau.specs.Calls.{Begun}
use Rattle.tau_streams.specs.Stream.{begun_by}
use Rattle.watch.proofs.Waits.{created-waits}
use Rattle.watch.proofs.lent.start.Goals as goal

pub returns-clause-waits : goal.returns-clause-waits
returns-clause-waits c = subst (λ (b : Begun). b.answer.state.carried ≤ 255) (sym c.create-started.ensures) (created-waits _ _ _ _ _ _)

pub returns-clause-begun : goal.returns-clause-begun
returns-clause-begun c = λ i. record { engine = begun_by (c.create-started.ensures i); course = c.start.ensures i }
