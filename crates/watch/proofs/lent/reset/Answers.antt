use Rattle.std.proofs.Common.{arith, sym, subst, ◌≤◌}
use Rattle.tau.specs.Calls.{Begun}
use Rattle.watch.proofs.Waits.{reset-waits}
use Rattle.watch.proofs.lent.reset.Goals as goal

pub returns-clause-waits : goal.returns-clause-waits
returns-clause-waits g c =
    let before = c.requires in
    let after = subst (λ (b : Begun). b.answer.state.carried ≤ 255) (sym c.reset-started.ensures) (reset-waits _ before) in
    omega (arith, before, after)
