use Rattle.std.proofs.Common.{sym, subst, true, ◌≤◌, replicate}
use Rattle.tau_state.specs.Constants.{zero64}
use Rattle.tau_frame.specs.Pairs.{Engine}
use Rattle.capture.specs.Program.{start_of}
use Rattle.watch.proofs.Waits.{created-waits}
use Rattle.watch.proofs.Watch.new.Goals as goal

pub invariant_of-result : goal.invariant_of-result
unfolding start_of
invariant_of-result c =
    subst (λ (e : Engine). e.state.carried ≤ 255) (sym c.new.ensures) (created-waits 4 true (replicate 2056 zero64) (replicate 2056 zero64) (replicate 2056 zero64) (replicate 1028 zero64))

pub returns-clause-begun : goal.returns-clause-begun
unfolding start_of
returns-clause-begun c = λ i. record { engine = c.new.ensures i; course = c.start.ensures i }
