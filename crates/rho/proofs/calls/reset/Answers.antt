use Rattle.std.proofs.Common.{sym, rules}
use Rattle.std.specs.Float.Ieee.{of_bits}
use Rattle.laws.specs.Choice.{pick}
use Rattle.rho.specs.Calls.{reset_of}
use Rattle.rho_state.proofs.Accepted.{accepted-state}
use Rattle.rho.proofs.calls.reset.Goals as goal

pub returns : goal.returns
unfolding reset_of pick of_bits
returns c =
    let zero = rw c.in_ok-check_state.was at c.check_state.ensures in
    let z = accepted-state _ _ _ (sym zero) in
    rw (← zero, c.fresh.ensures, c.fill.ensures.after (search rules), c.fill-2.ensures.after (search rules), z.sized.weights, z.sized.history)
