use Rattle.std.proofs.Common.{sym, rules}
use Rattle.std.proofs.lemmas.List.{length-replicate}
use Rattle.std.specs.Float.Ieee.{of_bits}
use Rattle.laws.specs.Choice.{pick}
use Rattle.rho.specs.Calls.{create_of}
use Rattle.rho_state.proofs.Accepted.{accepted-settings}
use Rattle.rho.proofs.calls.create.Goals as goal

pub returns : goal.returns
unfolding create_of pick of_bits
returns c =
    let zero = rw c.in_ok-check_create.was at c.check_create.ensures in
    let z = accepted-settings _ _ _ _ (sym zero) in
    rw (← zero, c.fresh.ensures, c.hangover_of.ensures, c.fill.ensures.after (search rules), c.fill-2.ensures.after (search rules), length-replicate, z.sized.weights, z.sized.history)
