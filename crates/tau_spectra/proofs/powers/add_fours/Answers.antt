use Rattle.std.proofs.Common.{rules, arith, ◌≡◌, ◌+◌, ◌-◌, ◌*◌}
use Rattle.std.proofs.Math.Nat.{add-sub_cancel_left}
use Rattle.laws.specs.Loops.{loops}
use Rattle.tau_spectra.specs.Powers.{kept_power_to}
use Rattle.tau_spectra.proofs.Fours.{four-turn}
use Rattle.tau_spectra.proofs.powers.add_fours.Goals as goal

pub loop-four-init : goal.loop-four-init
unfolding kept_power_to
loop-four-init c = search (rules, loops)

pub loop-four-preserved : goal.loop-four-preserved
loop-four-preserved c =
    let four = c.loop-four.four in
    let size : 1028 * four + 1028 - 1028 * four ≡ 1028 = add-sub_cancel_left (1028 * four) 1028 in
    let place : 1028 * four ≡ 257 * (4 * four) = omega arith in
    let next : 4 * (four + 1) ≡ 4 * four + 4 = omega arith in
    rw next (four-turn c.args.powers.now (4 * four) c.loop-four.invariant (rw (size, place) at c.add_four.ensures))
