-- A group is 32 weights more, and what the groups leave goes to the end of the run.
use Rattle.std.proofs.Common.{◌≡◌, ◌+◌, ◌-◌, ◌*◌, ◌%◌, ◌≤◌, length, refl, arith}
use Rattle.laws.specs.Loops.{over_none}
use Rattle.rho_taps.proofs.Parts.{group-weights, rest-weights, next-sound, last-sound}
use Rattle.rho_taps.proofs.update.update_run.Goals as goal

pub loop-g-init : goal.loop-g-init
loop-g-init c = record { weights = over_none _ _; sound = refl }

pub loop-g-preserved : goal.loop-g-preserved
loop-g-preserved c =
    let at = 32 * c.loop-g.g in
    let e : at + 32 ≡ 32 * (c.loop-g.g + 1) = omega arith in
    let m : at + 32 - at ≡ 32 = omega arith in
    let room : 32 * (c.loop-g.g + 1) ≤ length c.args.samples.now = omega arith in
    record {
      weights = group-weights c.args.scale c.args.samples.now c.args.weights.now at (at + 32 - at) (32 * (c.loop-g.g + 1)) m e room c.loop-g.invariant.weights c.update_group-fine.ensures.weights_after;
      sound = next-sound at (at + 32 - at) (32 * (c.loop-g.g + 1)) c.loop-g.weights c.update_group-fine.new.weights (omega arith) (omega arith) c.loop-g.invariant.sound c.update_group-fine.ensures.value;
    }

pub returns : goal.returns
returns c =
    let n = length c.args.samples.now in
    let m = length c.loop-g.weights - (n - n % 32) in
    let e : 32 * c.loop-g.g ≡ n - n % 32 = omega arith in
    let room : n % 32 ≤ n = omega arith in
    record {
      weights_after = rest-weights c.args.scale c.args.samples.now c.args.weights.now (n % 32) m (omega arith) room (rw e at c.loop-g.invariant.weights) c.update_rest-fine.ensures.weights_after;
      value = last-sound (n - n % 32) m c.loop-g.weights c.update_rest-fine.new.weights (omega arith) (rw e at c.loop-g.invariant.sound) c.update_rest-fine.ensures.value;
    }
