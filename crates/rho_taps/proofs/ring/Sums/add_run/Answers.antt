-- A group is 32 terms more, and what the groups leave goes to the end of the run.
use Rattle.std.proofs.Common.{◌≡◌, ◌+◌, ◌-◌, ◌*◌, ◌%◌, ◌≤◌, length, arith}
use Rattle.laws.specs.Loops.{iter-none}
use Rattle.rho_taps.proofs.Parts.{group-estimate, group-energy, rest-estimate, rest-energy}
use Rattle.rho_taps.proofs.ring.Sums.add_run.Goals as goal

pub loop-g-init : goal.loop-g-init
loop-g-init c = record { estimate = iter-none _ _; energy = iter-none _ _ }

pub loop-g-preserved : goal.loop-g-preserved
loop-g-preserved c =
    let at = 32 * c.loop-g.g in
    let e : at + 32 ≡ 32 * (c.loop-g.g + 1) = omega arith in
    let room : at + 32 ≤ length c.args.samples.now = omega arith in
    record {
      estimate = rw e at (group-estimate c.args.weights.now c.args.samples.now c.args.self.estimate at room c.loop-g.invariant.estimate c.add_group-sums.ensures.estimate_value);
      energy = rw e at (group-energy c.args.weights.now c.args.samples.now c.args.self.energy at room c.loop-g.invariant.energy c.add_group-sums.ensures.energy_value);
    }

pub returns : goal.returns
returns c =
    let n = length c.args.samples.now in
    let e : 32 * c.loop-g.g ≡ n - n % 32 = omega arith in
    let room : n % 32 ≤ n = omega arith in
    record {
      estimate_value = rest-estimate c.args.weights.now c.args.samples.now c.args.self.estimate (n % 32) room c.requires.samples_len (rw e at c.loop-g.invariant.estimate) c.add.ensures.estimate_value;
      energy_value = rest-energy c.args.weights.now c.args.samples.now c.args.self.energy (n % 32) room (rw e at c.loop-g.invariant.energy) c.add.ensures.energy_value;
    }
