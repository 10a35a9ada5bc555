use Rattle.std.specs.Float.Ieee.{of_bits}
use Rattle.rho_taps.proofs.Runs.{estimate-runs, energy-runs}
use Rattle.rho_taps.proofs.ring.sums_of.Goals as goal

pub returns : goal.returns
unfolding of_bits
returns c = record {
  estimate_value = rw (c.add_run-2.ensures.estimate_value, c.add_run.ensures.estimate_value, c.default.ensures.0, c.split_at.ensures.front, c.split_at.ensures.back, c.split_at-2.ensures.front, c.split_at-2.ensures.back)
      (estimate-runs c.args.weights.now c.args.history.now c.args.pos c.requires.pos_in_bounds);
  energy_value = rw (c.add_run-2.ensures.energy_value, c.add_run.ensures.energy_value, c.default.ensures.1, c.split_at-2.ensures.front, c.split_at-2.ensures.back)
      (energy-runs c.args.weights.now c.args.history.now c.args.pos c.requires.pos_in_bounds);
}
