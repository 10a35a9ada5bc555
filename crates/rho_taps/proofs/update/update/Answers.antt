use Rattle.rho_taps.proofs.Runs.{updated-runs, sound-runs}
use Rattle.rho_taps.proofs.update.update.Goals as goal

pub returns : goal.returns
returns c = record {
  weights_after = rw (c.update_run-sound_first.ensures.weights_after, c.update_run-sound_second.ensures.weights_after, c.split_at.ensures.front, c.split_at.ensures.back, c.split_at_mut-first.ensures.front, c.split_at_mut-first.ensures.back)
      (updated-runs c.args.scale c.args.history.now c.args.weights.now c.args.pos c.requires.pos_in_bounds c.requires.weights_len);
  value = sound-runs c.args.scale c.args.history.now c.args.weights.now c.update_run-sound_first.new.weights c.update_run-sound_second.new.weights c.args.pos c.requires.weights_len
      (rw (c.update_run-sound_first.ensures.weights_after, c.update_run-sound_second.ensures.weights_after, c.split_at.ensures.front, c.split_at.ensures.back, c.split_at_mut-first.ensures.front, c.split_at_mut-first.ensures.back)
      (updated-runs c.args.scale c.args.history.now c.args.weights.now c.args.pos c.requires.pos_in_bounds c.requires.weights_len))
      c.update_run-sound_first.ensures.value c.update_run-sound_second.ensures.value;
}
