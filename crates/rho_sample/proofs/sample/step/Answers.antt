use Rattle.std.proofs.Common.{◌∙◌, length-set, arith}
use Rattle.rho_sample.specs.Sample.{after_of}
use Rattle.rho_sample.proofs.Steps.{step_is}
use Rattle.rho_sample.proofs.sample.step.Goals as goal

pub returns : goal.returns
unfolding after_of
returns c = step_is _ _ _ _ _ _ _ _ _ _ _ _ _ _ _ _
    c.next_position-pos.ensures.value
    (length-set c.args.history.now c.next_position-pos.result c.args.far ∙ c.requires.history_len)
    (rw (c.widen.ensures, c.sums_of-sums.ensures.estimate_value))
    c.sums_of-sums.ensures.energy_value
    c.narrow-output.ensures
    c.is_finite32-fine.ensures
    (c.peak.ensures.around_ring _ (omega (arith, c.next_position-pos.ensures.upper_bound, length-set c.args.history.now c.next_position-pos.result c.args.far)))
    c.is_loud-loud.ensures
    c.freeze-left.ensures
    (rw c.scale_of.ensures at c.adapt-state.ensures)
    c.finite_or_zero-delivered.ensures
    (rw (c.smooth-state.ensures, c.smooth-state-2.ensures))
