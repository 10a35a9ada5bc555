-- A weight plus its step is the weight nudged.
use Rattle.std.proofs.Common.{◌≡◌, ℕ, ◌<◌, List, Float, length, get_or, ap, ◌∙◌, sym}
use Rattle.std.specs.Float.{nan, binary32, binary64}
use Rattle.std.specs.Float.Ieee.{add, mul}
use Rattle.laws.specs.Loops.{over}
use Rattle.laws.specs.Readings.{over-cong}
use Rattle.numbers.specs.Narrowing.{narrow_of}
use Rattle.rho_taps.specs.Update.{nudge_of}
use Rattle.rho_taps.specs.Runs.{newest, nudged_by}
use Rattle.rho_taps.proofs.update.update_group.Goals as goal

nudged : (scale : Float) (xs steps w : List Float) → length xs ≡ 32 → ((k : ℕ) → k < 32 → get_or steps k nan ≡ narrow_of (mul binary64 scale (newest xs k)))
    → over 32 (λ k x. add binary32 x (get_or steps k nan)) w ≡ nudged_by scale xs w
unfolding nudge_of
nudged scale xs steps w n p =
    over-cong (λ k x. add binary32 x (get_or steps k nan)) (λ k x. add binary32 x (narrow_of (mul binary64 scale (newest xs k)))) w 32 (λ k x l. ap (add binary32 x) (p k l))
    ∙ ap (λ (m : ℕ). over m (λ k x. add binary32 x (narrow_of (mul binary64 scale (newest xs k)))) w) (sym n)

pub returns-clause-weights_after : goal.returns-clause-weights_after
returns-clause-weights_after c = c.add_steps.ensures.weights_after ∙ nudged c.args.scale c.args.samples.now c.steps_of-steps.result c.args.weights.now c.requires.samples_len c.steps_of-steps.ensures
