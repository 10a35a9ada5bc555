use Rattle.std.proofs.Common.{◌≡◌, length, take_all, ◌≤◌, refl, arith}
use Rattle.laws.specs.Loops.{over_none, over-turn}
use Rattle.rho_taps.proofs.Parts.{one-sound}
use Rattle.rho_taps.proofs.update.add_steps.Goals as goal

pub loop-k-init : goal.loop-k-init
loop-k-init c = record { weights = over_none _ _; sound = refl }

pub loop-k-preserved : goal.loop-k-preserved
loop-k-preserved c = record {
  weights = over-turn _ _ _ c.loop-k.invariant.weights refl;
  sound = one-sound _ _ _ (omega arith) c.loop-k.invariant.sound c.is_finite32-sound.ensures;
}

pub returns : goal.returns
returns c =
    let e : c.loop-k.k ≡ 32 = omega arith in
    let n : length c.loop-k.weights ≤ c.loop-k.k = omega arith in
    record { weights_after = rw e at c.loop-k.invariant.weights; value = rw take_all at c.loop-k.invariant.sound }
