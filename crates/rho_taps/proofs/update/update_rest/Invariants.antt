use Rattle.std.proofs.Common.{◌≡◌, take}
use Rattle.std.specs.List.{list_all}
use Rattle.laws.specs.Loops.{over}
use Rattle.numbers.specs.Finite.{is_finite}
use Rattle.rho_taps.specs.Update.{nudge_of}
use Rattle.rho_taps.specs.Runs.{newest}
use Rattle.rho_taps.proofs.update.update_rest.Given as goal

abbrev pub invariant-loop-k : goal.invariant-loop-k
invariant-loop-k l = record {
  weights : l.weights ≡ over l.k (λ j weight. nudge_of l.scale (newest l.samples j) weight) l.initial.weights;
  sound : l.sound ≡ list_all is_finite (take l.k l.weights);
}
