use Rattle.std.proofs.Common.{◌≡◌, get_or, take}
use Rattle.std.specs.List.{list_all}
use Rattle.std.specs.Float.{nan, binary32}
use Rattle.std.specs.Float.Ieee.{add}
use Rattle.laws.specs.Loops.{over}
use Rattle.numbers.specs.Finite.{is_finite}
use Rattle.rho_taps.proofs.update.add_steps.Given as goal

abbrev pub invariant-loop-k : goal.invariant-loop-k
invariant-loop-k l = record {
  weights : l.weights ≡ over l.k (λ j weight. add binary32 weight (get_or l.steps j nan)) l.initial.weights;
  sound : l.sound ≡ list_all is_finite (take l.k l.weights);
}
