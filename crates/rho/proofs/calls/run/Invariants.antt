use Rattle.std.proofs.Common.{◌≡◌, ◌<◌, length}
use Rattle.rho.proofs.Going.{Going}
use Rattle.rho.proofs.calls.run.Given as goal

abbrev pub invariant-loop-k : goal.invariant-loop-k
invariant-loop-k l = record {
  weights_len : length l.weights ≡ l.state.taps;
  history_len : length l.history ≡ l.state.taps;
  pos_lt_taps : l.state.pos < l.state.taps;
  going : Going (record { state = l.initial.state; weights = l.initial.weights; history = l.initial.history }) l.near l.far l.initial.out l.k (record { state = l.state; weights = l.weights; history = l.history }) l.out;
}
