use Rattle.tau_fresh.specs.Fresh.{fresh_mic}
use mathlib.Core.Path.{refl}
use Rattle.tau_fresh.proofs.fresh.fresh_mic.Goals as goal

pub returns : goal.returns
unfolding fresh_mic
returns c = refl
