-- M10: antt computes it. Assumes nothing.
use mathlib.Core.Path.{refl}
use Rattle.laws.specs.Choice.{pick}
use Rattle.rho_state.specs.State.{taps_of, hangover_of}
use Rattle.rho.specs.Calls.{settings_of, sized_of, create_refusal, create_of}
use Rattle.rho.specs.Marked.{M10}

pub m10 : M10
unfolding taps_of hangover_of settings_of sized_of create_refusal create_of pick
m10 = (refl, refl, λ w h. refl)
