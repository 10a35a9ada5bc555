-- No estimate tells more overs than its inverse has samples. Assumes nothing.
use mathlib.Core.List.{List}
use Prim.Native.Nat.{ℕ, ◌≤◌}
use lib.Ieee.{Float}
use Rattle.laws.specs.Choice.{pick-if}
use Rattle.fft.proofs.Sizes.{overs-512}
use Rattle.tau_state.specs.declared.state.Paths.{Paths}
use Rattle.tau_state.specs.declared.state.Suppressor.{Suppressor}
use Rattle.tau_spectra.specs.Ring.{Ring}
use Rattle.tau_filter.specs.Filter.{Shadowed, Estimated, shadowed, estimated}

pub shadowed-few : (ring : Ring) (near : List Float) (paths : Paths) (resets : ℕ) (shadow : List Float) → (shadowed ring near paths resets shadow).overs ≤ 512
unfolding shadowed
shadowed-few ring near paths resets shadow = pick-if (λ (s : Shadowed). s.overs ≤ 512) _ (λ _. overs-512 _) (λ _. overs-512 _)

pub estimated-few : (ring : Ring) (near : List Float) (paths : Paths) (suppressor : Suppressor) (resets : ℕ) (shadow output : List Float)
    → (estimated ring near paths suppressor resets shadow output).overs ≤ 512
unfolding estimated
estimated-few ring near paths suppressor resets shadow output = pick-if (λ (s : Estimated). s.overs ≤ 512) _ (λ _. overs-512 _) (λ _. overs-512 _)
