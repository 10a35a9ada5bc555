-- The suppressor tells no more overs than its inverse has samples. Assumes nothing.
use mathlib.Core.Bool.{Bool}
use mathlib.Core.List.{List}
use Prim.Native.Nat.{◌≤◌}
use native.Mathlib.Omega.{arith}
use lib.Ieee.{Float}
use Rattle.laws.specs.Choice.{pick-if}
use Rattle.fft.proofs.Sizes.{overs-512}
use Rattle.tau_state.specs.declared.state.Suppressor.{Suppressor}
use Rattle.tau_suppressor.specs.Suppressor.{Suppressed, suppressed}

pub suppressed-few : (runs protect : Bool) (error estimate : List Float) (suppressor : Suppressor) → (suppressed runs protect error estimate suppressor).overs ≤ 512
unfolding suppressed
suppressed-few runs protect error estimate suppressor = pick-if (λ (s : Suppressed). s.overs ≤ 512) _ (λ _. overs-512 _) (λ _. omega arith)
