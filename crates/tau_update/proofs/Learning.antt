-- One partition of the update, from its parts' answers in the code's order; and how many overs it tells at most. Assumes nothing.
use mathlib.Core.Bool.{Bool, ◌&&◌}
use mathlib.Core.List.{List}
use mathlib.Core.Path.{◌≡◌}
use Prim.Native.Nat.{ℕ, zero, suc, ◌+◌, ◌*◌, ◌≤◌}
use native.Mathlib.Omega.{arith}
use lib.ListN.{length}
use lib.Ieee.{Float}
use Rattle.laws.specs.Choice.{pick-if}
use Rattle.laws.specs.Loops.{iter}
use Rattle.laws.specs.Parts.{part, with_part}
use Rattle.fft.specs.Calls.{overs_of}
use Rattle.fft.proofs.Sizes.{spectrum-514, overs-512}
use Rattle.tau_state.specs.declared.state.Paths.{Paths}
use Rattle.tau_spectra.specs.Ring.{Ring, met_by}
use Rattle.tau_update.specs.Update.{Learnt, gradient_of, constrained, stepped, finite_to, learnt_at, learnt_to, Updated, updated}

-- a constrained gradient is a spectrum
pub length-constrained : (g : List Float) → length (constrained g) ≡ 514
unfolding constrained
length-constrained g = spectrum-514 _

-- one partition of the update
pub learnt-turn : (ring : Ring) (e rates w : List Float) (good : Bool) (overs p : ℕ)
    {more : ℕ} {x g h y v w' : List Float} {fine : Bool}
    → x ≡ met_by ring p
    → g ≡ gradient_of x e rates
    → h ≡ constrained g
    → y ≡ part 514 p w
    → v ≡ stepped h y
    → fine ≡ finite_to v 514
    → w' ≡ with_part 514 p w v
    → more ≡ overs_of g
    → ◌≡◌ {A = Learnt} (record { weights = w'; finite = good && fine; overs = overs + more }) (learnt_at ring e rates p (record { weights = w; finite = good; overs = overs }))
unfolding learnt_at
learnt-turn ring e rates w good overs p e1 e2 e3 e4 e5 e6 e7 e8 = rw (e8, e7, e6, e5, e4, e3, e2, e1)

-- no more overs than samples
pub learnt-few : (ring : Ring) (error rates shadow : List Float) (n : ℕ) → (learnt_to ring error rates shadow n).overs ≤ 512 * n
unfolding learnt_to learnt_at iter
learnt-few ring error rates shadow zero = omega arith
learnt-few ring error rates shadow (suc n) =
    omega (arith, learnt-few ring error rates shadow n, overs-512 (gradient_of (met_by ring n) error rates))

pub updated-few : (runs : Bool) (ring : Ring) (far_power error : List Float) (scale : Float) (means : List Float) (paths : Paths) (resets : ℕ) (shadow : List Float)
    → (updated runs ring far_power error scale means paths resets shadow).overs ≤ 512 * ring.partitions
unfolding updated
updated-few runs ring far_power error scale means paths resets shadow =
    pick-if (λ (z : Updated). z.overs ≤ 512 * ring.partitions) _
    (λ _. pick-if (λ (z : Updated). z.overs ≤ 512 * ring.partitions) _ (λ _. learnt-few ring _ _ _ _) (λ _. learnt-few ring _ _ _ _)) (λ _. omega arith)
