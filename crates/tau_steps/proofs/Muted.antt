-- A muted microphone (request K5). Assumes nothing.
--     judged-muted, judged-heard    the detector stands where the near energy is 0, and learns from every other far-active block
use mathlib.Core.Path.{◌≡◌, refl, ap, ◌∙◌}
use mathlib.Core.Bool.{Bool, true, false, not, ◌&&◌}
use mathlib.Core.List.{List}
use Prim.Native.Nat.{ℕ}
use lib.Dec.{T}
use lib.Ieee.{Float, eq}
use Rattle.laws.specs.Choice.{pick}
use Rattle.tau_state.specs.Constants.{zero64}
use Rattle.tau_state.specs.Sums.{energy_of, cross_of}
use Rattle.tau_state.specs.declared.state.Detector.{Detector}
use Rattle.tau_detector.specs.Detector.{coherence_of, learned, stands, judged}

none : (active is_none : Bool) → T is_none → active && not is_none ≡ false
none true true h = refl
none false true h = refl
none active false h = absurd h

pub judged-muted : (active : Bool) (energy : Float) (near est : List Float) (n : ℕ) (d : Detector) → T (eq energy zero64)
    → judged active energy near est n d ≡ stands d
unfolding judged pick
judged-muted active energy near est n d h =
    ap (λ (b : Bool). pick b (learned d (coherence_of (cross_of near est n) energy (energy_of est n))) (stands d)) (none active (eq energy zero64) h)

pub judged-heard : (active : Bool) (energy : Float) (near est : List Float) (n : ℕ) (d : Detector) → active ≡ true → eq energy zero64 ≡ false
    → judged active energy near est n d ≡ learned d (coherence_of (cross_of near est n) energy (energy_of est n))
unfolding judged pick
judged-heard active energy near est n d a h =
    ap (λ (b : Bool). pick b (learned d (coherence_of (cross_of near est n) energy (energy_of est n))) (stands d))
    (ap (λ (b : Bool). b && not (eq energy zero64)) a ∙ ap not h)
