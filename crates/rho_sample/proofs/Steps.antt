-- The steps of one pair, put together: what the calls of `step` gave is what `step_of` says. Assumes nothing.
use mathlib.Core.Path.{◌≡◌}
use mathlib.Core.Bool.{Bool}
use mathlib.Core.List.{List}
use Prim.Native.Nat.{ℕ}
use lib.Ieee.{Float, binary64, sub}
use lib.ListN.{set}
use Rattle.numbers.specs.Finite.{is_finite, finite_or_zero}
use Rattle.numbers.specs.Narrowing.{narrow_of}
use Rattle.rho_state.specs.declared.state.RhoCanceller.{RhoCanceller}
use Rattle.rho_taps.specs.Ring.{next_of, estimate_of, window_energy_of, peak_of}
use Rattle.rho_sample.specs.Sample.{Engine, Stepped, loud_of, freeze_of, after_of, step_of}
use Rattle.rho_taps.specs.Update.{Adapted, scale_of, adapted_of}

pub step_is : (e : Engine) (near far : Float) (pos n : ℕ) (error energy output peak delivered : Float) (fine loud : Bool) (freeze resets : ℕ) (weights : List Float) (after : RhoCanceller)
    → pos ≡ next_of e.state.pos e.state.taps
    → n ≡ e.state.taps
    → error ≡ sub binary64 near (estimate_of e.weights (set e.history pos far) pos n)
    → energy ≡ window_energy_of (set e.history pos far) pos n
    → output ≡ narrow_of error
    → fine ≡ is_finite output
    → peak ≡ peak_of (set e.history pos far) pos n
    → loud ≡ loud_of near peak
    → freeze ≡ freeze_of e.state.hangover_samples e.state.hangover_remaining loud
    → ◌≡◌ {A = Adapted} (record { weights = weights; resets = resets }) (adapted_of fine freeze (scale_of error energy) (set e.history pos far) pos n e.weights e.state.divergence_resets)
    → delivered ≡ finite_or_zero output
    → after ≡ after_of e.state pos freeze near delivered resets
    → ◌≡◌ {A = Stepped} (record { engine = record { state = after; weights = weights; history = set e.history pos far }; output = delivered }) (step_of e near far)
unfolding step_of
step_is e near far pos n error energy output peak delivered fine loud freeze resets weights after hp hn he hg ho hf hk hl hz ha hd hs =
    rw (hs, ← hp, ← hn, ← he, ← hg, ← ho, ← hf, ← hk, ← hl, ← hz, ← ha, ← hd)
