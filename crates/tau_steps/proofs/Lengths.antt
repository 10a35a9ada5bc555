-- What is done to weights and to a block keeps how many numbers they have. Assumes nothing.
--     diverge-shadow-length, diverge-lengths    the clears,
--     compared-lengths                          the comparison, where the two filters have as many,
--     guarded-length, guarded-block             and the guard: the output's weights, and the block
use mathlib.Core.Path.{◌≡◌, refl, ◌∙◌}
use mathlib.Core.Bool.{Bool}
use mathlib.Core.List.{List}
use Prim.Native.Nat.{ℕ}
use lib.Ieee.{Float, binary64, mul}
use lib.ListN.{length, length-map, length-replicate}
use Rattle.laws.specs.Choice.{pick-if}
use Rattle.laws.specs.Loops.{length_over}
use Rattle.tau_state.specs.Constants.{zero64, f0·5}
use Rattle.tau_state.specs.Sums.{energy_of}
use Rattle.tau_clears.specs.Weights.{cleared, halved, leaked}
use Rattle.tau_clears.specs.Clears.{diverge_shadow, diverge_of, retire_output}
use Rattle.tau_paths.specs.Paths.{shadow_after, output_after, acted, compared}
use Rattle.tau_paths.specs.declared.paths.Conditions.{Conditions}
use Rattle.tau_guard.specs.Guard.{watched, trips, replaced, Guarded, guarded}
use Rattle.tau_state.specs.declared.state.Guard.{Guard}
use Rattle.tau_state.specs.declared.state.Paths.{Paths}
use Rattle.tau_state.specs.declared.state.Suppressor.{Suppressor}
use Rattle.tau_state.specs.declared.report.Outcome.{Outcome}
use Rattle.tau_state.specs.declared.report.Outcome.TheVariants.{NotRun, NoMove, Rescue, Move}

-- k numbers in the shadow's weights and in the output's
pub record Level (k : ℕ) (sh ou : List Float) : Type 0 where
  pub shadow : length sh ≡ k
  pub output : length ou ≡ k

cleared-length : (d : List Float) → length (cleared d) ≡ length d
unfolding cleared
cleared-length d = length-replicate (length d) zero64

halved-length : (d : List Float) → length (halved d) ≡ length d
unfolding halved
halved-length d = length-map d (λ x. mul binary64 x f0·5)

leaked-length : (leak : Float) (s d : List Float) → length (leaked leak s d) ≡ length d
unfolding leaked
leaked-length leak s d = length_over (length d) _ d

pub diverge-shadow-length : (p : Paths) (m : ℕ) (sh : List Float) → length (diverge_shadow p m sh).shadow ≡ length sh
unfolding diverge_shadow
diverge-shadow-length p m sh = cleared-length sh

pub diverge-lengths : (k : ℕ) (p : Paths) (u : Suppressor) (m : ℕ) (sh ou : List Float) → Level k sh ou
    → Level k (diverge_of p u m sh ou).shadow (diverge_of p u m sh ou).output
unfolding diverge_of
diverge-lengths k p u m sh ou h = record { shadow = cleared-length sh ∙ h.shadow; output = cleared-length ou ∙ h.output }

retire-length : (x : Float) (p : Paths) (u : Suppressor) (m : ℕ) (ou : List Float) → length (retire_output x p u m ou).output ≡ length ou
unfolding retire_output
retire-length x p u m ou = halved-length ou

-- whatever the comparison decides
after-lengths : (k : ℕ) (o : Outcome) (sh ou : List Float) → Level k sh ou → Level k (shadow_after o sh ou) (output_after o sh ou)
unfolding shadow_after output_after
after-lengths k NotRun sh ou h = h
after-lengths k NoMove sh ou h = h
after-lengths k Rescue sh ou h = record { shadow = h.output; output = h.output }
after-lengths k (Move leak) sh ou h = record { shadow = h.shadow; output = leaked-length leak sh ou ∙ h.output }

pub compared-lengths : (k : ℕ) (asked : Conditions) (quiet : Bool) (es eo : List Float) (v : ℕ) (p : Paths) (n : ℕ) (sh ou : List Float) → Level k sh ou
    → Level k (compared asked quiet es eo v p n sh ou).shadow (compared asked quiet es eo v p n sh ou).output
unfolding compared acted
compared-lengths k asked quiet es eo v p n sh ou h = after-lengths k _ sh ou h

replaced-length : (near : List Float) (n : ℕ) (block : List Float) → length (replaced near n block) ≡ length block
unfolding replaced
replaced-length near n block = length_over n _ block

pub guarded-length : (near : List Float) (en : Float) (n : ℕ) (g : Guard) (u : Suppressor) (p : Paths) (m : ℕ) (block ou : List Float)
    → length (guarded near en n g u p m block ou).output ≡ length ou
unfolding guarded
guarded-length near en n g u p m block ou =
    let w = watched en (energy_of block n) g in
    pick-if (λ (r : Guarded). length r.output ≡ length ou) (trips w) (λ _. retire-length w.divergence_near_power p u m ou) (λ _. refl)

pub guarded-block : (near : List Float) (en : Float) (n : ℕ) (g : Guard) (u : Suppressor) (p : Paths) (m : ℕ) (block ou : List Float)
    → length (guarded near en n g u p m block ou).block ≡ length block
unfolding guarded
guarded-block near en n g u p m block ou =
    pick-if (λ (r : Guarded). length r.block ≡ length block) (trips (watched en (energy_of block n) g))
    (λ _. replaced-length near n block) (λ _. refl)
