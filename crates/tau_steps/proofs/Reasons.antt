-- The outcome of the reason that is decided on. Assumes nothing.
--     reason-if        what is so of each outcome, where its tests say it, is so of the reason's outcome
--     reason-idle      where the comparison does not run there is no move
use mathlib.Core.Path.{◌≡◌, refl, sym, ◌∙◌}
use mathlib.Core.Bool.{Bool, true, false, not, ◌&&◌, true≢false}
use lib.Dec.{T, ltb, leb}
use lib.Ieee.{lt, le}
use Rattle.laws.specs.Choice.{pick-if}
use Rattle.tau_state.specs.Constants.{zero64, f0·1}
use Rattle.tau_state.specs.Report.{outcome_of}
use Rattle.tau_state.specs.declared.state.Paths.{Paths}
use Rattle.tau_state.specs.declared.report.Outcome.{Outcome}
use Rattle.tau_state.specs.declared.report.Outcome.TheVariants.{NoMove, Rescue, Move}
use Rattle.tau_state.specs.declared.report.Reason.{Reason}
use Rattle.tau_paths.specs.Paths.{runs, leak_of, advantage_of, reason_of}
use Rattle.tau_paths.specs.declared.paths.Conditions.{Conditions}

-- the four conditions, each with the value that its reason goes by
none-holds : (f d a e : Bool) → f ≡ false → d ≡ false → not a ≡ false → not e ≡ false → (not f && not d && a && e) ≡ true
none-holds true d a e h _ _ _ = absurd (true≢false h)
none-holds false true a e _ h _ _ = absurd (true≢false h)
none-holds false false false e _ _ h _ = absurd (true≢false h)
none-holds false false true false _ _ _ h = absurd (true≢false h)
none-holds false false true true _ _ _ _ = refl

flushes : (f d a e : Bool) → f ≡ true → (not f && not d && a && e) ≡ false
flushes true d a e _ = refl
flushes false d a e h = absurd (true≢false (sym h))

diverges : (f d a e : Bool) → d ≡ true → (not f && not d && a && e) ≡ false
diverges true d a e _ = refl
diverges false true a e _ = refl
diverges false false a e h = absurd (true≢false (sym h))

silent : (f d a e : Bool) → not a ≡ true → (not f && not d && a && e) ≡ false
silent true d a e _ = refl
silent false true a e _ = refl
silent false false false e _ = refl
silent false false true e h = absurd (true≢false (sym h))

fewer : (f d a e : Bool) → not e ≡ true → (not f && not d && a && e) ≡ false
fewer true d a e _ = refl
fewer false true a e _ = refl
fewer false false false e _ = refl
fewer false false true false _ = refl
fewer false false true true h = absurd (true≢false (sym h))

passed : (b : Bool) → not b ≡ false → T b
passed true h = tt
passed false h = absurd (true≢false h)

pub reason-if : (Q : Outcome → Type 0) (asked : Conditions) (paths : Paths)
    → (runs asked ≡ false → Q NoMove)
    → (runs asked ≡ true → leb 8 paths.rescue_streak ≡ true → Q Rescue)
    → (runs asked ≡ true → leb 8 paths.rescue_streak ≡ false → Q NoMove)
    → (runs asked ≡ true → leb 8 paths.rescue_streak ≡ false → T (le f0·1 (advantage_of paths)) → Q (Move (leak_of (advantage_of paths))))
    → Q (outcome_of (reason_of asked paths))
unfolding reason_of outcome_of
reason-if Q asked paths idle rescue none move =
    let R : Reason → Type 0 = λ r. Q (outcome_of r) in
    let f = asked.flushing in
    let d = asked.diverged in
    let a = asked.far_is_active in
    let e = asked.established in
    pick-if R f (λ h. idle (flushes f d a e h))
    (λ k. pick-if R d (λ h. idle (diverges f d a e h))
    (λ l. pick-if R (not a) (λ h. idle (silent f d a e h))
    (λ m. pick-if R (not e) (λ h. idle (fewer f d a e h))
    (λ n. let on = none-holds f d a e k l m n in
    pick-if R (leb 8 paths.rescue_streak) (λ h. rescue on h)
    (λ h. pick-if R (ltb paths.quiet_streak 6) (λ _. none on h)
    (λ _. pick-if R (not (lt zero64 paths.output_error_power)) (λ _. none on h)
    (λ _. pick-if R (not (le f0·1 (advantage_of paths))) (λ _. none on h) (λ t. move on h (passed (le f0·1 (advantage_of paths)) t)))))))))

pub reason-idle : (asked : Conditions) (paths : Paths) → runs asked ≡ false → outcome_of (reason_of asked paths) ≡ NoMove
reason-idle asked paths z =
    reason-if (λ o. o ≡ NoMove) asked paths (λ _. refl) (λ h _. absurd (true≢false (sym h ∙ z))) (λ _ _. refl)
    (λ h _ _. absurd (true≢false (sym h ∙ z)))
