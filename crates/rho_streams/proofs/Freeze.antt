-- A freeze ends after its hangover count of quiet pairs in a row. Assumes nothing.
--     loud-sets            a loud pair sets the freeze to the hangover count H
--     quiet-counts         a quiet pair takes 1 off, if any is left
--     quiet-run            N quiet pairs in a row take N off
--     freeze-ends          so after H of them nothing is left of any freeze; freeze-lasts, loud-lasts, call_ends: not sooner, and what the
--                          call answers
--     diverged-clears, frozen-keeps, free-updates     the weights after a pair that diverged, that is frozen, and any other
--     quiet-updates        where at most 1 is left before it, a quiet pair updates, unless its output diverged
--     last-updates         so the H-th of H quiet pairs in a row does
use mathlib.Core.Path.{◌≡◌, refl, sym, ap, ◌∙◌}
use mathlib.Core.Bool.{true, false}
use mathlib.Core.List.{List, [], ◌∷◌}
use Prim.Native.Nat.{◌+◌, ◌-◌, ◌≤◌, ◌<◌}
use native.Mathlib.Omega.{arith}
use borrow.Author.Tests.{eq-eqb, ne_eqb}
use lib.Dec.{eqb, ltb}
use lib.Ieee.{Float}
use lib.ListN.{length}
use Rattle.laws.specs.Choice.{pick, pick_yes, pick_no}
use Rattle.rho_sample.specs.Sample.{Engine, freeze_of, after_of, step_of}
use Rattle.rho_taps.specs.Update.{cleared_of, adapted_of}
use Rattle.rho.specs.Pairs.{pairs_of}
use Rattle.rho.specs.Calls.{Called, process_of}
use Rattle.rho_streams.specs.Stream.{taken_by, hangover, remaining, loud_at, error_at, fine_at, update_at, kept_by, updated_by, louds_of, AllQuiet}
use Rattle.rho_state.proofs.Accepted.{accepted-pairs}
use Rattle.rho_streams.proofs.Counts.{process-answers, process-ran}

-- ---- what a pair makes of the freeze

-- the freeze after a pair, by its verdict
freeze-is : (e : Engine) (x y : Float) → remaining (taken_by e x y).engine ≡ freeze_of (hangover e) (remaining e) (loud_at e x y)
unfolding step_of after_of loud_at
freeze-is e x y = refl

-- A loud pair sets it to H.
pub loud-sets : (e : Engine) (x y : Float) → loud_at e x y ≡ true → remaining (taken_by e x y).engine ≡ hangover e
unfolding freeze_of
loud-sets e x y h = freeze-is e x y ∙ sym (pick_yes _ _ _ h refl)

-- A quiet pair takes 1 off, if any is left.
pub quiet-counts : (e : Engine) (x y : Float) → loud_at e x y ≡ false → remaining (taken_by e x y).engine ≡ remaining e - 1
unfolding freeze_of
quiet-counts e x y h = freeze-is e x y ∙ sym (pick_no _ _ _ h refl)

-- ---- quiet pairs in a row

-- N quiet pairs in a row take N off, as far as any is left.
pub quiet-run : (e : Engine) (near far : List Float) → length near ≡ length far → AllQuiet e near far
    → remaining (pairs_of e near far).engine ≡ remaining e - length near
unfolding pairs_of louds_of
quiet-run e [] far l h = omega arith
quiet-run e (x ∷ near) [] l h = absurd (omega arith)
quiet-run e (x ∷ near) (y ∷ far) l h =
    let one = quiet-counts e x y h.each.0 in
    let rest = quiet-run (taken_by e x y).engine near far (omega arith) (record { each = h.each.1 }) in
    omega arith

-- H quiet pairs in a row, or more, end any freeze.
pub freeze-ends : (e : Engine) (near far : List Float) → remaining e ≤ hangover e → length near ≡ length far → hangover e ≤ length near
    → AllQuiet e near far → remaining (pairs_of e near far).engine ≡ 0
freeze-ends e near far m l n h = let r = quiet-run e near far l h in omega arith

-- And not sooner: while fewer quiet pairs have come than were left, some is left.
pub freeze-lasts : (e : Engine) (near far : List Float) → length near ≡ length far → length near < remaining e
    → AllQuiet e near far → 0 < remaining (pairs_of e near far).engine
freeze-lasts e near far l n h = let r = quiet-run e near far l h in omega arith

-- So after a loud pair any fewer than H quiet ones leave some.
pub loud-lasts : (e : Engine) (x y : Float) (near far : List Float) → loud_at e x y ≡ true → length near ≡ length far → length near < hangover e
    → AllQuiet (taken_by e x y).engine near far → 0 < remaining (pairs_of (taken_by e x y).engine near far).engine
loud-lasts e x y near far s l n h = freeze-lasts (taken_by e x y).engine near far l (omega (arith, loud-sets e x y s, n)) h

-- An accepted call of H quiet pairs in a row, or more, answers that no freeze is left.
pub call_ends : (e : Engine) (near far out : List Float) → (process_of e near far out).answer.refusal ≡ 0 → hangover e ≤ length near
    → AllQuiet e near far → (process_of e near far out).answer.report.double_talk ≡ false
call_ends e near far out r n h =
    let z = sym (process-answers e near far out) ∙ r in
    let a = accepted-pairs e.state (length e.weights) (length e.history) _ _ _ z in
    let f = freeze-ends e near far a.state.ranged.left a.pairs.level n h in
    ap (λ (c : Called). c.answer.report.double_talk) (process-ran e near far out z) ∙ ap (ltb 0) f

-- ---- what a pair makes of the weights

-- the update's arms, by what the pair computed
kept-is : (e : Engine) (x y : Float)
    → kept_by e x y
    ≡ pick (fine_at e x y)
    (pick (eqb (remaining (taken_by e x y).engine) 0) (updated_by e x y) (record { weights = e.weights; resets = e.state.divergence_resets }))
    (cleared_of e.state.taps e.state.divergence_resets)
unfolding step_of after_of adapted_of error_at update_at updated_by
kept-is e x y = refl

-- A pair whose output diverged clears every weight and counts a reset, freeze or not.
pub diverged-clears : (e : Engine) (x y : Float) → fine_at e x y ≡ false → kept_by e x y ≡ cleared_of e.state.taps e.state.divergence_resets
diverged-clears e x y h = kept-is e x y ∙ sym (pick_no _ _ _ h refl)

-- Any other leaves the weights as they are while any freeze is left after it,
pub frozen-keeps : (e : Engine) (x y : Float) → fine_at e x y ≡ true → 0 < remaining (taken_by e x y).engine
    → kept_by e x y ≡ record { weights = e.weights; resets = e.state.divergence_resets }
frozen-keeps e x y h f = kept-is e x y ∙ sym (pick_yes _ _ _ h (pick_no _ _ _ (ne_eqb (remaining (taken_by e x y).engine) 0 (λ z. omega arith)) refl))

-- and updates them where none is.
pub free-updates : (e : Engine) (x y : Float) → fine_at e x y ≡ true → remaining (taken_by e x y).engine ≡ 0 → kept_by e x y ≡ updated_by e x y
free-updates e x y h f = kept-is e x y ∙ sym (pick_yes _ _ _ h (pick_yes _ _ _ (eq-eqb _ 0 f) refl))

-- So a quiet pair before which at most 1 is left updates, unless its output diverged.
pub quiet-updates : (e : Engine) (x y : Float) → loud_at e x y ≡ false → remaining e ≤ 1 → fine_at e x y ≡ true → kept_by e x y ≡ updated_by e x y
quiet-updates e x y q r h = free-updates e x y h (let c = quiet-counts e x y q in omega arith)

-- So the H-th of H quiet pairs in a row, the pair x and y behind a and c, updates already, unless its output diverged.
pub last-updates : (e : Engine) (a c : List Float) (x y : Float) → remaining e ≤ hangover e → length a ≡ length c → hangover e ≤ length a + 1
    → AllQuiet e a c → loud_at (pairs_of e a c).engine x y ≡ false → fine_at (pairs_of e a c).engine x y ≡ true
    → kept_by (pairs_of e a c).engine x y ≡ updated_by (pairs_of e a c).engine x y
last-updates e a c x y m l n h q f = quiet-updates (pairs_of e a c).engine x y q (let r = quiet-run e a c l h in omega arith) f
