-- `recorded::check` meets its contract: the state's refusal, and then what the test of the places picks. Assumes nothing.
use mathlib.Core.Path.{◌≡◌, refl, sym, ◌∙◌}
use Prim.Native.Nat.{ℕ}
use lib.ListN.{length}
use native.Mathlib.Omega.{arith}
use borrow.Author.Tests.{eq-eqb, ne_eqb, lt-leb, le-leb}
use Rattle.laws.specs.Choice.{pick-if, pick_yes, pick_no}
use Rattle.tau_state.specs.declared.state.TauCanceller.{TauCanceller}
use Rattle.tau_fresh.specs.Refusals.{sized_of, state_refusal}
use Rattle.tau_state.specs.Ranges.{ranged_of}
use Rattle.recorded.specs.Recorded.{first_refusal}
use Rattle.recorded.proofs.check.Goals as goal

module _ (s : TauCanceller) (shadow output spectra powers places room : ℕ) where
  abbrev state : ℕ
  state = state_refusal s shadow output spectra powers

  two : (state ≡ 6 → ⊥) → (state ≡ 0 → ⊥) → state ≡ 2
  unfolding state_refusal
  two =
      let Q : ℕ → Type 0 = λ x. (x ≡ 6 → ⊥) → (x ≡ 0 → ⊥) → x ≡ 2 in
      pick-if Q (ranged_of s) (λ _. pick-if Q (sized_of s.partitions shadow output spectra powers) (λ _ h k. absurd (k refl)) (λ _ h k. refl)) (λ _ h k. absurd (h refl))

  first : {n : ℕ} → n ≡ state → (n ≡ 0 → ⊥) → n ≡ first_refusal s shadow output spectra powers places room
  unfolding first_refusal
  first e z = pick_no _ _ _ (ne_eqb _ 0 (λ k. z (e ∙ k))) e

pub returns-then-number-eq6 : goal.returns-then-number-eq6
returns-then-number-eq6 c = first _ _ _ _ _ _ _ (sym c.if-number-eq6.true ∙ c.state_refusal-number.ensures) (λ k. absurd (omega (arith, k)))

pub returns-then-number-ne0 : goal.returns-then-number-ne0
returns-then-number-ne0 c =
    let e = c.state_refusal-number.ensures in
    let is = two _ _ _ _ _ c.args.places (length c.args.out.now) (λ k. c.if-number-eq6.false (e ∙ k)) (λ k. c.if-number-ne0.true (e ∙ k)) in
    first _ _ _ _ _ _ _ (sym is) (λ k. absurd (omega (arith, k)))

pub returns-then-out-places : goal.returns-then-out-places
unfolding first_refusal
returns-then-out-places c =
    let none = sym c.state_refusal-number.ensures ∙ c.if-number-ne0.false in
    pick_yes _ _ _ (eq-eqb _ 0 none) (pick_no _ _ _ (lt-leb _ _ c.if-out-places.true) refl)

pub returns : goal.returns
unfolding first_refusal
returns c =
    let none = sym c.state_refusal-number.ensures ∙ c.if-number-ne0.false in
    pick_yes _ _ _ (eq-eqb _ 0 none) (pick_yes _ _ _ (le-leb _ _ c.if-out-places.false) refl)
