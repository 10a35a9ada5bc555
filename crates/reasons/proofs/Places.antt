-- The places of a leak, one after another. Assumes nothing.
use Rattle.std.proofs.Common.{◌≡◌, ℕ, zero, suc, ◌+◌, ◌*◌, ◌/◌, ◌%◌, ◌-◌, ◌<◌, ◌≤◌, List, [], ◌∷◌, ◌++◌, sym, refl, ap, ◌∙◌, append_assoc, append-nil, arith, eq-eqb, ne_eqb}
use Rattle.laws.specs.Choice.{pick_yes, pick_no}
use Rattle.reasons.specs.Leak.{places_of}

next : (n rest : ℕ) → 0 < n → 0 < rest → ((48 + rest / 100000) ∷ places_of (n - 1) (rest % 100000 * 10)) ≡ places_of n rest
unfolding places_of
next zero rest h l = absurd (omega (arith, h))
next (suc n) rest h l =
    let less : suc n - 1 ≡ n = omega arith in
    let others : ℕ → List ℕ = λ (m : ℕ). (48 + rest / 100000) ∷ places_of m (rest % 100000 * 10) in
    ap others less ∙ pick_no _ _ _ (ne_eqb rest 0 (λ e. omega (arith, e, l))) refl

pub none : (n rest : ℕ) → rest ≤ 0 → [] ≡ places_of n rest
unfolding places_of
none zero rest h = refl
none (suc n) rest h = pick_yes _ _ _ (eq-eqb rest 0 (omega (arith, h))) refl

pub no_place : (n rest : ℕ) → n ≤ 0 → [] ≡ places_of n rest
unfolding places_of
no_place zero rest h = refl
no_place (suc n) rest h = absurd (omega (arith, h))

-- a place more behind those that stand
pub placed : (s : List ℕ) (n rest : ℕ) {t all : List ℕ} → 0 < n → 0 < rest → s ++ places_of n rest ≡ all → t ≡ s ++ ((48 + rest / 100000) ∷ [])
    → t ++ places_of (n - 1) (rest % 100000 * 10) ≡ all
placed s n rest h l e p =
    ap (λ (z : List ℕ). z ++ places_of (n - 1) (rest % 100000 * 10)) p
    ∙ append_assoc s ((48 + rest / 100000) ∷ []) (places_of (n - 1) (rest % 100000 * 10))
    ∙ ap (λ (z : List ℕ). s ++ z) (next n rest h l)
    ∙ e

pub ended : (s : List ℕ) (n rest : ℕ) {all : List ℕ} → [] ≡ places_of n rest → s ++ places_of n rest ≡ all → s ≡ all
ended s n rest e h = sym (append-nil s) ∙ ap (λ (z : List ℕ). s ++ z) e ∙ h
