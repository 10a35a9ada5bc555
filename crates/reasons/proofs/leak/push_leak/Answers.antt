-- `reasons::leak::push_leak` meets its contract. Assumes nothing.
-- m is how many millionths the leak has, d the digits of its whole part
use Rattle.std.proofs.Common.{◌≡◌, ℕ, ◌/◌, ◌%◌, List, [], ◌∷◌, ◌++◌, sym, refl, ap, ◌∙◌, subst, append_assoc, append-nil, eq-eqb, ne_eqb}
use lib.Ieee.{Float}
use Rattle.laws.specs.Choice.{pick_yes, pick_no}
use Rattle.text.specs.Text.{Decimal}
use Rattle.reasons.specs.Leak.{millionths_of, places_of, behind_of, Leak}
use Rattle.reasons.proofs.leak.push_leak.Goals as goal

said : (s : List ℕ) {d e t : List ℕ} → e ≡ d → t ≡ s ++ e → t ≡ s ++ d
said s same first = first ∙ ap (λ (l : List ℕ). s ++ l) same

whole : (leak : Float) (m : ℕ) {s d e t : List ℕ} → m ≡ millionths_of leak → Decimal (m / 1000000) d → e ≡ d → t ≡ s ++ e → m % 1000000 ≡ 0 → Leak leak s t
whole leak m {s} {d} {e} {t} is dec same first z =
    let none : [] ≡ behind_of (m % 1000000) = pick_yes _ _ _ (eq-eqb (m % 1000000) 0 z) refl in
    record {
      whole = t;
      is_whole = record { text = d; decimal = subst (λ (n : ℕ). Decimal (n / 1000000) d) is dec; joined = said s same first };
      is-leak = subst (λ (n : ℕ). t ≡ t ++ behind_of (n % 1000000)) is (sym (append-nil t) ∙ ap (λ (l : List ℕ). t ++ l) none);
    }

broken : (leak : Float) (m : ℕ) {s d e t p q u : List ℕ} → m ≡ millionths_of leak → Decimal (m / 1000000) d → e ≡ d → t ≡ s ++ e → (m % 1000000 ≡ 0 → ⊥)
    → p ≡ t ++ (46 ∷ []) → q ≡ places_of 6 (m % 1000000) → u ≡ p ++ q → Leak leak s u
broken leak m {s} {d} {e} {t} {p} {q} {u} is dec same first z dot behind all =
    let places = places_of 6 (m % 1000000) in
    let some : (46 ∷ places) ≡ behind_of (m % 1000000) = pick_no _ _ _ (ne_eqb (m % 1000000) 0 z) refl in
    let all-is : u ≡ t ++ behind_of (m % 1000000) =
    all ∙ ap (λ (l : List ℕ). p ++ l) behind ∙ ap (λ (l : List ℕ). l ++ places) dot ∙ append_assoc t (46 ∷ []) places ∙ ap (λ (l : List ℕ). t ++ l) some in
    record {
      whole = t;
      is_whole = record { text = d; decimal = subst (λ (n : ℕ). Decimal (n / 1000000) d) is dec; joined = said s same first };
      is-leak = subst (λ (n : ℕ). u ≡ t ++ behind_of (n % 1000000)) is all-is;
    }

pub returns-then-count-ne0-clause-leak : goal.returns-then-count-ne0-clause-leak
returns-then-count-ne0-clause-leak c =
    broken c.args.leak c.millionths-count.result c.millionths-count.ensures c.decimal.ensures c.as_str.ensures.value c.push_str.ensures.bytes
    c.if-count-ne0.true c.push_str-then-count-ne0.ensures.bytes (c.as_str-then-count-ne0.ensures.value ∙ c.places.ensures) c.push_str-then-count-ne0-2.ensures.bytes

pub returns-else-count-ne0-clause-leak : goal.returns-else-count-ne0-clause-leak
returns-else-count-ne0-clause-leak c =
    whole c.args.leak c.millionths-count.result c.millionths-count.ensures c.decimal.ensures c.as_str.ensures.value c.push_str.ensures.bytes c.if-count-ne0.false
