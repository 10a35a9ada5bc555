-- What the front of the bytes held tells. Assumes nothing.
--     size-within     a whole record lies within the bytes
--     nine-few        bytes that are too few are fewer than the largest record has
--     Meets, meets, told     what is so of the bytes, by cases; and where an answer is told to be one of them
use mathlib.Core.Path.{◌≡◌, refl, sym, ◌∙◌, subst}
use mathlib.Core.Bool.{Bool, true, false}
use mathlib.Core.List.{List}
use Prim.Native.Nat.{ℕ, ◌≤◌, ◌<◌}
use borrow.Author.Tests.{eqb-true}
use lib.Dec.{eqb}
use lib.ListN.{length}
use Rattle.laws.specs.Choice.{pick-if}
use Rattle.record.specs.Reading.{read_of}
use Rattle.record.proofs.Accepted.{nine-short}
use Rattle.record.proofs.Records.{read-refusal, size-most}
use Rattle.record_input.specs.Front.{Front, Whole, Begun, End, Refused, front_of}

pub size-within : (s : List ℕ) → (read_of s).refusal ≡ 0 → (read_of s).size ≤ length s
size-within s h = size-most s (sym (read-refusal s) ∙ h)

pub nine-few : (s : List ℕ) → (read_of s).refusal ≡ 9 → length s < 4102
nine-few s h = nine-short s (sym (read-refusal s) ∙ h)

abbrev pub Meets : Front → List ℕ → Bool → Type 0
Meets (Whole kind size) s ended = read_of s ≡ record { refusal = 0; kind = kind; size = size }
Meets Begun s ended = ((read_of s).refusal ≡ 9) × (ended ≡ false)
Meets End s ended = (length s ≡ 0) × (ended ≡ true)
Meets (Refused n) s ended = (read_of s).refusal ≡ n

pub meets : (s : List ℕ) (ended : Bool) → Meets (front_of s ended) s ended
unfolding front_of
meets s ended =
    let r = read_of s in
    let Q : Front → Type 0 = λ f. Meets f s ended in
    pick-if Q (eqb r.refusal 0) (λ e i. record { refusal = eqb-true r.refusal 0 e i; kind = r.kind; size = r.size })
    (λ refused. pick-if Q (eqb r.refusal 9)
    (λ nine. let is-nine = eqb-true r.refusal 9 nine in
    pick-if Q ended (λ t. pick-if Q (eqb (length s) 0) (λ none. (eqb-true (length s) 0 none, t)) (λ some. is-nine)) (λ f. (is-nine, f)))
    (λ no. refl))

pub told : (s : List ℕ) (ended : Bool) {f g : Front} → f ≡ front_of s ended → f ≡ g → Meets g s ended
told s ended h k = subst (λ (f : Front). Meets f s ended) (sym h ∙ k) (meets s ended)
