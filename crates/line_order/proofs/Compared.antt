-- How numbers and lists of numbers compare, and the order `earlier` by it. Assumes nothing.
use Rattle.std.proofs.Common.{◌≡◌, ℕ, ◌<◌, ◌≤◌, Bool, true, false, List, [], ◌∷◌, ◌++◌, refl, sym, arith, eqb, ltb, Ordering, Less, Equal, Greater}
use Rattle.std.specs.Cmp.{nat_cmp_is}
use Rattle.std.specs.Cmp.Lexicographic.{slice_cmp}
use Rattle.std.specs.Ordering.{nat_cmp, ordering_then, is_le, MatchOrdering}
use borrow.Author.Tests.{ltb-true, ltb-false, eqb-true, eqb-false, lt-ltb, le-ltb, eq-eqb, ne_eqb}
use Rattle.laws.specs.Choice.{pick}
use Rattle.line_order.specs.Order.{earlier}

-- a proof by the two answers of a test
pub by-test : {Q : Type 0} (b : Bool) → (b ≡ true → Q) → (b ≡ false → Q) → Q
by-test true h k = h refl
by-test false h k = k refl

-- a proof by how two numbers compare
pub by_order : {Q : Type 0} (x y : ℕ) → (x < y → Q) → (x ≡ y → Q) → (y < x → Q) → Q
by_order x y h e k =
    by-test (ltb x y) (λ t. h (ltb-true x y t))
    (λ t. by-test (eqb x y) (λ u. e (eqb-true x y u)) (λ u. k (later (ltb-false x y t) (eqb-false x y u))))
  where
    later : y ≤ x → (x ≡ y → ⊥) → y < x
    later l n = omega arith

module _ (m n : ℕ) where
  pub less-is : m < n → nat_cmp m n ≡ Less
  less-is h = sym (nat_cmp_is m n Less h)

  pub same-is : m ≡ n → nat_cmp m n ≡ Equal
  same-is h = sym (nat_cmp_is m n Equal h)

  pub more-is : n < m → nat_cmp m n ≡ Greater
  more-is h = sym (nat_cmp_is m n Greater h)

-- what both begin with does not count
pub slice_cmp-behind : (p s t : List ℕ) → slice_cmp nat_cmp (p ++ s) (p ++ t) ≡ slice_cmp nat_cmp s t
slice_cmp-behind [] s t = refl
slice_cmp-behind (x ∷ p) s t = rw (same-is x x refl) (slice_cmp-behind p s t)

-- what `then_with` answers, where what its closure gave is p
pub then_with-is : {P : Type 0} (o p r : Ordering) → MatchOrdering o (r ≡ Less) P (r ≡ Greater) → (P → r ≡ p) → r ≡ ordering_then o p
then_with-is Less p r h k = h
then_with-is Equal p r h k = k h
then_with-is Greater p r h k = h

-- ---- `earlier` answers by how the lists compare

abbrev pub settled : Bool → Ordering → Bool
settled tie Less = true
settled tie Equal = tie
settled tie Greater = false

pub earlier-is : (tie : Bool) (s t : List ℕ) → earlier tie s t ≡ settled tie (slice_cmp nat_cmp s t)
unfolding earlier pick
earlier-is tie [] [] = refl
earlier-is tie [] (y ∷ t) = refl
earlier-is tie (x ∷ s) [] = refl
earlier-is tie (x ∷ s) (y ∷ t) =
    by_order x y (λ h. rw (ne_eqb x y (λ e. omega arith), lt-ltb x y h) refl) (λ h. rw (eq-eqb x y h, le-ltb x y (omega arith)) (earlier-is tie s t))
    (λ h. rw (ne_eqb x y (λ e. omega arith), le-ltb x y (omega arith)) refl)

pub settled-settled : (o p : Ordering) → settled (settled true o) p ≡ is_le (ordering_then p o)
settled-settled o Less = refl
settled-settled Less Equal = refl
settled-settled Equal Equal = refl
settled-settled Greater Equal = refl
settled-settled o Greater = refl
