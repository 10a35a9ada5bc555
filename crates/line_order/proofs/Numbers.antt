-- The numbers that digits spell: zeros that lead do not count, a longer number is greater, and of two that are as long the first digit
-- that differs decides. `run x ≡ x` says that x is digits only. Assumes nothing.
use Rattle.std.proofs.Common.{◌≡◌, ℕ, ◌≤◌, ◌<◌, ◌==◌, true, List, [], ◌∷◌, refl, sym, ◌∙◌, ◌-◌, arith, add_comm, add-one, Ordering, Less, Greater, eqb, length, take, drop}
use mathlib.Core.List.{foldl}
use Prim.Native.Nat.{zero, suc}
use native.Mathlib.Nat.{suc_inj}
use borrow.Author.Tests.{eqb-true, eqb-false, eq-eqb, ne_eqb}
use lib.ListN.{get_or, length-drop}
use lib.Seq.{take_all}
use Rattle.std.specs.Cmp.Lexicographic.{slice_cmp}
use Rattle.std.specs.List.{prefix_len}
use Rattle.std.specs.Ordering.{nat_cmp, ordering_then, MatchOrdering}
use Rattle.line_order.specs.Order.{is_digit, run, with_digit, spelled}
use Rattle.line_order.proofs.Compared.{by-test, by_order, less-is, same-is, more-is, then_with-is}
use Rattle.line_order.proofs.Keys.{digit-range, run_in, run_out}

-- ---- digits only

module _ (d : ℕ) (x : List ℕ) (e : run (d ∷ x) ≡ d ∷ x) where
  not_none : run (d ∷ x) ≡ [] → ⊥
  not_none h = let z : ◌≡◌ {A = ℕ} 0 1 = cc in omega arith

  pub digit-head : is_digit d ≡ true
  digit-head = by-test (is_digit d) (λ h. h) (λ h. absurd (not_none (run_out d x h)))

  pub digits-tail : run x ≡ x
  digits-tail = let h = run_in d x digit-head in cc

pub digits-drop : (n : ℕ) (x : List ℕ) → run x ≡ x → run (drop n x) ≡ drop n x
digits-drop zero x e = e
digits-drop (suc n) [] e = e
digits-drop (suc n) (d ∷ x) e = digits-drop n x (digits-tail d x e)

-- ---- zeros that lead

pub leading-zero : (ds : List ℕ) → spelled (48 ∷ ds) ≡ spelled ds
unfolding spelled with_digit
leading-zero ds = refl

-- ---- behind two numbers of which the first is less, as many digits

with-less : (m n d e : ℕ) → m < n → d ≤ 57 → with_digit m d < with_digit n e
unfolding with_digit
with-less m n d e h k = omega arith

less-behind : (m n : ℕ) (x y : List ℕ) → run x ≡ x → length x ≡ length y → m < n → foldl with_digit m x < foldl with_digit n y
less-behind m n [] [] g l h = h
less-behind m n [] (e ∷ y) g l h = absurd (omega arith)
less-behind m n (d ∷ x) [] g l h = absurd (omega arith)
less-behind m n (d ∷ x) (e ∷ y) g l h =
    less-behind (with_digit m d) (with_digit n e) x y (digits-tail d x g) (suc_inj l) (with-less m n d e h (digit-range d (digit-head d x g)).1)

-- ---- a longer number

with-some : (n e : ℕ) → 0 < n → 0 < with_digit n e
unfolding with_digit
with-some n e h = omega arith

some-digit : (e : ℕ) → (e ≡ 48 → ⊥) → 48 ≤ e → 0 < with_digit 0 e
unfolding with_digit
some-digit e n h = omega arith

longer-behind : (n : ℕ) (x y : List ℕ) → run x ≡ x → 0 < n → length x ≤ length y → foldl with_digit 0 x < foldl with_digit n y
longer-behind n x [] g h l = less-behind 0 n x [] g (omega arith) h
longer-behind n x (e ∷ y) g h l =
    by-test (eqb (length x) (suc (length y))) (λ k. less-behind 0 n x (e ∷ y) g (eqb-true _ _ k) h)
    (λ k. longer-behind (with_digit n e) x y g (with-some n e h) (fewer (eqb-false _ _ k)))
  where
    fewer : (length x ≡ suc (length y) → ⊥) → length x ≤ length y
    fewer k = omega arith

pub longer-more : (x y : List ℕ) → run x ≡ x → run y ≡ y → length x < length y → (get_or y 0 0 ≡ 48 → ⊥) → spelled x < spelled y
unfolding spelled
longer-more x [] g f l n = absurd (omega arith)
longer-more x (e ∷ y) g f l n = longer-behind (with_digit 0 e) x y g (some-digit e n (digit-range e (digit-head e y f)).0) (omega arith)

-- ---- as many digits

with-lesser : (n d e : ℕ) → d < e → 48 ≤ d → with_digit n d < with_digit n e
unfolding with_digit
with-lesser n d e h k = omega arith

as_long : (n : ℕ) (x y : List ℕ) → run x ≡ x → run y ≡ y → length x ≡ length y
    → nat_cmp (foldl with_digit n x) (foldl with_digit n y) ≡ slice_cmp nat_cmp x y
as_long n [] [] g f l = same-is n n refl
as_long n [] (e ∷ y) g f l = absurd (omega arith)
as_long n (d ∷ x) [] g f l = absurd (omega arith)
as_long n (d ∷ x) (e ∷ y) g f l =
    let g' = digits-tail d x g in
    let f' = digits-tail e y f in
    by_order d e
    (λ h.
    let k = with-lesser n d e h (digit-range d (digit-head d x g)).0 in
    less-is _ _ (less-behind (with_digit n d) (with_digit n e) x y g' (suc_inj l) k) ∙ rw (less-is d e h) refl)
    (λ h. rw (← h, same-is d d refl) (as_long (with_digit n d) x y g' f' (suc_inj l)))
    (λ h.
    let k = with-lesser n e d h (digit-range e (digit-head e y f)).0 in
    more-is _ _ (less-behind (with_digit n e) (with_digit n d) y x f' (sym (suc_inj l)) k) ∙ rw (more-is d e h) refl)

-- ---- two numbers, behind the zeros that lead them

abbrev bare : List ℕ → List ℕ
bare s = drop (prefix_len (λ b. b == 48) s) s

bare-zero : (d : ℕ) (s : List ℕ) → d ≡ 48 → bare (d ∷ s) ≡ bare s
bare-zero d s e = rw (eq-eqb d 48 e, add_comm 1 (prefix_len (λ b. b == 48) s), add-one) refl

bare-other : (d : ℕ) (s : List ℕ) → (d ≡ 48 → ⊥) → bare (d ∷ s) ≡ d ∷ s
bare-other d s n = rw (ne_eqb d 48 n) refl

bare-spelled : (s : List ℕ) → spelled (bare s) ≡ spelled s
bare-spelled [] = refl
bare-spelled (d ∷ s) =
    by-test (eqb d 48) (λ e. let h = eqb-true d 48 e in rw (bare-zero d s h, h) (bare-spelled s ∙ sym (leading-zero s)))
    (λ e. rw (bare-other d s (eqb-false d 48 e)) refl)

bare-first : (s : List ℕ) → get_or (bare s) 0 0 ≡ 48 → ⊥
bare-first [] e = omega arith
bare-first (d ∷ s) e =
    by-test (eqb d 48) (λ q. bare-first s (rw (bare-zero d s (eqb-true d 48 q)) at e))
    (λ q. eqb-false d 48 q (rw (bare-other d s (eqb-false d 48 q)) at e))

longer-is : (x y : List ℕ) → run x ≡ x → run y ≡ y → length (bare x) < length (bare y) → spelled x < spelled y
longer-is x y g f l =
    rw (bare-spelled x, bare-spelled y) at (longer-more (bare x) (bare y) (digits-drop _ x g) (digits-drop _ y f) l (bare-first y))

numbers-is : (x y : List ℕ) → run x ≡ x → run y ≡ y
    → ordering_then (nat_cmp (length (bare x)) (length (bare y))) (slice_cmp nat_cmp (bare x) (bare y)) ≡ nat_cmp (spelled x) (spelled y)
unfolding spelled
numbers-is x y g f =
    by_order (length (bare x)) (length (bare y)) (λ l. rw (less-is _ _ l) (sym (less-is (spelled x) (spelled y) (longer-is x y g f l))))
    (λ l. rw (same-is _ _ l) (sym (as_long 0 (bare x) (bare y) (digits-drop _ x g) (digits-drop _ y f) l) ∙ rw (bare-spelled x, bare-spelled y) refl))
    (λ l. rw (more-is _ _ l) (sym (more-is (spelled x) (spelled y) (longer-is y x f g l))))

-- a slice from k on, as the check writes it
pub tail : (k : ℕ) (s : List ℕ) → take (length s - k) (drop k s) ≡ drop k s
tail k s = take_all (length s - k) (drop k s) (rw length-drop (omega arith))

-- what `then_with` answers of the lengths and the digits, at the places where the zeros end
module _ {P : Type 0} (x y : List ℕ) {m n : ℕ} (g : run x ≡ x) (f : run y ≡ y) (p : m ≡ prefix_len (λ b. b == 48) x) (q : n ≡ prefix_len (λ b. b == 48) y) where
  pub numbers-compared : {o r : Ordering}
      → o ≡ nat_cmp (length (take (length x - m) (drop m x))) (length (take (length y - n) (drop n y)))
      → MatchOrdering o (r ≡ Less) P (r ≡ Greater)
      → (P → r ≡ slice_cmp nat_cmp (take (length x - m) (drop m x)) (take (length y - n) (drop n y)))
      → r ≡ nat_cmp (spelled x) (spelled y)
  numbers-compared {o} {r} e h k =
      then_with-is o (slice_cmp nat_cmp (take (length x - m) (drop m x)) (take (length y - n) (drop n y))) r h k
      ∙ rw (e, tail m x, tail n y, p, q) (numbers-is x y g f)
