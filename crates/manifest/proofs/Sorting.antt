-- Sorting by insertion, for any order of lines that is reflexive, transitive, total and antisymmetric: the sorted lines are in
-- order, they are the same lines, each as often, and no other list is both. Assumes nothing.
use mathlib.Core.Path.{◌≡◌, refl, sym, ap, ◌∙◌, subst}
use mathlib.Core.Bool.{Bool, true, false, false≢true}
use mathlib.Core.List.{List, [], ◌∷◌, ◌++◌}
use Prim.Native.Nat.{ℕ, zero, suc, ◌+◌, ◌<◌, ◌≤◌}
use native.Mathlib.Nat.{not-suc-le-zero, le_of_suc-le-suc}
use native.Mathlib.Omega.{arith}
use borrow.Author.Tests.{eqb-true, eq-eqb}
use lib.Dec.{eqb}
use lib.ListN.{length, get_or, take, drop}
use Rattle.laws.specs.Choice.{pick, pick_yes, pick_no, pick-if}
use Rattle.laws.specs.Kinds.{Each, all-get}
use Rattle.manifest.specs.Sorting.{insert_of, sort_of, InOrder, same_line, times_in, Permuted}

-- ---- the test of two lines
same_refl : (a : List ℕ) → same_line a a ≡ true
unfolding same_line
same_refl [] = refl
same_refl (x ∷ a) = sym (pick_yes _ _ _ (eq-eqb x x refl) (sym (same_refl a)))

same-sound : (a b : List ℕ) → same_line a b ≡ true → a ≡ b
unfolding same_line
same-sound [] [] e = refl
same-sound [] (y ∷ b) e = absurd (false≢true e)
same-sound (x ∷ a) [] e = absurd (false≢true e)
same-sound (x ∷ a) (y ∷ b) e = go (same-sound a b) (eqb x y) refl
  where
    go : (same_line a b ≡ true → a ≡ b) → (t : Bool) → eqb x y ≡ t → x ∷ a ≡ y ∷ b
    go r true h = let p : x ≡ y = eqb-true x y h in let q : a ≡ b = r (pick_yes _ _ false h refl ∙ e) in cc
    go r false h = absurd (false≢true (pick_no _ (same_line a b) false h refl ∙ e))

-- ---- what holds of every line of a list holds of each that stands in it
here : (x : List ℕ) (ls : List (List ℕ)) → 0 < times_in x (x ∷ ls)
unfolding times_in
here x ls = let h : ◌≡◌ {A = ℕ} (pick (same_line x x) 1 0) 1 = sym (pick_yes _ _ _ (same_refl x) refl) in omega arith

member : (P : List ℕ → Type 0) (x : List ℕ) (ls : List (List ℕ)) → Each P ls → 0 < times_in x ls → P x
unfolding times_in
member P x [] h k = absurd (not-suc-le-zero k)
member P x (l ∷ ls) h k = go (member P x ls h.1) (same_line x l) refl
  where
    go : (0 < times_in x ls → P x) → (t : Bool) → same_line x l ≡ t → P x
    go r true e = subst P (sym (same-sound x l e)) h.0
    go r false e = r (let q : ◌≡◌ {A = ℕ} (pick (same_line x l) 1 0) 0 = sym (pick_no _ _ _ e refl) in omega arith)

times-append : (x : List ℕ) (ls ms : List (List ℕ)) → times_in x (ls ++ ms) ≡ times_in x ls + times_in x ms
unfolding times_in
times-append x [] ms = omega arith
times-append x (l ∷ ls) ms = let r : times_in x (ls ++ ms) ≡ times_in x ls + times_in x ms = times-append x ls ms in omega arith

module _ (le : List ℕ → List ℕ → Bool) where
  -- ---- the same lines, each as often
  insert-times : (x l : List ℕ) (ls : List (List ℕ)) → times_in x (insert_of le l ls) ≡ times_in x (l ∷ ls)
  unfolding insert_of times_in
  insert-times x l [] = refl
  insert-times x l (m ∷ ls) =
      pick-if (λ (z : List (List ℕ)). times_in x z ≡ times_in x (l ∷ m ∷ ls)) (le l m) (λ e. refl)
      (λ e. let r : times_in x (insert_of le l ls) ≡ times_in x (l ∷ ls) = insert-times x l ls in omega arith)

  pub sorted-permuted : (ls : List (List ℕ)) → Permuted (sort_of le ls) ls
  unfolding sort_of times_in
  sorted-permuted [] x = refl
  sorted-permuted (l ∷ ls) x =
      insert-times x l (sort_of le ls) ∙ ap (λ (n : ℕ). pick (same_line x l) 1 0 + n) (sorted-permuted ls x)

  insert-each : (P : List ℕ → Type 0) (l : List ℕ) (ls : List (List ℕ)) → P l → Each P ls → Each P (insert_of le l ls)
  unfolding insert_of
  insert-each P l [] p h = (p, tt)
  insert-each P l (m ∷ ls) p h = pick-if (Each P) (le l m) (λ e. (p, h)) (λ e. (h.0, insert-each P l ls p h.1))

  pub sort-each : (P : List ℕ → Type 0) (ls : List (List ℕ)) → Each P ls → Each P (sort_of le ls)
  unfolding sort_of
  sort-each P [] h = tt
  sort-each P (l ∷ ls) h = insert-each P l (sort_of le ls) h.0 (sort-each P ls h.1)

  insert-least : (l : List ℕ) (ls : List (List ℕ)) → Each (λ m. le l m ≡ true) ls → insert_of le l ls ≡ l ∷ ls
  unfolding insert_of
  insert-least l [] h = refl
  insert-least l (m ∷ ls) h = sym (pick_yes _ _ _ h.0 refl)

  module _ (transitive : (a b c : List ℕ) → le a b ≡ true → le b c ≡ true → le a c ≡ true) (total : (a b : List ℕ) → le a b ≡ false → le b a ≡ true) where
    -- ---- in order
    below : (a b : List ℕ) → le a b ≡ true → (ls : List (List ℕ)) → Each (λ m. le b m ≡ true) ls → Each (λ m. le a m ≡ true) ls
    below a b e [] h = tt
    below a b e (m ∷ ls) h = (transitive a b m e h.0, below a b e ls h.1)

    insert-in-order : (l : List ℕ) (ls : List (List ℕ)) → InOrder le ls → InOrder le (insert_of le l ls)
    unfolding insert_of
    insert-in-order l [] h = (tt, tt)
    insert-in-order l (m ∷ ls) h =
        pick-if (InOrder le) (le l m) (λ e. ((e, below l m e ls h.0), h))
        (λ e. (insert-each (λ n. le m n ≡ true) l ls (total l m e) h.0, insert-in-order l ls h.1))

    pub sorted-in-order : (ls : List (List ℕ)) → InOrder le (sort_of le ls)
    unfolding sort_of
    sorted-in-order [] = tt
    sorted-in-order (l ∷ ls) = insert-in-order l (sort_of le ls) (sorted-in-order ls)

    module _ (reflexive : (a : List ℕ) → le a a ≡ true) (antisymmetric : (a b : List ℕ) → le a b ≡ true → le b a ≡ true → a ≡ b) where
      -- ---- two lists of the same lines, both in order, are one
      ordered-equal : (ls ms : List (List ℕ)) → InOrder le ls → InOrder le ms → Permuted ls ms → ls ≡ ms
      unfolding times_in
      ordered-equal [] [] h k p = refl
      ordered-equal [] (m ∷ ms) h k p = absurd (let q = here m ms in let r : 0 ≡ times_in m (m ∷ ms) = p m in omega arith)
      ordered-equal (l ∷ ls) [] h k p = absurd (let q = here l ls in let r : times_in l (l ∷ ls) ≡ 0 = p l in omega arith)
      ordered-equal (l ∷ ls) (m ∷ ms) h k p =
          let a : le m l ≡ true =
          member (λ n. le m n ≡ true) l (m ∷ ms) (reflexive m, k.0) (subst (λ (n : ℕ). 0 < n) (p l) (here l ls)) in
          let b : le l m ≡ true =
          member (λ n. le l n ≡ true) m (l ∷ ls) (reflexive l, h.0) (subst (λ (n : ℕ). 0 < n) (sym (p m)) (here m ms)) in
          let e : l ≡ m = antisymmetric l m b a in
          let rest : ls ≡ ms =
          ordered-equal ls ms h.1 k.1
          (λ x. let q : ◌≡◌ {A = ℕ} (pick (same_line x l) 1 0) (pick (same_line x m) 1 0) = ap (λ (n : List ℕ). pick {A = ℕ} (same_line x n) 1 0) e in
          let r = p x in
          omega arith) in
          cc

      -- any list of the same lines that is in order is the sorted one
      pub sorted-unique : (ls ms : List (List ℕ)) → Permuted ms ls → InOrder le ms → ms ≡ sort_of le ls
      sorted-unique ls ms p h = ordered-equal ms (sort_of le ls) h (sorted-in-order ls) (λ x. p x ∙ sym (sorted-permuted ls x))

      -- ---- one line more, at the end
      pub sort-snoc : (ls : List (List ℕ)) (l : List ℕ) → insert_of le l (sort_of le ls) ≡ sort_of le (ls ++ (l ∷ []))
      unfolding times_in
      sort-snoc ls l =
          sorted-unique (ls ++ (l ∷ [])) (insert_of le l (sort_of le ls))
          (λ x. insert-times x l (sort_of le ls) ∙ (let q = sorted-permuted ls x in let r = times-append x ls (l ∷ []) in omega arith))
          (insert-in-order l (sort_of le ls) (sorted-in-order ls))

      -- ---- a line put where those before are at most it, and it is at most those behind
      pub insert-at : (l : List ℕ) (ls : List (List ℕ)) (p : ℕ)
          → InOrder le ls
          → p ≤ length ls
          → ((i : ℕ) → i < p → le (get_or ls i []) l ≡ true)
          → ((i : ℕ) → p ≤ i → i < length ls → le l (get_or ls i []) ≡ true)
          → take p ls ++ (l ∷ drop p ls) ≡ insert_of le l ls
      unfolding insert_of
      insert-at l [] zero h r f g = refl
      insert-at l [] (suc p) h r f g = absurd (not-suc-le-zero r)
      insert-at l (m ∷ ls) zero h r f g = pick_yes _ _ _ (g 0 (omega arith) (omega arith)) refl
      insert-at l (m ∷ ls) (suc p) h r f g =
          let rest : take p ls ++ (l ∷ drop p ls) ≡ insert_of le l ls =
          insert-at l ls p h.1 (le_of_suc-le-suc r) (λ i b. f (suc i) (omega arith)) (λ i b c. g (suc i) (omega arith) (omega arith)) in
          pick-if (λ (z : List (List ℕ)). m ∷ (take p ls ++ (l ∷ drop p ls)) ≡ z) (le l m)
          (λ e. let q : l ≡ m = antisymmetric l m e (f 0 (omega arith)) in
          let s : insert_of le l ls ≡ l ∷ ls = insert-least l ls (subst (λ (n : List ℕ). Each (λ o. le n o ≡ true) ls) (sym q) h.0) in
          cc)
          (λ e. ap (λ (z : List (List ℕ)). m ∷ z) rest)

      -- ---- an earlier line is at most a later one
      pub in-order-at : (ls : List (List ℕ)) (i j : ℕ) → InOrder le ls → i ≤ j → j < length ls → le (get_or ls i []) (get_or ls j []) ≡ true
      in-order-at [] i j h b c = absurd (not-suc-le-zero c)
      in-order-at (l ∷ ls) zero zero h b c = reflexive l
      in-order-at (l ∷ ls) zero (suc j) h b c = all-get {P = λ m. le l m ≡ true} {l = ls} j [] (record { each = h.0 }) (le_of_suc-le-suc c)
      in-order-at (l ∷ ls) (suc i) zero h b c = absurd (not-suc-le-zero b)
      in-order-at (l ∷ ls) (suc i) (suc j) h b c = in-order-at ls i j h.1 (le_of_suc-le-suc b) (le_of_suc-le-suc c)
