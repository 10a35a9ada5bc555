-- A text's lines: the first and the rest, joined again, and how long they are together. Assumes nothing.
use mathlib.Core.Path.{◌≡◌, refl, sym, ap, ◌∙◌}
use mathlib.Core.Bool.{Bool, true, false}
use mathlib.Core.List.{List, [], ◌∷◌, ◌++◌, append-nil, append_assoc}
use Prim.Native.Nat.{ℕ, suc, ◌+◌, ◌-◌, ◌<◌, ◌≤◌}
use native.Mathlib.Nat.{not-suc-le-zero}
use native.Mathlib.Numerals.{add-one}
use native.Mathlib.Omega.{arith}
use borrow.Author.Tests.{eqb-true, eq-eqb, ne_eqb}
use lib.Dec.{eqb}
use lib.ListN.{length, set, take, drop, length-append, length-drop, drop_of_length-le}
use lib.Seq.{take-length, take-append_seam, take_all, drop-cons, drop-drop, set-append_seam}
use Rattle.laws.specs.Choice.{pick, pick_yes, pick_no, pick-if}
use Rattle.line_order.specs.Order.{at_most}
use Rattle.manifest.specs.Lines.{on_first, lines_of, ends_in_newline, joined_of}
use Rattle.manifest.specs.Sorting.{insert_of, sort_of}
use Rattle.manifest.specs.Sorted.{sorted_of}
use Rattle.manifest.specs.Steps.{up_to, piece_of}
use Rattle.std.specs.List.{prefix_len}
use Rattle.std.proofs.Common.{not, ◌==◌}

-- ---- the first line
up_to-newline : (b : ℕ) (s : List ℕ) → b ≡ 10 → up_to (b ∷ s) ≡ []
unfolding up_to
up_to-newline b s e = sym (pick_yes _ _ _ (eq-eqb b 10 e) refl)

up_to-other : (b : ℕ) (s : List ℕ) → (b ≡ 10 → ⊥) → up_to (b ∷ s) ≡ b ∷ up_to s
unfolding up_to
up_to-other b s e = sym (pick_no _ _ _ (ne_eqb b 10 e) refl)

take-up_to : (s : List ℕ) → take (length (up_to s)) s ≡ up_to s
unfolding up_to
take-up_to [] = refl
take-up_to (b ∷ s) =
    pick-if (λ (z : List ℕ). take (length z) (b ∷ s) ≡ z) (eqb b 10) (λ e. refl) (λ e. ap (λ (z : List ℕ). b ∷ z) (take-up_to s))

up_to-within : (s : List ℕ) → length (up_to s) ≤ length s
unfolding up_to
up_to-within [] = omega arith
up_to-within (b ∷ s) =
    pick-if (λ (z : List ℕ). length z ≤ length (b ∷ s)) (eqb b 10) (λ e. omega arith)
    (λ e. let r : length (up_to s) ≤ length s = up_to-within s in omega arith)

-- a text that has a byte is its first line and the lines after that one's newline
pub lines-first : (s : List ℕ) → 0 < length s → lines_of s ≡ up_to s ∷ lines_of (drop (suc (length (up_to s))) s)
unfolding lines_of up_to on_first
lines-first [] h = absurd (not-suc-le-zero h)
lines-first (b ∷ []) h =
    pick-if (λ (z : List ℕ). lines_of (b ∷ []) ≡ z ∷ lines_of (drop (length z) [])) (eqb b 10)
    (λ e. sym (pick_yes _ _ _ e refl))
    (λ e. sym (pick_no _ _ _ e refl))
lines-first (b ∷ c ∷ s) h =
    let r : lines_of (c ∷ s) ≡ up_to (c ∷ s) ∷ lines_of (drop (suc (length (up_to (c ∷ s)))) (c ∷ s)) = lines-first (c ∷ s) (omega arith) in
    pick-if (λ (z : List ℕ). lines_of (b ∷ c ∷ s) ≡ z ∷ lines_of (drop (length z) (c ∷ s))) (eqb b 10)
    (λ e. sym (pick_yes _ _ _ e refl))
    (λ e. sym (pick_no _ _ _ e (sym (ap (on_first b) r))))

-- ---- the first line, where std counts its bytes
length-up_to : (s : List ℕ) → length (up_to s) ≡ prefix_len (λ b. not (b == 10)) s
unfolding up_to
length-up_to [] = refl
length-up_to (b ∷ s) = pick-if (λ (z : List ℕ). length z ≡ prefix_len (λ c. not (c == 10)) (b ∷ s)) (eqb b 10) (λ e. rw e refl) (λ e. rw (e, length-up_to s) (omega arith))

module _ (s : List ℕ) {n : ℕ} (e : n ≡ prefix_len (λ b. not (b == 10)) s) where
  pub first-line : take n s ≡ up_to s
  first-line = rw (e, ← (length-up_to s)) (take-up_to s)

  pub behind-line : drop 1 (drop n s) ≡ drop (length (up_to s) + 1) s
  behind-line = drop-drop 1 n s ∙ rw (e, ← (length-up_to s)) refl

  -- what is left has no byte, or a newline and what is behind it
  pub behind-none : length (drop n s) < 1 → drop n s ≡ drop (length (up_to s) + 1) s
  behind-none h =
      let d = length-drop n s in
      let q : n ≡ length (up_to s) = e ∙ sym (length-up_to s) in
      drop_of_length-le s {i = n} (omega arith) ∙ sym (drop_of_length-le s {i = length (up_to s) + 1} (omega arith))

  pub behind-newline : take (length (drop n s) - 1) (drop 1 (drop n s)) ≡ drop (length (up_to s) + 1) s
  behind-newline = take_all (length (drop n s) - 1) (drop 1 (drop n s)) (rw length-drop (omega arith)) ∙ behind-line

-- a text that has a byte, by its first line and what is behind
pub lines-split : (s : List ℕ) {line rest : List ℕ} → 0 < length s → line ≡ up_to s → rest ≡ drop (length (up_to s) + 1) s → lines_of s ≡ line ∷ lines_of rest
lines-split s h e f = lines-first s h ∙ rw (e, f, add-one) refl

-- ---- nothing is lost: a text's lines joined are the text
joined-first : (e : Bool) (b : ℕ) (l : List ℕ) (ls : List (List ℕ)) → joined_of e (on_first b (l ∷ ls)) ≡ b ∷ joined_of e (l ∷ ls)
unfolding joined_of on_first
joined-first e b l [] = refl
joined-first e b l (m ∷ ls) = refl

joined-empty : (e : Bool) (l : List ℕ) (ls : List (List ℕ)) → joined_of e ([] ∷ l ∷ ls) ≡ 10 ∷ joined_of e (l ∷ ls)
unfolding joined_of
joined-empty e l ls = refl

pub joined-lines : (s : List ℕ) → joined_of (ends_in_newline s) (lines_of s) ≡ s
unfolding joined_of ends_in_newline lines_of on_first pick
joined-lines [] = refl
joined-lines (b ∷ []) = go (eqb b 10) refl
  where
    go : (t : Bool) → eqb b 10 ≡ t → joined_of (eqb b 10) (lines_of (b ∷ [])) ≡ b ∷ []
    go true e = rw e (ap (λ (n : ℕ). n ∷ []) (sym (eqb-true b 10 e)))
    go false e = rw e
joined-lines (b ∷ c ∷ s) = onto (ends_in_newline (c ∷ s)) b (c ∷ s) _ _ (lines-first (c ∷ s) (omega arith)) (joined-lines (c ∷ s))
  where
    onto : (e : Bool) (b : ℕ) (s l : List ℕ) (ls : List (List ℕ)) → lines_of s ≡ l ∷ ls → joined_of e (lines_of s) ≡ s
        → joined_of e (lines_of (b ∷ s)) ≡ b ∷ s
    onto e b s l ls r h =
        let k : joined_of e (l ∷ ls) ≡ s = rw r at h in
        pick-if (λ (z : List (List ℕ)). joined_of e z ≡ b ∷ s) (eqb b 10)
        (λ q. ap (λ (z : List (List ℕ)). joined_of e ([] ∷ z)) r ∙ joined-empty e l ls ∙ ap (λ (z : List ℕ). 10 ∷ z) k
        ∙ ap (λ (n : ℕ). n ∷ s) (sym (eqb-true b 10 q)))
        (λ q. ap (λ (z : List (List ℕ)). joined_of e (on_first b z)) r ∙ joined-first e b l ls ∙ ap (λ (z : List ℕ). b ∷ z) k)

-- ---- lines in another order are as long together
weight : List (List ℕ) → ℕ
weight [] = 0
weight (l ∷ ls) = suc (length l) + weight ls

joined-weight : (e : Bool) (ls : List (List ℕ)) → 0 < length ls → length (joined_of e ls) + pick e 0 1 ≡ weight ls
unfolding joined_of weight pick
joined-weight e [] h = absurd (not-suc-le-zero h)
joined-weight true (l ∷ []) h = simp length-append (omega arith)
joined-weight false (l ∷ []) h = simp length-append (omega arith)
joined-weight e (l ∷ m ∷ ls) h =
    let r : length (joined_of e (m ∷ ls)) + pick e 0 1 ≡ weight (m ∷ ls) = joined-weight e (m ∷ ls) (omega arith) in
    simp length-append (omega arith)

module _ (le : List ℕ → List ℕ → Bool) where
  insert-weight : (l : List ℕ) (ls : List (List ℕ)) → weight (insert_of le l ls) ≡ weight (l ∷ ls)
  unfolding insert_of weight
  insert-weight l [] = refl
  insert-weight l (m ∷ ls) =
      pick-if (λ (z : List (List ℕ)). weight z ≡ weight (l ∷ m ∷ ls)) (le l m) (λ e. refl)
      (λ e. let r : weight (insert_of le l ls) ≡ weight (l ∷ ls) = insert-weight l ls in omega arith)

  sort-weight : (ls : List (List ℕ)) → weight (sort_of le ls) ≡ weight ls
  unfolding sort_of weight
  sort-weight [] = refl
  sort-weight (l ∷ ls) = insert-weight l (sort_of le ls) ∙ ap (λ (n : ℕ). suc (length l) + n) (sort-weight ls)

  pub insert-length : (l : List ℕ) (ls : List (List ℕ)) → length (insert_of le l ls) ≡ suc (length ls)
  unfolding insert_of
  insert-length l [] = refl
  insert-length l (m ∷ ls) =
      pick-if (λ (z : List (List ℕ)). length z ≡ suc (suc (length ls))) (le l m) (λ e. refl) (λ e. ap suc (insert-length l ls))

  pub sort-length : (ls : List (List ℕ)) → length (sort_of le ls) ≡ length ls
  unfolding sort_of
  sort-length [] = refl
  sort-length (l ∷ ls) = insert-length l (sort_of le ls) ∙ ap suc (sort-length ls)

  joined-sort : (e : Bool) (ls : List (List ℕ)) → length (joined_of e (sort_of le ls)) ≡ length (joined_of e ls)
  unfolding sort_of
  joined-sort e [] = refl
  joined-sort e (l ∷ ls) =
      let n : length (sort_of le (l ∷ ls)) ≡ suc (length ls) = sort-length (l ∷ ls) in
      let a : length (joined_of e (sort_of le (l ∷ ls))) + pick e 0 1 ≡ weight (sort_of le (l ∷ ls)) = joined-weight e (sort_of le (l ∷ ls)) (omega arith) in
      let b : length (joined_of e (l ∷ ls)) + pick e 0 1 ≡ weight (l ∷ ls) = joined-weight e (l ∷ ls) (omega arith) in
      let c : weight (sort_of le (l ∷ ls)) ≡ weight (l ∷ ls) = sort-weight (l ∷ ls) in
      omega arith

-- the sorted manifest is as long as the manifest
pub length-sorted : (text : List ℕ) → length (sorted_of text) ≡ length text
unfolding sorted_of
length-sorted text = joined-sort at_most (ends_in_newline text) (lines_of text) ∙ ap length (joined-lines text)

-- ---- the first of the lines to be joined, with its newline where there is one, and the rest
pub joined-piece : (e : Bool) (l : List ℕ) (ls : List (List ℕ)) (n : ℕ) → n ≡ length (joined_of e (l ∷ ls))
    → joined_of e (l ∷ ls) ≡ piece_of n l ++ joined_of e ls
unfolding joined_of piece_of pick
joined-piece true l [] n h = rw h (sym (append-nil _ ∙ take-length (l ++ (10 ∷ []))))
joined-piece false l [] n h =
    let k : n ≡ length l = h ∙ ap length (append-nil l) in
    append-nil l ∙ sym (append-nil _ ∙ ap (λ (j : ℕ). take j (l ++ (10 ∷ []))) k ∙ take-append_seam l (10 ∷ []))
joined-piece e l (m ∷ ls) n h =
    let k = rw length-append at h in
    let q : take n (l ++ (10 ∷ [])) ≡ l ++ (10 ∷ []) = take_all n (l ++ (10 ∷ [])) (simp length-append (omega arith)) in
    sym (ap (λ (z : List ℕ). z ++ joined_of e (m ∷ ls)) q ∙ append_assoc l (10 ∷ []) (joined_of e (m ∷ ls)))

pub joined-fits : (e : Bool) (l : List ℕ) (ls : List (List ℕ)) → length l ≤ length (joined_of e (l ∷ ls))
unfolding joined_of
joined-fits e l [] = simp length-append (omega arith)
joined-fits e l (m ∷ ls) = simp length-append (omega arith)

pub joined-none : (e : Bool) → joined_of e [] ≡ []
unfolding joined_of
joined-none e = refl

-- ---- a line at a buffer's start, with a newline behind it where there is room
pub piece-whole : (l : List ℕ) (n : ℕ) → length l < n → piece_of n l ≡ l ++ (10 ∷ [])
unfolding piece_of
piece-whole l n h = take_all n (l ++ (10 ∷ [])) (simp length-append (omega arith))

pub piece-full : (l : List ℕ) (n : ℕ) → n ≡ length l → piece_of n l ≡ l
unfolding piece_of
piece-full l n h = rw h (take-append_seam l (10 ∷ []))

pub put-newline : (l out : List ℕ) {written : List ℕ} → written ≡ l → length l < length out
    → set (written ++ drop (length l) out) (length l) 10 ≡ (l ++ (10 ∷ [])) ++ drop (length l + 1) out
put-newline l out e h =
    rw (e, drop-cons out (length l) 0 h, add-one) (set-append_seam l _ _ 10 ∙ sym (append_assoc l (10 ∷ []) (drop (suc (length l)) out)))

pub lines-none : (s : List ℕ) → length s ≡ 0 → lines_of s ≡ []
unfolding lines_of
lines-none [] h = refl
lines-none (b ∷ s) h = absurd (omega arith)
