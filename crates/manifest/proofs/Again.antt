-- The lines of joined lines are those lines, where the last of them has a byte or its newline. Assumes nothing.
use mathlib.Core.Path.{◌≡◌, refl, sym, ap, ◌∙◌}
use mathlib.Core.Bool.{Bool, true, false, true≢false}
use mathlib.Core.List.{List, [], ◌∷◌, ◌++◌, append-nil}
use Prim.Native.Nat.{ℕ, ◌<◌}
use native.Mathlib.Nat.{not-suc-le-zero}
use native.Mathlib.Omega.{arith}
use borrow.Author.Tests.{eqb-false, eq-eqb, ne_eqb}
use lib.Dec.{T, eqb}
use lib.ListN.{length}
use Rattle.laws.specs.Choice.{pick, pick_yes, pick_no, pick-if}
use Rattle.laws.specs.Kinds.{Each}
use Rattle.manifest.specs.Lines.{on_first, lines_of, ends_in_newline, joined_of}
use Rattle.manifest.specs.Sorting.{insert_of, sort_of}
use Rattle.manifest.proofs.Lines.{lines-first, insert-length, sort-length}
use Rattle.manifest.proofs.Sorting.{sort-each}

-- ---- no line has a newline in it
abbrev Clean : List ℕ → Type 0
Clean l = Each (λ b. b ≡ 10 → ⊥) l

first-clean : (b : ℕ) (ls : List (List ℕ)) → (b ≡ 10 → ⊥) → Each Clean ls → Each Clean (on_first b ls)
unfolding on_first
first-clean b [] h k = ((h, tt), tt)
first-clean b (l ∷ ls) h k = ((h, k.0), k.1)

lines-clean : (s : List ℕ) → Each Clean (lines_of s)
unfolding lines_of
lines-clean [] = tt
lines-clean (b ∷ s) =
    pick-if (Each Clean) (eqb b 10) (λ e. (tt, lines-clean s)) (λ e. first-clean b (lines_of s) (eqb-false b 10 e) (lines-clean s))

-- ---- the last line has a byte
abbrev LastFull : List (List ℕ) → Type 0
LastFull [] = T true
LastFull (l ∷ []) = l ≡ [] → ⊥
LastFull (l ∷ m ∷ ls) = LastFull (m ∷ ls)

full-byte : (b : ℕ) (l : List ℕ) (ls : List (List ℕ)) → LastFull (l ∷ ls) → LastFull ((b ∷ l) ∷ ls)
full-byte b l [] h = λ e. let n = ap length e in omega arith
full-byte b l (m ∷ ls) h = h

full-before : (l : List ℕ) (ls : List (List ℕ)) → 0 < length ls → LastFull ls → LastFull (l ∷ ls)
full-before l [] n h = absurd (not-suc-le-zero n)
full-before l (m ∷ ls) n h = h

-- of a text that does not end in a newline
last-full : (s : List ℕ) → ends_in_newline s ≡ false → LastFull (lines_of s)
unfolding ends_in_newline lines_of on_first
last-full [] e = tt
last-full (b ∷ []) e =
    pick-if LastFull (eqb b 10) (λ q. absurd (true≢false (sym q ∙ e))) (λ q. λ z. let n = ap length z in omega arith)
last-full (b ∷ c ∷ s) e = go _ _ (lines-first (c ∷ s) (omega arith)) (last-full (c ∷ s) e)
  where
    go : (l : List ℕ) (ls : List (List ℕ)) → lines_of (c ∷ s) ≡ l ∷ ls → LastFull (lines_of (c ∷ s)) → LastFull (lines_of (b ∷ c ∷ s))
    go l ls r h =
        let k : LastFull (l ∷ ls) = rw r at h in
        pick-if LastFull (eqb b 10) (λ q. rw r k) (λ q. rw r (full-byte b l ls k))

module _ (le : List ℕ → List ℕ → Bool) (empty-first : (l : List ℕ) → le [] l ≡ true) where
  insert-full : (l : List ℕ) (ls : List (List ℕ)) → 0 < length ls → LastFull ls → LastFull (insert_of le l ls)
  unfolding insert_of
  insert-full l [] n h = absurd (not-suc-le-zero n)
  insert-full l (m ∷ []) n h =
      pick-if LastFull (le l m) (λ e. h) (λ e. λ z. true≢false (sym (empty-first m) ∙ ap (λ (k : List ℕ). le k m) (sym z) ∙ e))
  insert-full l (m ∷ k ∷ ls) n h =
      pick-if LastFull (le l m) (λ e. h)
      (λ e. full-before m (insert_of le l (k ∷ ls)) (let q = insert-length le l (k ∷ ls) in omega arith) (insert-full l (k ∷ ls) (omega arith) h))

  sort-full : (ls : List (List ℕ)) → LastFull ls → LastFull (sort_of le ls)
  unfolding sort_of insert_of
  sort-full [] h = tt
  sort-full (l ∷ []) h = h
  sort-full (l ∷ m ∷ ls) h =
      insert-full l (sort_of le (m ∷ ls)) (let q = sort-length le (m ∷ ls) in omega arith) (sort-full (m ∷ ls) h)

-- ---- the lines of a text that begins with a line, and of joined lines
lines-behind : (l s : List ℕ) → Clean l → lines_of (l ++ (10 ∷ s)) ≡ l ∷ lines_of s
unfolding lines_of on_first
lines-behind [] s h = sym (pick_yes _ _ _ (eq-eqb 10 10 refl) refl)
lines-behind (b ∷ l) s h = sym (pick_no _ _ _ (ne_eqb b 10 h.0) (sym (ap (on_first b) (lines-behind l s h.1))))

line-alone : (l : List ℕ) → Clean l → (l ≡ [] → ⊥) → lines_of l ≡ l ∷ []
unfolding lines_of on_first
line-alone [] h k = absurd (k refl)
line-alone (b ∷ []) h k = sym (pick_no _ _ _ (ne_eqb b 10 h.0) refl)
line-alone (b ∷ c ∷ l) h k =
    sym (pick_no _ _ _ (ne_eqb b 10 h.0) (sym (ap (on_first b) (line-alone (c ∷ l) h.1 (λ e. let n = ap length e in omega arith)))))

lines-joined : (e : Bool) (ls : List (List ℕ)) → Each Clean ls → (e ≡ false → LastFull ls) → lines_of (joined_of e ls) ≡ ls
unfolding lines_of joined_of pick
lines-joined e [] h f = refl
lines-joined true (l ∷ []) h f = lines-behind l [] h.0
lines-joined false (l ∷ []) h f = ap lines_of (append-nil l) ∙ line-alone l h.0 (f refl)
lines-joined e (l ∷ m ∷ ls) h f =
    lines-behind l (joined_of e (m ∷ ls)) h.0 ∙ ap (λ (z : List (List ℕ)). l ∷ z) (lines-joined e (m ∷ ls) h.1 f)

-- where no line comes before the empty one, sorting keeps a byte in the last line
pub lines-sorted : (le : List ℕ → List ℕ → Bool) → ((l : List ℕ) → le [] l ≡ true)
    → (s : List ℕ) → lines_of (joined_of (ends_in_newline s) (sort_of le (lines_of s))) ≡ sort_of le (lines_of s)
lines-sorted le first s =
    lines-joined (ends_in_newline s) (sort_of le (lines_of s)) (sort-each le Clean (lines_of s) (lines-clean s))
    (λ e. sort-full le first (lines_of s) (last-full s e))
