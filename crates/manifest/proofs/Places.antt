-- A line more among lines that are in order. Assumes nothing.
use Rattle.std.proofs.Common.{◌≡◌, ℕ, ◌+◌, ◌-◌, ◌<◌, ◌≤◌, true, false, List, [], ◌∷◌, ◌++◌, map, refl, sym, ap, subst, ◌∙◌, arith, add-one, append_assoc, Bor, length, take, drop}
use Prim.Native.Nat.{zero, suc}
use native.Mathlib.Nat.{not-suc-le-zero, le_of_suc-le-suc}
use lib.ListN.{get_or, set, length-append, length-drop, length-map}
use lib.Seq.{take-nil, take_all, take_at, take-take, length-take-le, take-add, drop-drop, drop-append_seam}
use Rattle.std.proofs.lemmas.List.{take-map, set_split, take-append-le}
use Rattle.std.specs.List.{copy_within}
use Rattle.std.specs.List.Sorted.{IsPartitionedBy, IsPartitionPoint}
use Rattle.line_order.specs.Order.{at_most}
use Rattle.line_order.proofs.Order.{at-most-refl, at-most-trans, at-most-total, at-most-antisym}
use Rattle.manifest.specs.Sorting.{insert_of, sort_of, InOrder}
use Rattle.manifest.specs.Steps.{lines_in, Holds}
use Rattle.manifest.proofs.Lines.{insert-length}
use Rattle.manifest.proofs.Sorting as s

-- ---- lists
module _ {A B : Type 0} (f : A → B) where
  pub map_at : (l : List A) (i : ℕ) (d : A) (z : B) → i < length l → get_or (map f l) i z ≡ f (get_or l i d)
  map_at [] i d z h = absurd (not-suc-le-zero h)
  map_at (x ∷ l) zero d z h = refl
  map_at (x ∷ l) (suc i) d z h = map_at l i d z (le_of_suc-le-suc h)

  pub map-drop : (n : ℕ) (l : List A) → map f (drop n l) ≡ drop n (map f l)
  map-drop zero l = refl
  map-drop (suc n) [] = refl
  map-drop (suc n) (x ∷ l) = map-drop n l

  pub map-append : (l m : List A) → map f (l ++ m) ≡ map f l ++ map f m
  map-append [] m = refl
  map-append (x ∷ l) m = ap (λ (z : List B). f x ∷ z) (map-append l m)

drop-take : {A : Type 0} (p n : ℕ) (l : List A) → p ≤ n → drop p (take n l) ≡ take (n - p) (drop p l)
drop-take zero n l h = ap (λ (k : ℕ). take k l) (keep n)
  where
    keep : (n : ℕ) → n ≡ n - 0
    keep n = omega arith
drop-take (suc p) zero l h = absurd (not-suc-le-zero h)
drop-take (suc p) (suc n) [] h = sym (take-nil (suc n - suc p))
drop-take (suc p) (suc n) (x ∷ l) h = drop-take p n l (le_of_suc-le-suc h) ∙ ap (λ (k : ℕ). take k (drop p l)) (less n p)
  where
    less : (n p : ℕ) → n - p ≡ suc n - suc p
    less n p = omega arith

-- ---- lines that are in order, and a line more at the place that a search finds
module _ (lent : List (Bor (List ℕ))) (line : Bor (List ℕ)) (ordered : InOrder at_most (lines_in lent)) where
  pub partitioned : IsPartitionedBy (λ (y : Bor (List ℕ)). at_most y.now line.now) lent
  partitioned i j d h k e =
      let n = length-map lent (λ (l : Bor (List ℕ)). l.now) in
      let f = s.in-order-at at_most at-most-trans at-most-total at-most-refl at-most-antisym (lines_in lent) i j ordered h (omega arith) in
      at-most-trans (get_or lent i d).now (get_or lent j d).now line.now
      (rw (map_at (λ (l : Bor (List ℕ)). l.now) lent i d [] (omega arith), map_at (λ (l : Bor (List ℕ)). l.now) lent j d [] k) at f) e

  pub inserted : (p : ℕ) → p ≤ length lent
      → IsPartitionPoint (λ (y : Bor (List ℕ)). at_most y.now line.now ≡ true) (λ (y : Bor (List ℕ)). at_most y.now line.now ≡ false) lent p
      → lines_in (take p lent ++ (line ∷ drop p lent)) ≡ insert_of at_most line.now (lines_in lent)
  inserted p h found =
      let n = length-map lent (λ (l : Bor (List ℕ)). l.now) in
      map-append (λ (l : Bor (List ℕ)). l.now) (take p lent) (line ∷ drop p lent)
      ∙ rw (← (take-map (λ (l : Bor (List ℕ)). l.now) p lent), map-drop (λ (l : Bor (List ℕ)). l.now) p lent)
      (s.insert-at at_most at-most-trans at-most-total at-most-refl at-most-antisym line.now (lines_in lent) p ordered (omega arith)
      (λ i k. rw (map_at (λ (l : Bor (List ℕ)). l.now) lent i line [] (omega arith)) (found.0 i line (omega arith) k))
      (λ i k m. rw (map_at (λ (l : Bor (List ℕ)). l.now) lent i line [] (omega arith)) (at-most-total _ _ (found.1 i line k (omega arith)))))

-- ---- the entries of a slice from a place on moved up by one, and an entry put there
module _ {A : Type 0} (l : List A) (x : A) (p n : ℕ) (h : p ≤ n) (k : n < length l) where
  pub moved-up : take (n + 1) (set (copy_within l p n (p + 1)) p x) ≡ take p (take n l) ++ (x ∷ drop p (take n l))
  moved-up =
      let w : List A = take (n - p) (drop p l) in
      let r : List A = drop (p + 1 + (n - p)) l in
      let f : length (take (p + 1) l) ≡ p + 1 = length-take-le (p + 1) l (omega arith) in
      let g : length w ≡ n - p = length-take-le (n - p) (drop p l) (rw length-drop (omega arith)) in
      let whole = length-append (take (p + 1) l) (w ++ r) in
      let front : take p (take (p + 1) l ++ (w ++ r)) ≡ take p l =
      take-append-le p (take (p + 1) l) (w ++ r) (omega arith) ∙ take-take p (p + 1) l (omega arith) in
      let behind : drop (suc p) (take (p + 1) l ++ (w ++ r)) ≡ w ++ r =
      ap (λ (k : ℕ). drop k (take (p + 1) l ++ (w ++ r))) (sym (f ∙ add-one p)) ∙ drop-append_seam (take (p + 1) l) (w ++ r) in
      let a : length (take p l) ≡ p = length-take-le p l (omega arith) in
      let b = length-append (take p l) (x ∷ w) in
      ap (take (n + 1))
      (ap (λ (z : List A). set z p x) (append_assoc (take (p + 1) l) w r) ∙ set_split (take (p + 1) l ++ (w ++ r)) p x (omega arith) ∙ rw (front, behind) (sym (append_assoc (take p l) (x ∷ w) r)))
      ∙ take_at (take p l ++ (x ∷ w)) r (n + 1) (omega arith)
      ∙ rw (take-take p n l h, drop-take p n l h) refl

pub holds-more : (lent : List (Bor (List ℕ))) (line : Bor (List ℕ)) (p n : ℕ) {after : List (Bor (List ℕ))}
    → InOrder at_most (lines_in (take n lent)) → p ≤ length (take n lent) → n < length lent
    → IsPartitionPoint (λ (y : Bor (List ℕ)). at_most y.now line.now ≡ true) (λ (y : Bor (List ℕ)). at_most y.now line.now ≡ false) (take n lent) p
    → length after ≡ length lent
    → after ≡ set (copy_within lent p n (p + 1)) p line
    → Holds after (insert_of at_most line.now (lines_in (take n lent))) (n + 1)
holds-more lent line p n {after} o h k found m e =
    let w : length (take n lent) ≡ n = length-take-le n lent (omega arith) in
    let c = insert-length at_most line.now (lines_in (take n lent)) in
    let d = length-map (take n lent) (λ (l : Bor (List ℕ)). l.now) in
    record {
      within = omega arith;
      count = omega arith;
      same = rw (e, moved-up lent line p n (omega arith) k) (inserted (take n lent) line o p h found);
    }

-- ---- the text's lines, one after another
module _ (all : List (List ℕ)) (n : ℕ) where
  -- the next line, put among the first n in order
  pub sorted-more : (line : List ℕ) (rest : List (List ℕ)) → drop n all ≡ line ∷ rest
      → insert_of at_most line (sort_of at_most (take n all)) ≡ sort_of at_most (take (n + 1) all)
  sorted-more line rest e =
      s.sort-snoc at_most at-most-trans at-most-total at-most-refl at-most-antisym (take n all) line
      ∙ ap (sort_of at_most) (sym (take-add n 1 all ∙ ap (λ (z : List (List ℕ)). take n all ++ take 1 z) e))

  pub rest-more : (line : List ℕ) (rest : List (List ℕ)) → drop n all ≡ line ∷ rest → drop (n + 1) all ≡ rest
  rest-more line rest e = sym (drop-drop 1 n all) ∙ ap (drop 1) e

  pub more-left : (line : List ℕ) (rest : List (List ℕ)) → drop n all ≡ line ∷ rest → n < length all
  more-left line rest e = let d = length-drop n all in let q = ap length e in omega arith

  pub none-left : drop n all ≡ [] → take n all ≡ all
  none-left e = let d = length-drop n all in let q = ap length e in take_all n all (omega arith)

pub holds-none : (lent : List (Bor (List ℕ))) → Holds lent (sort_of at_most []) 0
unfolding sort_of
holds-none lent = record { within = omega arith; count = refl; same = refl }

pub in-order : (lent : List (Bor (List ℕ))) (ls : List (List ℕ)) (n : ℕ) → Holds lent (sort_of at_most ls) n → InOrder at_most (lines_in (take n lent))
in-order lent ls n h = rw h.same (s.sorted-in-order at_most at-most-trans at-most-total ls)

pub holds-all : (lent : List (Bor (List ℕ))) (all : List (List ℕ)) (n : ℕ) → drop n all ≡ [] → Holds lent (sort_of at_most (take n all)) n → Holds lent (sort_of at_most all) n
holds-all lent all n e h = subst (λ (ls : List (List ℕ)). Holds lent (sort_of at_most ls) n) (none-left all n e) h
