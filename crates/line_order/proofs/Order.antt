-- The order of lines is total, numbers in them go by their value, and what two lines begin with does not count. For all lists of numbers,
-- whether or not these are bytes. Assumes nothing.
--     at-most-refl, at-most-trans, at-most-total, at-most-antisym     the laws of a total order
--     at-most-empty       the empty line comes first
--     at-most-numbers     two lines that begin with digits go by the numbers that these spell, where the numbers differ
--     at-most-numerals    so do two lines that are digits only
--     at-most-bytes       two lines that begin with bytes that differ, and are not both digits, go by these bytes
--     at-most-behind      two lines that begin alike, up to a byte that is no digit, go by what follows
--     at-most-versions    so digits behind such a beginning go by the numbers that they spell
--     leading-zero        a zero that leads does not change the number that digits spell
use Rattle.std.proofs.Common.{◌≡◌, ℕ, ◌<◌, true, false, ◌&&◌, List, [], ◌∷◌, ◌++◌, refl, sym, ap, ◌∙◌, arith, Ordering, Less, Equal, Greater, ltb, leb}
use mathlib.Core.Bool.{true≢false, false≢true}
use borrow.Author.Tests.{le-leb, lt-leb, lt-ltb, le-ltb}
use Rattle.std.proofs.lemmas.Cmp.{nat_list_cmp_total, on_total, then_total, upto, tied_itself}
use Rattle.std.proofs.lemmas.Map.Lookups.{exact_bytes}
use Rattle.std.specs.Cmp.{IsTotalOrder}
use Rattle.std.specs.Cmp.Lexicographic.{slice_cmp}
use Rattle.std.specs.Ordering.{nat_cmp, ordering_then, ordering_reverse, is_le, is_gt, on, then_cmp}
use Rattle.laws.specs.Choice.{pick}
use Rattle.laws.specs.Kinds.{All, Each}
use Rattle.line_order.specs.Order.{is_digit, run, with_digit, spelled, key_from, key, earlier, at_most}
use Rattle.line_order.proofs.Compared.{by_order, less-is, same-is, more-is, slice_cmp-behind}
use Rattle.line_order.proofs.Keys.{run_none, run_in, key-first-ends, key-second-ends, key-parts, numbers-meet, bytes-differ}
use Rattle.line_order.proofs.Walk.{by_value, at-most-is}
pub use Rattle.line_order.proofs.Numbers.{leading-zero}

-- ---- a total order: two lines compare by value and then by their bytes, and either is a total order

abbrev line_cmp : List ℕ → List ℕ → Ordering
line_cmp = then_cmp (on key (slice_cmp nat_cmp)) (slice_cmp nat_cmp)

total : IsTotalOrder line_cmp
total = then_total (on_total key nat_list_cmp_total) nat_list_cmp_total

not-more : (o : Ordering) → is_le o ≡ true → is_gt o ≡ false
not-more Less e = refl
not-more Equal e = refl
not-more Greater e = absurd (false≢true e)

at-most : (o : Ordering) → is_gt o ≡ false → is_le o ≡ true
at-most Less e = refl
at-most Equal e = refl
at-most Greater e = absurd (true≢false e)

turned : (o : Ordering) → is_le o ≡ false → is_le (ordering_reverse o) ≡ true
turned Less e = absurd (true≢false e)
turned Equal e = absurd (true≢false e)
turned Greater e = refl

both-ways : (o : Ordering) → is_le o ≡ true → is_le (ordering_reverse o) ≡ true → o ≡ Equal
both-ways Less e f = absurd (false≢true f)
both-ways Equal e f = refl
both-ways Greater e f = absurd (false≢true e)

then-equal : (o p : Ordering) → ordering_then o p ≡ Equal → p ≡ Equal
then-equal Less p e = cc
then-equal Equal p e = e
then-equal Greater p e = cc

pub at-most-refl : (a : List ℕ) → at_most a a ≡ true
at-most-refl a = sym (at-most-is a a) ∙ ap is_le (tied_itself total a)

pub at-most-trans : (a b c : List ℕ) → at_most a b ≡ true → at_most b c ≡ true → at_most a c ≡ true
at-most-trans a b c e f =
    sym (at-most-is a c)
    ∙ at-most (line_cmp a c) (upto total a b c (not-more (line_cmp a b) (at-most-is a b ∙ e)) (not-more (line_cmp b c) (at-most-is b c ∙ f)))

pub at-most-total : (a b : List ℕ) → at_most a b ≡ false → at_most b a ≡ true
at-most-total a b e = sym (at-most-is b a) ∙ ap is_le (total.antisymm b a) ∙ turned (line_cmp a b) (at-most-is a b ∙ e)

pub at-most-antisym : (a b : List ℕ) → at_most a b ≡ true → at_most b a ≡ true → a ≡ b
at-most-antisym a b e f =
    exact_bytes a b
    (then-equal (by_value a b) (slice_cmp nat_cmp a b)
    (both-ways (line_cmp a b) (at-most-is a b ∙ e) (ap is_le (sym (total.antisymm b a)) ∙ at-most-is b a ∙ f)))

pub at-most-empty : (l : List ℕ) → at_most [] l ≡ true
at-most-empty [] = at-most-refl []
at-most-empty (y ∷ l) = sym (at-most-is [] (y ∷ l)) ∙ rw (key-first-ends y l) refl

-- ---- numbers

spelled_none : spelled [] ≡ 0
unfolding spelled
spelled_none = refl

abbrev pub Digits : List ℕ → Type 0
Digits ds = All (λ d. is_digit d ≡ true) ds

own-run : (ds : List ℕ) → Each (λ d. is_digit d ≡ true) ds → run ds ≡ ds
own-run [] h = run_none
own-run (d ∷ ds) h = run_in d ds h.0 ∙ ap (λ (l : List ℕ). d ∷ l) (own-run ds h.1)

decided : (p q : ℕ) (o r : Ordering) → (p ≡ q → ⊥) → is_le (ordering_then (ordering_then (nat_cmp p q) o) r) ≡ leb p q
decided p q o r k =
    by_order p q (λ l. rw (less-is p q l) (sym (le-leb p q (omega arith)))) (λ l. absurd (k l)) (λ l. rw (more-is p q l) (sym (lt-leb p q l)))

pub at-most-numbers : (x y : ℕ) (s t : List ℕ) → is_digit x ≡ true → is_digit y ≡ true → (spelled (run (x ∷ s)) ≡ spelled (run (y ∷ t)) → ⊥)
    → at_most (x ∷ s) (y ∷ t) ≡ leb (spelled (run (x ∷ s))) (spelled (run (y ∷ t)))
at-most-numbers x y s t h k n = sym (at-most-is (x ∷ s) (y ∷ t)) ∙ rw (numbers-meet x y s t (rw (h, k) refl)) (decided _ _ _ _ n)

pub at-most-numerals : (ds es : List ℕ) → Digits ds → Digits es → (spelled ds ≡ spelled es → ⊥) → at_most ds es ≡ leb (spelled ds) (spelled es)
at-most-numerals [] [] h k n = absurd (n refl)
at-most-numerals [] (y ∷ t) h k n = at-most-empty (y ∷ t) ∙ sym (rw spelled_none (le-leb 0 (spelled (y ∷ t)) (omega arith)))
at-most-numerals (x ∷ s) [] h k n =
    sym (at-most-is (x ∷ s) []) ∙ rw (key-second-ends x s) (sym (lt-leb (spelled (x ∷ s)) (spelled []) (some spelled_none n)))
  where
    some : {z : ℕ} → z ≡ 0 → (spelled (x ∷ s) ≡ z → ⊥) → z < spelled (x ∷ s)
    some e m = omega arith
at-most-numerals (x ∷ s) (y ∷ t) h k n =
    rw (own-run (x ∷ s) h.each, own-run (y ∷ t) k.each) at
    (at-most-numbers x y s t h.each.0 k.each.0 (rw (own-run (x ∷ s) h.each, own-run (y ∷ t) k.each) n))

-- ---- bytes

byte-decided : (x y : ℕ) (r : Ordering) → (x ≡ y → ⊥) → is_le (ordering_then (nat_cmp x y) r) ≡ ltb x y
byte-decided x y r n =
    by_order x y (λ l. rw (less-is x y l) (sym (lt-ltb x y l))) (λ l. absurd (n l)) (λ l. rw (more-is x y l) (sym (le-ltb x y (omega arith))))

pub at-most-bytes : (x y : ℕ) (s t : List ℕ) → (is_digit x && is_digit y) ≡ false → (x ≡ y → ⊥) → at_most (x ∷ s) (y ∷ t) ≡ ltb x y
at-most-bytes x y s t d n = sym (at-most-is (x ∷ s) (y ∷ t)) ∙ rw (bytes-differ x y s t d n) (byte-decided x y _ n)

-- ---- behind what both begin with

pub at-most-behind : (q : List ℕ) (c : ℕ) (u v : List ℕ) → is_digit c ≡ false → at_most (q ++ c ∷ u) (q ++ c ∷ v) ≡ at_most u v
at-most-behind q c u v n =
    sym (at-most-is (q ++ c ∷ u) (q ++ c ∷ v))
    ∙ rw (
      key-parts c n u q,
      key-parts c n v q,
      slice_cmp-behind (key q) (c ∷ key u) (c ∷ key v),
      slice_cmp-behind q (c ∷ u) (c ∷ v),
      same-is c c refl,
    ) (at-most-is u v)

pub at-most-versions : (q : List ℕ) (c : ℕ) (ds es : List ℕ) → is_digit c ≡ false → Digits ds → Digits es → (spelled ds ≡ spelled es → ⊥)
    → at_most (q ++ c ∷ ds) (q ++ c ∷ es) ≡ leb (spelled ds) (spelled es)
at-most-versions q c ds es n h k m = at-most-behind q c ds es n ∙ at-most-numerals ds es h k m

-- ---- examples

-- `1.9` comes before `1.10`
example-version : (at_most (49 ∷ 46 ∷ 57 ∷ []) (49 ∷ 46 ∷ 49 ∷ 48 ∷ []) ≡ true) × (at_most (49 ∷ 46 ∷ 49 ∷ 48 ∷ []) (49 ∷ 46 ∷ 57 ∷ []) ≡ false)
unfolding at_most key key_from run spelled with_digit earlier is_digit pick
example-version = (refl, refl)

-- `aec 9` comes before `aec 10`
example-name : (at_most (97 ∷ 101 ∷ 99 ∷ 32 ∷ 57 ∷ []) (97 ∷ 101 ∷ 99 ∷ 32 ∷ 49 ∷ 48 ∷ []) ≡ true)
    × (at_most (97 ∷ 101 ∷ 99 ∷ 32 ∷ 49 ∷ 48 ∷ []) (97 ∷ 101 ∷ 99 ∷ 32 ∷ 57 ∷ []) ≡ false)
unfolding at_most key key_from run spelled with_digit earlier is_digit pick
example-name = (refl, refl)

-- `a01` comes before `a1`: the numbers are the same, and of the bytes 48 comes before 49
example-tie : (at_most (97 ∷ 48 ∷ 49 ∷ []) (97 ∷ 49 ∷ []) ≡ true) × (at_most (97 ∷ 49 ∷ []) (97 ∷ 48 ∷ 49 ∷ []) ≡ false)
unfolding at_most key key_from run spelled with_digit earlier is_digit pick
example-tie = (refl, refl)
