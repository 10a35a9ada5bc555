-- The key of a line, place by place. Assumes nothing.
use Rattle.std.proofs.Common.{◌≡◌, ℕ, ◌≤◌, ◌<◌, Bool, true, false, ◌&&◌, List, [], ◌∷◌, ◌++◌, refl, sym, ap, ◌∙◌, arith, Ordering, Less, Greater, leb, length, take, drop}
use mathlib.Core.Path.{ap₂}
use mathlib.Core.Bool.{true≢false, false≢true}
use borrow.Author.Tests.{leb-true, le-leb}
use Rattle.std.specs.Char.{is_ascii_digit}
use Rattle.std.specs.Cmp.Lexicographic.{slice_cmp}
use Rattle.std.specs.List.{prefix_len}
use Rattle.std.specs.Ordering.{nat_cmp, ordering_then}
use Rattle.laws.specs.Choice.{pick, both}
use Rattle.line_order.specs.Order.{is_digit, run, spelled, key_from, key}
use Rattle.line_order.proofs.Compared.{by-test, by_order, less-is, same-is, more-is}

neither : (a b : Bool) → (a && b) ≡ false → a ≡ true → b ≡ false
neither true b e h = e
neither false b e h = absurd (false≢true h)

pub digit-range : (d : ℕ) → is_digit d ≡ true → (48 ≤ d) × (d ≤ 57)
unfolding is_digit
digit-range d e = let h = both (leb 48 d) (leb d 57) e in (leb-true 48 d h.0, leb-true d 57 h.1)

-- ---- runs

pub run_none : run [] ≡ []
unfolding run
run_none = refl

module _ (d : ℕ) (s : List ℕ) where
  pub run_in : is_digit d ≡ true → run (d ∷ s) ≡ d ∷ run s
  unfolding run pick
  run_in e = rw e

  pub run_out : is_digit d ≡ false → run (d ∷ s) ≡ []
  unfolding run pick
  run_out e = rw e

pub run-some : (d : ℕ) (s : List ℕ) → is_digit d ≡ true → 0 < length (run (d ∷ s))
run-some d s e = rw (run_in d s e) (omega arith)

pub run_take : (s : List ℕ) → take (length (run s)) s ≡ run s
unfolding run
run_take [] = refl
run_take (d ∷ s) =
    by-test (is_digit d) (λ e. rw (run_in d s e) (ap (λ (l : List ℕ). d ∷ l) (run_take s))) (λ e. rw (run_out d s e))

-- the run is as long as std counts it
pub run-length : (s : List ℕ) → length (run s) ≡ prefix_len is_ascii_digit s
unfolding run is_digit
run-length [] = refl
run-length (d ∷ s) = by-test (is_digit d) (λ e. rw (run_in d s e, run-length s, e) (omega arith)) (λ e. rw (run_out d s e, e) refl)

pub run-run : (s : List ℕ) → run (run s) ≡ run s
unfolding run
run-run [] = refl
run-run (d ∷ s) =
    by-test (is_digit d) (λ e. rw (run_in d s e) (run_in d (run s) e ∙ ap (λ (l : List ℕ). d ∷ l) (run-run s))) (λ e. rw (run_out d s e))

pub run_short : (s : List ℕ) → length (run s) ≤ length s
unfolding run
run_short [] = omega arith
run_short (d ∷ s) = by-test (is_digit d) (λ e. rw (run_in d s e) (let h = run_short s in omega arith)) (λ e. rw (run_out d s e) (omega arith))

-- ---- tokens

-- a byte that is no digit is its own token
pub key-byte : (inside : Bool) (b : ℕ) (s : List ℕ) → is_digit b ≡ false → key_from inside (b ∷ s) ≡ b ∷ key_from false s
unfolding key_from pick
key-byte inside b s e = rw e

key-inside : (b : ℕ) (s : List ℕ) → is_digit b ≡ true → key_from true (b ∷ s) ≡ key_from true s
unfolding key_from pick
key-inside b s e = rw e

key-first : (b : ℕ) (s : List ℕ) → is_digit b ≡ true → key_from false (b ∷ s) ≡ 48 ∷ spelled (run (b ∷ s)) ∷ key_from true s
unfolding key_from pick
key-first b s e = rw e

from-none : (inside : Bool) → key_from inside [] ≡ []
unfolding key_from
from-none inside = refl

key-past : (s : List ℕ) → key_from true s ≡ key_from false (drop (length (run s)) s)
key-past [] = rw (run_none, from-none true, from-none false)
key-past (b ∷ s) =
    by-test (is_digit b) (λ e. rw (run_in b s e) (key-inside b s e ∙ key-past s)) (λ e. rw (run_out b s e) (key-byte true b s e ∙ sym (key-byte false b s e)))

-- a run of digits is one token
pub key-run : (b : ℕ) (s : List ℕ) → is_digit b ≡ true
    → key (b ∷ s) ≡ 48 ∷ spelled (run (b ∷ s)) ∷ key (drop (length (run (b ∷ s))) (b ∷ s))
unfolding key
key-run b s e = key-first b s e ∙ rw (run_in b s e) (ap (λ (l : List ℕ). 48 ∷ spelled (b ∷ run s) ∷ l) (key-past s))

-- ---- two lines, by their first tokens

other-range : (b : ℕ) → is_digit b ≡ false → (48 ≤ b → b ≤ 57 → ⊥)
unfolding is_digit
other-range b e h k = true≢false (sym (ap₂ ◌&&◌ (le-leb 48 b h) (le-leb b 57 k)) ∙ e)

-- a digit stands among the other bytes where 48 does
digit-first : (x y : ℕ) → is_digit x ≡ true → is_digit y ≡ false → nat_cmp 48 y ≡ nat_cmp x y
digit-first x y e f =
    let r = digit-range x e in
    by_order x y (λ l. less-is 48 y (omega arith) ∙ sym (less-is x y l)) (λ l. absurd (other-range y f (omega arith) (omega arith)))
    (λ l. more-is 48 y (under (other-range y f) l r.1) ∙ sym (more-is x y l))
  where
    under : (48 ≤ y → y ≤ 57 → ⊥) → y < x → x ≤ 57 → y < 48
    under n l k = by_order 48 y (λ h. absurd (n (omega arith) (omega arith))) (λ h. absurd (n (omega arith) (omega arith))) (λ h. h)

digit-second : (x y : ℕ) → is_digit x ≡ false → is_digit y ≡ true → nat_cmp x 48 ≡ nat_cmp x y
digit-second x y e f =
    let r = digit-range y f in
    by_order x y (λ l. less-is x 48 (under (other-range x e) l r.1) ∙ sym (less-is x y l)) (λ l. absurd (other-range x e (omega arith) (omega arith)))
    (λ l. more-is x 48 (omega arith) ∙ sym (more-is x y l))
  where
    under : (48 ≤ x → x ≤ 57 → ⊥) → x < y → y ≤ 57 → x < 48
    under n l k = by_order x 48 (λ h. h) (λ h. absurd (n (omega arith) (omega arith))) (λ h. absurd (n (omega arith) (omega arith)))

then-differ : (x y : ℕ) (o : Ordering) → (x ≡ y → ⊥) → ordering_then (nat_cmp x y) o ≡ nat_cmp x y
then-differ x y o n = by_order x y (λ h. rw (less-is x y h) refl) (λ h. absurd (n h)) (λ h. rw (more-is x y h) refl)

module _ (x y : ℕ) (s t : List ℕ) where
  -- two numbers
  pub numbers-meet : (is_digit x && is_digit y) ≡ true
      → slice_cmp nat_cmp (key (x ∷ s)) (key (y ∷ t))
      ≡ ordering_then (nat_cmp (spelled (run (x ∷ s))) (spelled (run (y ∷ t))))
      (slice_cmp nat_cmp (key (drop (length (run (x ∷ s))) (x ∷ s))) (key (drop (length (run (y ∷ t))) (y ∷ t))))
  numbers-meet e =
      let h = both (is_digit x) (is_digit y) e in
      rw (key-run x s h.0, key-run y t h.1) refl

  -- two bytes of which one at least is no digit
  pub bytes_same : (is_digit x && is_digit y) ≡ false → x ≡ y → slice_cmp nat_cmp (key (x ∷ s)) (key (y ∷ t)) ≡ slice_cmp nat_cmp (key s) (key t)
  unfolding key
  bytes_same e h =
      let f : is_digit y ≡ false = by-test (is_digit x) (neither (is_digit x) (is_digit y) e) (λ k. ap is_digit (sym h) ∙ k) in
      let g : is_digit x ≡ false = ap is_digit h ∙ f in
      rw (key-byte false x s g, key-byte false y t f, same-is x y h) refl

  pub bytes-differ : (is_digit x && is_digit y) ≡ false → (x ≡ y → ⊥) → slice_cmp nat_cmp (key (x ∷ s)) (key (y ∷ t)) ≡ nat_cmp x y
  unfolding key
  bytes-differ e n =
      by-test (is_digit x)
      (λ d.
      let f = neither (is_digit x) (is_digit y) e d in
      rw (key-first x s d, key-byte false y t f) (then-differ 48 y _ (λ h. other-range y f (omega arith) (omega arith)) ∙ digit-first x y d f))
      (λ d.
      by-test (is_digit y)
      (λ f. rw (key-byte false x s d, key-first y t f) (then-differ x 48 _ (λ h. other-range x d (omega arith) (omega arith)) ∙ digit-second x y d f))
      (λ f. rw (key-byte false x s d, key-byte false y t f) (then-differ x y _ n)))

-- ---- a line that ends

pub key-none : key [] ≡ []
unfolding key
key-none = from-none false

module _ (x : ℕ) (s : List ℕ) where
  pub key-first-ends : slice_cmp nat_cmp (key []) (key (x ∷ s)) ≡ Less
  unfolding key
  key-first-ends = rw key-none (by-test (is_digit x) (λ d. rw (key-first x s d) refl) (λ d. rw (key-byte false x s d) refl))

  pub key-second-ends : slice_cmp nat_cmp (key (x ∷ s)) (key []) ≡ Greater
  unfolding key
  key-second-ends = rw key-none (by-test (is_digit x) (λ d. rw (key-first x s d) refl) (λ d. rw (key-byte false x s d) refl))

-- ---- a byte that is no digit parts a line: the key behind it is the key of what follows

module _ (c : ℕ) (n : is_digit c ≡ false) (u : List ℕ) where
  run-parts : (q : List ℕ) → run (q ++ c ∷ u) ≡ run q
  run-parts [] = run_out c u n ∙ sym run_none
  run-parts (b ∷ q) =
      by-test (is_digit b) (λ d. run_in b (q ++ c ∷ u) d ∙ ap (λ (l : List ℕ). b ∷ l) (run-parts q) ∙ sym (run_in b q d))
      (λ d. run_out b (q ++ c ∷ u) d ∙ sym (run_out b q d))

  key-parts-from : (inside : Bool) (q : List ℕ) → key_from inside (q ++ c ∷ u) ≡ key_from inside q ++ c ∷ key_from false u
  key-parts-from inside [] = rw (from-none inside) (key-byte inside c u n)
  key-parts-from inside (b ∷ q) = by-test (is_digit b) (number inside (key-parts-from true q)) (λ d. rw (key-byte inside b _ d, key-byte inside b q d) (ap (λ (l : List ℕ). b ∷ l) (key-parts-from false q)))
    where
      number : (inside : Bool) → key_from true (q ++ c ∷ u) ≡ key_from true q ++ c ∷ key_from false u → is_digit b ≡ true
          → key_from inside (b ∷ q ++ c ∷ u) ≡ key_from inside (b ∷ q) ++ c ∷ key_from false u
      number true h d = rw (key-inside b (q ++ c ∷ u) d, key-inside b q d) h
      number false h d = rw (key-first b (q ++ c ∷ u) d, key-first b q d, run-parts (b ∷ q)) (ap (λ (l : List ℕ). 48 ∷ spelled (run (b ∷ q)) ∷ l) h)

  pub key-parts : (q : List ℕ) → key (q ++ c ∷ u) ≡ key q ++ c ∷ key u
  unfolding key
  key-parts q = key-parts-from false q
