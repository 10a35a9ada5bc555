-- Two lines, place by place: what is left of them has the order that they have. Assumes nothing.
use Rattle.std.proofs.Common.{◌≡◌, ℕ, ◌<◌, ◌-◌, ◌⊎◌, Bool, true, false, ◌&&◌, List, [], ◌∷◌, refl, sym, ap, ◌∙◌, arith, Ordering, Less, Equal, Greater, length, take, drop}
use Prim.Native.Nat.{suc}
use mathlib.Core.Bool.{true≢false, false≢true}
use lib.ListN.{get_or}
use Rattle.std.specs.Char.{is_ascii_digit}
use Rattle.std.specs.Cmp.Lexicographic.{slice_cmp}
use Rattle.std.specs.List.{prefix_len}
use Rattle.std.specs.Ordering.{nat_cmp, ordering_then, is_le, is_ne, MatchOrdering}
use Rattle.line_order.specs.Order.{is_digit, run, spelled, key, earlier, at_most}
use Rattle.line_order.proofs.Compared.{less-is, more-is, then_with-is, settled, earlier-is, settled-settled}
use Rattle.line_order.proofs.Numbers.{tail}
use Rattle.line_order.proofs.Keys.{run_take, run-run, run-length, run-some, numbers-meet, bytes_same, bytes-differ, key-none, key-first-ends, key-second-ends}

-- how two lines compare by value
abbrev pub by_value : List ℕ → List ℕ → Ordering
by_value s t = slice_cmp nat_cmp (key s) (key t)

-- ---- the digits that a line begins with

module _ (s : List ℕ) {n : ℕ} (e : n ≡ prefix_len is_ascii_digit s) where
  here : n ≡ length (run s)
  here = e ∙ sym (run-length s)

  pub run-part : take n s ≡ run s
  run-part = rw here (run_take s)

  pub part-digits : run (take n s) ≡ take n s
  part-digits = rw run-part (run-run s)

  pub run-behind : drop n s ≡ drop (length (run s)) s
  run-behind = rw here refl

  pub run-long : 0 < length s → is_ascii_digit (get_or s 0 0) ≡ true → 0 < n
  unfolding is_digit
  run-long h d = rw here (some s h d)
    where
      some : (s : List ℕ) → 0 < length s → is_digit (get_or s 0 0) ≡ true → 0 < length (run s)
      some [] h d = absurd (omega arith)
      some (x ∷ s) h d = run-some x s d

-- ---- the walk

pub ended : (s t : List ℕ) → (length s ≡ 0) ⊎ (length t ≡ 0) → by_value s t ≡ nat_cmp (length s) (length t)
ended [] [] h = rw key-none refl
ended [] (y ∷ t) h = key-first-ends y t ∙ sym (less-is 0 (suc (length t)) (omega arith))
ended (x ∷ s) [] h = key-second-ends x s ∙ sym (more-is (suc (length s)) 0 (omega arith))
ended (x ∷ s) (y ∷ t) h = absurd (omega arith)

module _ (s t : List ℕ) (h : 0 < length s) (l : 0 < length t) where
  pub numbers-first : (is_ascii_digit (get_or s 0 0) && is_ascii_digit (get_or t 0 0)) ≡ true
      → by_value s t ≡ ordering_then (nat_cmp (spelled (run s)) (spelled (run t))) (by_value (drop (length (run s)) s) (drop (length (run t)) t))
  unfolding is_digit
  numbers-first d = go s t h l d
    where
      go : (s t : List ℕ) → 0 < length s → 0 < length t → (is_digit (get_or s 0 0) && is_digit (get_or t 0 0)) ≡ true
          → by_value s t ≡ ordering_then (nat_cmp (spelled (run s)) (spelled (run t))) (by_value (drop (length (run s)) s) (drop (length (run t)) t))
      go [] t h l d = absurd (omega arith)
      go (x ∷ s) [] h l d = absurd (omega arith)
      go (x ∷ s) (y ∷ t) h l d = numbers-meet x y s t d

  -- two numbers, in the parts that a split at the digits gives
  module _ (d : (is_ascii_digit (get_or s 0 0) && is_ascii_digit (get_or t 0 0)) ≡ true) {m n : ℕ} (e : m ≡ prefix_len is_ascii_digit s) (f : n ≡ prefix_len is_ascii_digit t)
      {x y : List ℕ} (p : x ≡ take m s) (q : y ≡ take n t) {r : Ordering} (c : r ≡ nat_cmp (spelled x) (spelled y)) where
    numbers-here : by_value s t ≡ ordering_then r (by_value (drop m s) (drop n t))
    numbers-here = rw (c, p, q, run-part s e, run-part t f, run-behind s e, run-behind t f) (numbers-first d)

    decided : (r o : Ordering) → is_ne r ≡ true → ordering_then r o ≡ r
    decided Less o h = refl
    decided Equal o h = absurd (false≢true h)
    decided Greater o h = refl

    undecided : (r o : Ordering) → is_ne r ≡ false → ordering_then r o ≡ o
    undecided Less o h = absurd (true≢false h)
    undecided Equal o h = refl
    undecided Greater o h = absurd (true≢false h)

    pub number-settles : is_ne r ≡ true → by_value s t ≡ r
    number-settles h = numbers-here ∙ decided r _ h

    pub number-turn : {u v : List ℕ} → is_ne r ≡ false → u ≡ drop m s → v ≡ drop n t → by_value s t ≡ by_value u v
    number-turn h a b = numbers-here ∙ undecided r _ h ∙ rw (a, b) refl

  module _ (d : (is_ascii_digit (get_or s 0 0) && is_ascii_digit (get_or t 0 0)) ≡ false) where
    pub byte-settles : (get_or s 0 0 ≡ get_or t 0 0 → ⊥) → by_value s t ≡ nat_cmp (get_or s 0 0) (get_or t 0 0)
    unfolding is_digit
    byte-settles n = go s t h l d n
      where
        go : (s t : List ℕ) → 0 < length s → 0 < length t → (is_digit (get_or s 0 0) && is_digit (get_or t 0 0)) ≡ false → (get_or s 0 0 ≡ get_or t 0 0 → ⊥)
            → by_value s t ≡ nat_cmp (get_or s 0 0) (get_or t 0 0)
        go [] t h l d n = absurd (omega arith)
        go (x ∷ s) [] h l d n = absurd (omega arith)
        go (x ∷ s) (y ∷ t) h l d n = bytes-differ x y s t d n

    pub byte-turn : get_or s 0 0 ≡ get_or t 0 0 → by_value s t ≡ by_value (take (length s - 1) (drop 1 s)) (take (length t - 1) (drop 1 t))
    unfolding is_digit
    byte-turn e = rw (tail 1 s, tail 1 t) (go s t h l d e)
      where
        go : (s t : List ℕ) → 0 < length s → 0 < length t → (is_digit (get_or s 0 0) && is_digit (get_or t 0 0)) ≡ false → get_or s 0 0 ≡ get_or t 0 0
            → by_value s t ≡ by_value (drop 1 s) (drop 1 t)
        go [] t h l d e = absurd (omega arith)
        go (x ∷ s) [] h l d e = absurd (omega arith)
        go (x ∷ s) (y ∷ t) h l d e = bytes_same x y s t d e

-- ---- the bytes tell apart what is the same so

pub at-most-is : (a b : List ℕ) → is_le (ordering_then (by_value a b) (slice_cmp nat_cmp a b)) ≡ at_most a b
unfolding at_most
at-most-is a b =
    sym
    (earlier-is (earlier true a b) (key a) (key b) ∙ ap (λ (t : Bool). settled t (by_value a b)) (earlier-is true a b)
    ∙ settled-settled (slice_cmp nat_cmp a b) (by_value a b))

pub at-most-compared : {P : Type 0} (a b : List ℕ) {o r : Ordering} → o ≡ by_value a b → MatchOrdering o (r ≡ Less) P (r ≡ Greater)
    → (P → r ≡ slice_cmp nat_cmp a b) → is_le r ≡ at_most a b
at-most-compared a b {o} {r} e h k = ap is_le (then_with-is o (slice_cmp nat_cmp a b) r h k) ∙ rw e (at-most-is a b)
