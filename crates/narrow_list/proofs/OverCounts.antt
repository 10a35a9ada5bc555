-- Laws of the count. Assumes nothing.
--     overs-app                              lists one behind the other
--     overs-few                              no more than there are numbers
--     overs-take, overs-one, overs-part      the first numbers of a list, one more of them, and a part more
--     overs-by-test                          the count as one of those that pass a test
--     finite-none, finite-not                a number that is narrowed to a finite one went over nowhere
--     overs-none, overs-nowhere              none where each is narrowed to a finite number
--     overs-pairs                            a table by pairs: those of its two parts
--     table-of, table-take, table-map        the first numbers of a list, and each by itself, as tables
use mathlib.Core.Path.{◌≡◌, refl, sym, ap, ◌∙◌}
use mathlib.Core.Bool.{Bool, true, false, cond, not, true≢false}
use mathlib.Core.List.{List, [], ◌∷◌, ◌++◌, map}
use Prim.Native.Nat.{ℕ, zero, suc, ◌+◌, ◌-◌, ◌≤◌, ◌<◌}
use native.Mathlib.Nat.{add-zero, zero-add}
use native.Mathlib.Omega.{arith}
use lib.Ieee.{Float, nan, eq}
use lib.ListN.{length, get_or, take, drop}
use lib.Seq.{take_all, take-add}
use mir.Val.{bool_byte}
use Rattle.std.specs.Prelude.{count_by}
use Rattle.std.proofs.lemmas.List.{length-take, take_more}
use Rattle.std.proofs.lemmas.List.Recursion.{is_count_by}
use Rattle.laws.specs.Choice.{pick-if}
use Rattle.laws.specs.Tables.{table, table2, length-table}
use Rattle.numbers.specs.Finite.{is_finite}
use Rattle.numbers.specs.Narrowing.{narrow_of, kind_of}
use Rattle.numbers.specs.declared.narrowing.Kind.{Kind}
use Rattle.numbers.specs.declared.narrowing.Kind.TheVariants.{Exact, Rounded, Over}
use Rattle.narrow_list.specs.Overs.{is_over, over_one, over_count}

pub overs-app : (a b : List Float) → over_count (a ++ b) ≡ over_count a + over_count b
unfolding over_count
overs-app [] b = omega arith
overs-app (x ∷ a) b = omega (arith, overs-app a b)

one-few : (k : Kind) → over_one k ≤ 1
unfolding over_one
one-few Exact = omega arith
one-few Rounded = omega arith
one-few Over = omega arith

pub overs-few : (l : List Float) → over_count l ≤ length l
unfolding over_count
overs-few [] = omega arith
overs-few (x ∷ l) = omega (arith, one-few (kind_of x), overs-few l)

pub overs-table : (n : ℕ) (f : ℕ → Float) → over_count (table n f) ≤ n
overs-table n f = omega (arith, overs-few (table n f), length-table n f)

-- ---- lists as tables

pub table-map : (f : Float → Float) (l : List Float) → table (length l) (λ k. f (get_or l k nan)) ≡ map f l
unfolding table
table-map f [] = refl
table-map f (x ∷ l) = ap (λ (r : List Float). f x ∷ r) (table-map f l)

-- f of the first n numbers
pub table-of : (f : Float → Float) (l : List Float) (n : ℕ) → n ≤ length l → table n (λ k. f (get_or l k nan)) ≡ map f (take n l)
unfolding table
table-of f l zero h = refl
table-of f [] (suc n) h = absurd (omega arith)
table-of f (x ∷ l) (suc n) h = ap (λ (r : List Float). f x ∷ r) (table-of f l n (omega arith))

pub table-take : (n : ℕ) (l : List Float) → n ≤ length l → table n (λ k. get_or l k nan) ≡ take n l
unfolding table
table-take zero l h = refl
table-take (suc n) [] h = absurd (omega arith)
table-take (suc n) (x ∷ l) h = ap (λ (r : List Float). x ∷ r) (table-take n l (omega arith))

-- ---- lists from the front, and a count by a test

pub overs-take : (n : ℕ) (l : List Float) → over_count (take n l) ≤ n
overs-take n l = omega (arith, overs-few (take n l), length-take n l)

pub overs-more : (m k : ℕ) (l : List Float) → over_count (take (m + k) l) ≡ over_count (take m l) + over_count (take k (drop m l))
overs-more m k l = ap over_count (take-add m k l) ∙ overs-app (take m l) (take k (drop m l))

-- the numbers from place m to place e, behind the first m
pub overs-part : (m e n : ℕ) (l : List Float) {a b : ℕ} → m ≤ e → e ≡ n → a ≡ over_count (take m l) → b ≡ over_count (take (e - m) (drop m l)) → a + b ≡ over_count (take n l)
overs-part m e n l h q p r = rw (p, r) (sym (overs-more m (e - m) l)) ∙ (let k : m + (e - m) ≡ n = omega arith in ap (λ (i : ℕ). over_count (take i l)) k)

one-by-test : (k : Kind) → over_one k ≡ bool_byte (is_over k)
unfolding over_one
one-by-test Exact = refl
one-by-test Rounded = refl
one-by-test Over = refl

pub one-bit : (b : Bool) → bool_byte b ≤ 1
one-bit true = omega arith
one-bit false = omega arith

pub overs-one : (n : ℕ) (l : List Float) → n < length l → over_count (take (n + 1) l) ≡ over_count (take n l) + bool_byte (is_over (kind_of (get_or l n nan)))
unfolding over_count
overs-one n l h =
    ap over_count (take_more l n nan h)
    ∙ overs-app (take n l) (get_or l n nan ∷ [])
    ∙ ap (λ (k : ℕ). over_count (take n l) + k) (add-zero (over_one (kind_of (get_or l n nan))) ∙ one-by-test (kind_of (get_or l n nan)))

pub overs-by-test : (f : Float → Float) (l : List Float) → over_count (map f l) ≡ count_by (λ x. is_over (kind_of (f x))) l
unfolding over_count
overs-by-test f l = is_count_by (λ l. over_count (map f l)) (λ x. is_over (kind_of (f x))) refl (λ x l. one-more x l (is_over (kind_of (f x))) (one-by-test (kind_of (f x)))) l
  where
    one-more : (x : Float) (l : List Float) (b : Bool) → over_one (kind_of (f x)) ≡ bool_byte b → over_one (kind_of (f x)) + over_count (map f l) ≡ cond b (1 + over_count (map f l)) (over_count (map f l))
    one-more x l true e = ap (λ (k : ℕ). k + over_count (map f l)) e
    one-more x l false e = ap (λ (k : ℕ). k + over_count (map f l)) e ∙ zero-add (over_count (map f l))

-- ---- none

pub finite-none : (x : Float) → is_finite (narrow_of x) ≡ true → over_one (kind_of x) ≡ 0
unfolding over_one kind_of
finite-none x h =
    pick-if (λ (k : Kind). over_one k ≡ 0) (not (is_finite x)) (λ _. refl)
    (λ _. pick-if (λ (k : Kind). over_one k ≡ 0) (not (is_finite (narrow_of x))) (λ e. absurd (true≢false (sym e ∙ ap not h)))
    (λ _. pick-if (λ (k : Kind). over_one k ≡ 0) (eq x (narrow_of x)) (λ _. refl) (λ _. refl)))

pub finite-not : (x : Float) → is_finite (narrow_of x) ≡ true → is_over (kind_of x) ≡ false
unfolding kind_of
finite-not x h =
    pick-if (λ (k : Kind). is_over k ≡ false) (not (is_finite x)) (λ _. refl)
    (λ _. pick-if (λ (k : Kind). is_over k ≡ false) (not (is_finite (narrow_of x))) (λ e. absurd (true≢false (sym e ∙ ap not h)))
    (λ _. pick-if (λ (k : Kind). is_over k ≡ false) (eq x (narrow_of x)) (λ _. refl) (λ _. refl)))

pub overs-none : (n : ℕ) (f : ℕ → Float) → ((k : ℕ) → k < n → is_finite (narrow_of (f k)) ≡ true) → over_count (table n f) ≡ 0
unfolding over_count table
overs-none zero f h = refl
overs-none (suc n) f h = omega (arith, finite-none (f 0) (h 0 (omega arith)), overs-none n (λ k. f (suc k)) (λ k l. h (suc k) (omega arith)))

pub overs-nowhere : (l : List Float) → ((k : ℕ) → k < length l → is_finite (narrow_of (get_or l k nan)) ≡ true) → over_count l ≡ 0
overs-nowhere l h =
    ap over_count (sym (table-take (length l) l (omega arith) ∙ take_all (length l) l (omega arith)))
    ∙ overs-none (length l) (λ k. get_or l k nan) h

-- ---- pairs

pub overs-pairs : (n : ℕ) (f g : ℕ → Float) → over_count (table2 n f g) ≡ over_count (table n f) + over_count (table n g)
unfolding over_count table table2
overs-pairs zero f g = refl
overs-pairs (suc n) f g = omega (arith, overs-pairs n (λ k. f (suc k)) (λ k. g (suc k)))
