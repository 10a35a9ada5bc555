-- What an accepted read and a fitting payload are, taken apart. Assumes nothing.
--     fits-most, fits-kind     what fits has at most 4,096 bytes, and a kind of at most 4
--     unknown_unfit            nothing fits a kind that is unknown
--     fits-pairs, fits-samples, fits-flush     and the other way round: what fits
--     nine-short               9 is given for fewer bytes than the largest record has
--     header-six               six bytes are there where the header is not refused
--     both_so                  two tests that hold, together
--     Whole, accepted          what is so of bytes whose record is accepted
--     short-length             its payload has at most 4,096 bytes
--     write-accepted           what is so of a kind and a payload that the writer takes
--     whole-accepted           and the other way round: such bytes are accepted
use mathlib.Core.Path.{◌≡◌, refl, sym}
use mathlib.Core.Bool.{Bool, true, false, ◌&&◌, true≢false}
use mathlib.Core.List.{List}
use mathlib.Core.Logic.{◌⊎◌, inl, inr}
use Prim.Native.Nat.{ℕ, suc, ◌+◌, ◌%◌, ◌≤◌, ◌<◌}
use native.Mathlib.Omega.{arith}
use borrow.Author.Tests.{leb-true, leb-false, eqb-true, eqb-false, le-leb, eq-eqb, ne_eqb}
use lib.Dec.{eqb, leb}
use lib.ListN.{length, get_or}
use Rattle.laws.specs.Choice.{pick, pick_yes, pick-if, both}
use Rattle.record.specs.Record.{fits_of}
use Rattle.record.specs.Writing.{write_refusal}
use Rattle.record.specs.Reading.{kind_in, length_in, marked_of, headed_of, whole_of, header_refusal, read_refusal}

pub both_so : (a b : Bool) → a ≡ true → b ≡ true → (a && b) ≡ true
both_so true b h k = k
both_so false b h k = absurd (true≢false (sym h))

and_false : (b : Bool) → (b && false) ≡ false
and_false true = refl
and_false false = refl

-- a refusal that is 0: the test holds, and so does what comes after it
no-refusal : (b : Bool) (x n : ℕ) → pick b x (suc n) ≡ 0 → (b ≡ true) × (x ≡ 0)
unfolding pick
no-refusal true x n h = (refl, h)
no-refusal false x n h = absurd (omega arith)

no-first : (first x : ℕ) → pick (eqb first 0) x first ≡ 0 → (first ≡ 0) × (x ≡ 0)
unfolding pick
no-first first x h = go (eqb first 0) refl h
  where
    go : (b : Bool) → eqb first 0 ≡ b → pick b x first ≡ 0 → (first ≡ 0) × (x ≡ 0)
    go true e h = (eqb-true first 0 e, h)
    go false e h = absurd (eqb-false first 0 e h)

module _ (kind n : ℕ) (h : fits_of kind n ≡ true) where
  pub fits-most : n ≤ 4096
  unfolding fits_of
  fits-most = leb-true n 4096 (both (leb n 4096) _ h).0

  pub fits-kind : kind ≤ 4
  unfolding fits_of
  fits-kind =
      pick-if (λ b. b ≡ true → kind ≤ 4) (eqb kind 1) (λ e t. omega (arith, eqb-true kind 1 e))
      (λ f. pick-if (λ b. b ≡ true → kind ≤ 4) (eqb kind 2) (λ e t. omega (arith, eqb-true kind 2 e))
      (λ g. pick-if (λ b. b ≡ true → kind ≤ 4) (eqb kind 3) (λ e t. omega (arith, eqb-true kind 3 e))
      (λ i. pick-if (λ b. b ≡ true → kind ≤ 4) (eqb kind 4) (λ e t. omega (arith, eqb-true kind 4 e)) (λ j t. absurd (true≢false (sym t))))))
      (both (leb n 4096) _ h).1

pub unknown_unfit : (kind n : ℕ) → (kind ≡ 0) ⊎ (4 < kind) → fits_of kind n ≡ false
unfolding fits_of pick
unknown_unfit kind n (inl e) = rw e (and_false (leb n 4096))
unknown_unfit kind n (inr h) =
    let other : (k : ℕ) → k ≤ 4 → eqb kind k ≡ false = λ k l. ne_eqb kind k (λ e. omega (arith, e)) in
    rw (other 1 (omega arith), other 2 (omega arith), other 3 (omega arith), other 4 (omega arith)) (and_false (leb n 4096))

pub fits-pairs : (n : ℕ) → n ≤ 4096 → n % 8 ≡ 0 → fits_of 1 n ≡ true
unfolding fits_of pick
fits-pairs n h k = rw (le-leb n 4096 h) (eq-eqb (n % 8) 0 k)

pub fits-samples : (n : ℕ) → n ≤ 4096 → n % 4 ≡ 0 → fits_of 2 n ≡ true
unfolding fits_of pick
fits-samples n h k = rw (le-leb n 4096 h) (eq-eqb (n % 4) 0 k)

pub fits-flush : fits_of 3 0 ≡ true
unfolding fits_of pick
fits-flush = refl

pub record Whole (s : List ℕ) : Type 0 where
  pub six : 6 ≤ length s
  pub mark : get_or s 0 0 ≡ 236
  pub mark2 : get_or s 1 0 ≡ 14
  pub null : get_or s 3 0 ≡ 0
  pub fits : fits_of (kind_in s) (length_in s) ≡ true
  pub all : 6 + length_in s ≤ length s

header-accepted : (s : List ℕ) → header_refusal s ≡ 0 → (leb 6 (length s) ≡ true) × (marked_of s ≡ true) × (headed_of s ≡ true)
unfolding header_refusal
header-accepted s h =
    let a = no-refusal (leb 6 (length s)) _ 8 h in
    let b = no-refusal (marked_of s) _ 6 a.1 in
    let c = no-refusal (headed_of s) 0 7 b.1 in
    (a.0, b.0, c.0)

pub header-six : (s : List ℕ) → header_refusal s ≡ 0 → 6 ≤ length s
header-six s h = leb-true 6 (length s) (header-accepted s h).0

pub accepted : (s : List ℕ) → read_refusal s ≡ 0 → Whole s
unfolding read_refusal
accepted s h =
    let f = no-first (header_refusal s) _ h in
    let a = header-accepted s f.0 in
    let m = both (eqb (get_or s 0 0) 236) _ a.1 in
    let g = both (eqb (get_or s 3 0) 0) _ a.2 in
    let w = no-refusal (whole_of s) 0 8 f.1 in
    record {
      six = leb-true 6 (length s) a.0;
      mark = eqb-true (get_or s 0 0) 236 m.0;
      mark2 = eqb-true (get_or s 1 0) 14 m.1;
      null = eqb-true (get_or s 3 0) 0 g.0;
      fits = g.1;
      all = leb-true (6 + length_in s) (length s) w.0;
    }

pub whole-accepted : (s : List ℕ) → Whole s → read_refusal s ≡ 0
unfolding read_refusal header_refusal
whole-accepted s w =
    let m = both_so _ _ (eq-eqb (get_or s 0 0) 236 w.mark) (eq-eqb (get_or s 1 0) 14 w.mark2) in
    let g = both_so _ _ (eq-eqb (get_or s 3 0) 0 w.null) w.fits in
    let first : header_refusal s ≡ 0 =
    sym (pick_yes _ _ _ (le-leb 6 (length s) w.six) (pick_yes _ _ _ m (pick_yes _ _ _ g refl))) in
    sym (pick_yes _ _ _ (eq-eqb (header_refusal s) 0 first) (pick_yes _ _ _ (le-leb (6 + length_in s) (length s) w.all) refl))

-- as many bytes as a payload of an accepted record has
pub short-length : (s : List ℕ) → read_refusal s ≡ 0 → length_in s ≤ 4096
short-length s h = fits-most (kind_in s) (length_in s) (accepted s h).fits

pub write-accepted : (kind n room : ℕ) → write_refusal kind n room ≡ 0 → (fits_of kind n ≡ true) × (6 + n ≤ room)
unfolding write_refusal
write-accepted kind n room h =
    let a = no-refusal (fits_of kind n) _ 7 h in
    let b = no-refusal (leb (6 + n) room) 0 4 a.1 in
    (a.0, leb-true (6 + n) room b.0)

-- each test of the header holds, or its own number is the refusal
header-nine : (s : List ℕ) → header_refusal s ≡ 9 → length s < 6
unfolding header_refusal
header-nine s =
    let Q : ℕ → Type 0 = λ n. n ≡ 9 → length s < 6 in
    pick-if Q (leb 6 (length s))
    (λ _. pick-if Q (marked_of s) (λ _. pick-if Q (headed_of s) (λ _ h. absurd (omega arith)) (λ _ h. absurd (omega arith))) (λ _ h. absurd (omega arith)))
    (λ few h. leb-false 6 (length s) few)

pub nine-short : (s : List ℕ) → read_refusal s ≡ 9 → length s < 4102
unfolding read_refusal
nine-short s =
    let Q : ℕ → Type 0 = λ n. n ≡ 9 → length s < 4102 in
    pick-if Q (eqb (header_refusal s) 0)
    (λ e. let a = header-accepted s (eqb-true (header_refusal s) 0 e) in
    let most = fits-most (kind_in s) (length_in s) (both (eqb (get_or s 3 0) 0) _ a.2).1 in
    pick-if Q (whole_of s) (λ _ h. absurd (omega arith)) (λ short h. omega (arith, leb-false (6 + length_in s) (length s) short)))
    (λ _ h. omega (arith, header-nine s h))
