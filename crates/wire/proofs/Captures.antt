-- Captures cut anywhere, and read back. Assumes nothing.
--     near-cut, far-cut, rest-cut     a capture cut in two: its pairs are those of the first part, and then those of what that leaves, the
--                          second part behind it
--     near_same, far-same  where that makes no pair whole, there are no pairs more
--     rest-short           fewer than eight bytes are left
--     length-near, length-far, length-bytes     a sample a pair; four bytes a sample
--     bytes-join           one sample after the other
--     written-front        what `write_samples` leaves: the bytes, and then what was there
--     rest-kept            what `keep_rest` leaves: what is left of the bytes held
--     near-front, far-front     what `read_near` and `read_far` leave, as far as the pairs go
--     read_again           what was written is read again, where every sample is an f32
use mathlib.Core.Path.{◌≡◌, refl, sym, ap, ◌∙◌}
use mathlib.Core.List.{List, [], ◌++◌, append_assoc, append-nil}
use Prim.Native.Nat.{ℕ, ◌+◌, ◌*◌, ◌/◌, ◌%◌, ◌≤◌, ◌<◌}
use native.Mathlib.Nat.{div-div-eq-div-mul, div-one}
use native.Mathlib.Omega.{arith}
use lib.Ieee.{Float, nan, binary32, of_bits, to_bits}
use lib.Ieee.Bits.{of_bits-to_bits, to_bits-lt}
use lib.ListN.{length, get_or, take, drop, get_or-append, length-append, length-drop, take-append-drop}
use lib.Seq.{get_or-append-add, get_or-take, length-take-le, take_at, drop-append-add}
use Rattle.laws.specs.Choice.{pick}
use Rattle.laws.specs.Kinds.{All, all-get}
use Rattle.laws.specs.Loops.{over, length_over}
use Rattle.laws.specs.Readings.{over-cong, over-front, over-placed, over-dropped}
use Rattle.laws.specs.Tables.{table, length-table, table_at, table-cong, table-split}
use Rattle.numbers.specs.Zeros.{Fits}
use Rattle.wire.specs.Wire.{pattern_at, sample_at, pairs_in, near_in, far_in, rest_in, place_of, byte_of, written_at, bytes_of}

-- ---- samples of two parts in a row

module _ (u v : List ℕ) where
  sample-front : (i : ℕ) → 4 * i + 3 < length u → sample_at (u ++ v) i ≡ sample_at u i
  unfolding sample_at pattern_at
  sample-front i h =
      let a = get_or-append u v 0 (4 * i) (omega arith) in
      let b = get_or-append u v 0 (4 * i + 1) (omega arith) in
      let c = get_or-append u v 0 (4 * i + 2) (omega arith) in
      let d = get_or-append u v 0 (4 * i + 3) h in
      rw (a, b, c, d) refl

  -- the byte at i, j counted from v's start
  behind : (i j : ℕ) → i ≡ length u + j → get_or (u ++ v) i 0 ≡ get_or v j 0
  behind i j e = ap (λ (k : ℕ). get_or (u ++ v) k 0) e ∙ get_or-append-add u v j 0

  sample-back : (n k : ℕ) → length u ≡ 4 * n → sample_at (u ++ v) (n + k) ≡ sample_at v k
  unfolding sample_at pattern_at
  sample-back n k e =
      let a = behind (4 * (n + k)) (4 * k) (omega arith) in
      let b = behind (4 * (n + k) + 1) (4 * k + 1) (omega arith) in
      let c = behind (4 * (n + k) + 2) (4 * k + 2) (omega arith) in
      let d = behind (4 * (n + k) + 3) (4 * k + 3) (omega arith) in
      rw (a, b, c, d) refl

-- ---- every second sample, g k being the place of the k-th

abbrev picks : (ℕ → ℕ) → List ℕ → List Float
picks g s = table (pairs_in s) (λ k. sample_at s (g k))

eight : (n m : ℕ) → (8 * n + m) / 8 ≡ n + m / 8
eight n m = omega arith

long : (n : ℕ) (u v : List ℕ) → length u ≡ 8 * n → pairs_in (u ++ v) ≡ n + pairs_in v
long n u v e = ap (λ (k : ℕ). k / 8) (length-append u v ∙ ap (λ (k : ℕ). k + length v) e) ∙ eight n (length v)

table_none : {n : ℕ} (f : ℕ → Float) → n ≡ 0 → table n f ≡ []
unfolding table
table_none f e = ap (λ (m : ℕ). table m f) e

-- fewer than eight bytes are no pair
table-short : (s : List ℕ) (f : ℕ → Float) → length s < 8 → table (pairs_in s) f ≡ []
table-short s f h = table_none f (go (length s) h)
  where
    go : (n : ℕ) → n < 8 → n / 8 ≡ 0
    go n h = omega arith

pub rest-short : (a : List ℕ) → length (rest_in a) < 8
rest-short a = rw (length-drop (8 * pairs_in a) a) (omega arith)

module _ (g : ℕ → ℕ) (on : (n k : ℕ) → g (n + k) ≡ 2 * n + g k) (below : (n k : ℕ) → k < n → g k < 2 * n) where
  -- behind n whole pairs
  pairs-cut : (u v : List ℕ) (n : ℕ) → length u ≡ 8 * n → picks g (u ++ v) ≡ picks g u ++ picks g v
  pairs-cut u v n e =
      let F : ℕ → Float = λ k. sample_at (u ++ v) (g k) in
      let q : pairs_in u ≡ n = omega arith in
      let a : table n F ≡ picks g u =
      table-cong n F (λ k. sample_at u (g k)) (λ k l. sample-front u v (g k) (room n (g k) (below n k l) e))
      ∙ ap (λ (m : ℕ). table m (λ k. sample_at u (g k))) (sym q) in
      let b : table (pairs_in v) (λ k. F (n + k)) ≡ picks g v =
      table-cong (pairs_in v) (λ k. F (n + k)) (λ k. sample_at v (g k)) (λ k l. ap (sample_at (u ++ v)) (on n k) ∙ sample-back u v (2 * n) (g k) (four n e)) in
      ap (λ (m : ℕ). table m F) (long n u v e)
      ∙ table-split n (pairs_in v) F
      ∙ ap (λ (l : List Float). l ++ table (pairs_in v) (λ k. F (n + k))) a
      ∙ ap (λ (l : List Float). picks g u ++ l) b
    where
      room : (n i : ℕ) → i < 2 * n → length u ≡ 8 * n → 4 * i + 3 < length u
      room n i h e = omega arith

      four : (n : ℕ) → length u ≡ 8 * n → length u ≡ 4 * (2 * n)
      four n e = omega arith

  picks-cut : (a b : List ℕ) → picks g (a ++ b) ≡ picks g a ++ picks g (rest_in a ++ b)
  picks-cut a b =
      let n = pairs_in a in
      let u = take (8 * n) a in
      let r = rest_in a in
      let e : length u ≡ 8 * n = length-take-le (8 * n) a (omega arith) in
      let none : picks g r ≡ [] = table-short r (λ k. sample_at r (g k)) (rest-short a) in
      let parts : u ++ r ≡ a = take-append-drop (8 * n) a in
      let first : picks g a ≡ picks g u =
      ap (picks g) (sym parts) ∙ pairs-cut u r n e ∙ ap (λ (l : List Float). picks g u ++ l) none ∙ append-nil (picks g u) in
      ap (λ (l : List ℕ). picks g (l ++ b)) (sym parts)
      ∙ ap (picks g) (append_assoc u r b)
      ∙ pairs-cut u (r ++ b) n e
      ∙ ap (λ (l : List Float). l ++ picks g (r ++ b)) (sym first)

pub near-cut : (a b : List ℕ) → near_in (a ++ b) ≡ near_in a ++ near_in (rest_in a ++ b)
unfolding near_in
near-cut = picks-cut (λ k. 2 * k) (λ n k. omega arith) (λ n k l. omega arith)

pub far-cut : (a b : List ℕ) → far_in (a ++ b) ≡ far_in a ++ far_in (rest_in a ++ b)
unfolding far_in
far-cut = picks-cut (λ k. 2 * k + 1) (λ n k. omega arith) (λ n k l. omega arith)

pub rest-cut : (a b : List ℕ) → rest_in (a ++ b) ≡ rest_in (rest_in a ++ b)
rest-cut a b =
    let n = pairs_in a in
    let u = take (8 * n) a in
    let w = rest_in a ++ b in
    let e : length u ≡ 8 * n = length-take-le (8 * n) a (omega arith) in
    let parts : a ++ b ≡ u ++ w = ap (λ (l : List ℕ). l ++ b) (sym (take-append-drop (8 * n) a)) ∙ append_assoc u (rest_in a) b in
    let at : 8 * pairs_in (u ++ w) ≡ length u + 8 * pairs_in w = ap (λ (k : ℕ). 8 * k) (long n u w e) ∙ off (pairs_in w) n (length u) e in
    ap rest_in parts ∙ ap (λ (k : ℕ). drop k (u ++ w)) at ∙ drop-append-add u w (8 * pairs_in w)
  where
    off : (m n k : ℕ) → k ≡ 8 * n → 8 * (n + m) ≡ k + 8 * m
    off m n k e = omega arith

-- a second part that makes no pair whole adds none
pub near_same : (a b : List ℕ) → length (rest_in a ++ b) < 8 → near_in (a ++ b) ≡ near_in a
unfolding near_in
near_same a b h = near-cut a b ∙ ap (λ (l : List Float). near_in a ++ l) (table-short (rest_in a ++ b) (λ k. sample_at (rest_in a ++ b) (2 * k)) h) ∙ append-nil (near_in a)

pub far-same : (a b : List ℕ) → length (rest_in a ++ b) < 8 → far_in (a ++ b) ≡ far_in a
unfolding far_in
far-same a b h = far-cut a b ∙ ap (λ (l : List Float). far_in a ++ l) (table-short (rest_in a ++ b) (λ k. sample_at (rest_in a ++ b) (2 * k + 1)) h) ∙ append-nil (far_in a)

pub length-near : (a : List ℕ) → length (near_in a) ≡ pairs_in a
unfolding near_in
length-near a = length-table (pairs_in a) (λ k. sample_at a (2 * k))

pub length-far : (a : List ℕ) → length (far_in a) ≡ pairs_in a
unfolding far_in
length-far a = length-table (pairs_in a) (λ k. sample_at a (2 * k + 1))

-- ---- bytes

pub length-bytes : (xs : List Float) → length (bytes_of xs) ≡ 4 * length xs
unfolding bytes_of
length-bytes xs = length-table (4 * length xs) (written_at xs)

module _ (xs ys : List Float) where
  byte-front : (i : ℕ) → i < 4 * length xs → written_at (xs ++ ys) i ≡ written_at xs i
  unfolding written_at
  byte-front i h = let a = get_or-append xs ys nan (i / 4) (omega arith) in rw a refl

  byte-back : (i : ℕ) → written_at (xs ++ ys) (4 * length xs + i) ≡ written_at ys i
  unfolding written_at
  byte-back i =
      let a = get_or-append-add xs ys (i / 4) nan in
      rw (quotient (length xs) i, remainder (length xs) i, a) refl
    where
      quotient : (n i : ℕ) → (4 * n + i) / 4 ≡ n + i / 4
      quotient n i = omega arith

      remainder : (n i : ℕ) → (4 * n + i) % 4 ≡ i % 4
      remainder n i = omega arith

  pub bytes-join : bytes_of (xs ++ ys) ≡ bytes_of xs ++ bytes_of ys
  unfolding bytes_of
  bytes-join =
      let W = written_at (xs ++ ys) in
      let n = 4 * length xs in
      let m = 4 * length ys in
      let e : 4 * length (xs ++ ys) ≡ n + m = ap (λ (k : ℕ). 4 * k) (length-append xs ys) ∙ sums (length xs) (length ys) in
      ap (λ (k : ℕ). table k W) e
      ∙ table-split n m W
      ∙ ap (λ (l : List ℕ). l ++ table m (λ k. W (n + k))) (table-cong n W (written_at xs) byte-front)
      ∙ ap (λ (l : List ℕ). table n (written_at xs) ++ l) (table-cong m (λ k. W (n + k)) (written_at ys) (λ k l. byte-back k))
    where
      sums : (a b : ℕ) → 4 * (a + b) ≡ 4 * a + 4 * b
      sums a b = omega arith

-- ---- what the functions leave

pub written-front : (xs : List Float) (d : List ℕ) → 4 * length xs ≤ length d
    → over (4 * length xs) (λ i b. written_at xs i) d ≡ bytes_of xs ++ drop (4 * length xs) d
unfolding bytes_of
written-front xs d h = over-placed (4 * length xs) (written_at xs) d h

-- what `keep_rest` leaves at the block's start: what is left of the bytes held
pub rest-kept : (held : ℕ) (d : List ℕ) → held ≤ length d → take (held % 8) (over (held % 8) (λ k x. get_or d (held / 8 * 8 + k) 0) d) ≡ rest_in (take held d)
rest-kept held d h =
    let a = held / 8 * 8 in
    let m = held % 8 in
    let F : ℕ → ℕ → ℕ = λ k x. get_or d (a + k) 0 in
    let t = take held d in
    let l : length t ≡ held = length-take-le held d h in
    let n : length (take m d) ≡ m = length-take-le m d (omega (arith, h)) in
    ap (take m) (over-front m F d)
    ∙ take_at (over m F (take m d)) (drop m d) m (length_over m F (take m d) ∙ n)
    ∙ over-cong F (λ k x. get_or t (a + k) 0) (take m d) m (λ k x b. sym (get_or-take held d (a + k) 0 (omega arith)))
    ∙ over-dropped 0 a m t (take m d) (l ∙ parts held) n
    ∙ ap (λ (k : ℕ). drop k t) (eights held (length t) l)
  where
    parts : (n : ℕ) → n ≡ n / 8 * 8 + n % 8
    parts n = omega arith

    eights : (n k : ℕ) → k ≡ n → n / 8 * 8 ≡ 8 * (k / 8)
    eights n k e = omega arith

front : (n : ℕ) (f : ℕ → Float) (d : List Float) → n ≤ length d → take n (over n (λ k x. f k) d) ≡ table n f
front n f d h = ap (take n) (over-placed n f d h) ∙ take_at (table n f) (drop n d) n (length-table n f)

pub near-front : (s : List ℕ) (d : List Float) → pairs_in s ≤ length d → take (pairs_in s) (over (pairs_in s) (λ k x. sample_at s (2 * k)) d) ≡ near_in s
unfolding near_in
near-front s d h = front (pairs_in s) (λ k. sample_at s (2 * k)) d h

pub far-front : (s : List ℕ) (d : List Float) → pairs_in s ≤ length d → take (pairs_in s) (over (pairs_in s) (λ k x. sample_at s (2 * k + 1)) d) ≡ far_in s
unfolding far_in
far-front s d h = front (pairs_in s) (λ k. sample_at s (2 * k + 1)) d h

-- ---- what was written, read again

-- a number below 2 ^ 32 by its four bytes
digits : (p a b c : ℕ) → p < 4294967296 → a ≡ p / 256 → b ≡ a / 256 → c ≡ b / 256 → p % 256 + 256 * (a % 256) + 65536 * (b % 256) + 16777216 * (c % 256) ≡ p
digits p a b c h d e f = omega arith

bytes-sum : (p : ℕ) → p < 4294967296 → p / 1 % 256 + 256 * (p / 256 % 256) + 65536 * (p / 65536 % 256) + 16777216 * (p / 16777216 % 256) ≡ p
bytes-sum p h = rw div-one (digits p (p / 256) (p / 65536) (p / 16777216) h refl (sym (div-div-eq-div-mul p 256 256)) (sym (div-div-eq-div-mul p 65536 256)))

abbrev pattern_of : ℕ → ℕ
pattern_of p = byte_of p 0 + 256 * byte_of p 1 + 65536 * byte_of p 2 + 16777216 * byte_of p 3

pattern-is : (p : ℕ) → p < 4294967296 → pattern_of p ≡ p
unfolding byte_of place_of pick
pattern-is p h = bytes-sum p h

sample-is : (x : Float) → Fits x → of_bits binary32 (pattern_of (to_bits binary32 x)) ≡ x
sample-is x h = ap (of_bits binary32) (pattern-is (to_bits binary32 x) (to_bits-lt binary32 x h.fit)) ∙ of_bits-to_bits binary32 x h.fit

-- byte j of sample k
byte_at : (xs : List Float) (k j i : ℕ) → i ≡ 4 * k + j → j < 4 → k < length xs → get_or (bytes_of xs) i 0 ≡ byte_of (to_bits binary32 (get_or xs k nan)) j
unfolding bytes_of written_at
byte_at xs k j i e h l =
    let q : i / 4 ≡ k = omega arith in
    let r : i % 4 ≡ j = omega arith in
    table_at (4 * length xs) (written_at xs) i 0 (omega arith) ∙ rw (q, r) refl

pub read_again : (xs : List Float) (k : ℕ) → All Fits xs → k < length xs → sample_at (bytes_of xs) k ≡ get_or xs k nan
unfolding sample_at pattern_at
read_again xs k h l =
    let a = byte_at xs k 0 (4 * k) (omega arith) (omega arith) l in
    let b = byte_at xs k 1 (4 * k + 1) refl (omega arith) l in
    let c = byte_at xs k 2 (4 * k + 2) refl (omega arith) l in
    let d = byte_at xs k 3 (4 * k + 3) refl (omega arith) l in
    rw (a, b, c, d) (sample-is (get_or xs k nan) (all-get k nan h l))
