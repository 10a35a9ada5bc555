-- The scratch of the self-sorting core, place by place, and its passes. A place p < 256 of the half at s is `get_s z (s + p)`, and the
-- halves start at 0 and 512. Assumes nothing.
use mathlib.Core.Path.{◌≡◌, ◌∙◌, refl, ap}
use mathlib.Core.List.{List}
use mathlib.Core.Logic.{◌≢◌, ⊎_elim}
use Prim.Native.Nat.{ℕ, zero, suc, ◌+◌, ◌*◌, ◌<◌, ◌≤◌}
use native.Mathlib.Nat.{add-zero}
use native.Mathlib.Omega.{arith}
use lib.ListN.{length, set, length-set}
use lib.Seq.{get_or-set_same, get_or-set_other}
use lib.Ieee.{Float, nan}
use Rattle.laws.specs.Loops.{iter}
use Rattle.complex.specs.declared.Complex.{Complex}
use Rattle.self_sorting.specs.declared.quads.Four.{Four}
use Rattle.self_sorting.specs.declared.quads.Turns.{Turns}
use Rattle.self_sorting.specs.Quads.{get_s, put_s, four_of, put_four, two_stages}
use Rattle.self_sorting.specs.Passes.{row_of}
use Rattle.complex_fft.proofs.Stages.{last}

-- a row of one quad
pub row_one : (w : Turns) (i o : ℕ) (z : List Float) → row_of w 1 i o z ≡ put_four z o (two_stages (four_of z i 1) w)
unfolding row_of iter
row_one w i o z = simp add-zero

pub length-put_s : (z : List Float) (i : ℕ) (v : Complex) → length (put_s z i v) ≡ length z
length-put_s z i v = simp length-set

pub get-put_s-same : (z : List Float) (i : ℕ) (v : Complex) → i + 256 < length z → get_s (put_s z i v) i ≡ v
get-put_s-same z i v h =
    let a = get_or-set_other (set z i v.re) (i + 256) i v.im nan (omega arith) in
    let b = get_or-set_same z i v.re nan (omega arith) in
    let d = get_or-set_same (set z i v.re) (i + 256) v.im nan (simp length-set (omega arith)) in
    rw (a, b, d)

-- a number whose parts are at other places
pub get-put_s-other : (z : List Float) (i j : ℕ) (v : Complex) → j ≢ i → j ≢ i + 256 → i ≢ j + 256 → get_s (put_s z i v) j ≡ get_s z j
get-put_s-other z i j v p q r =
    let a = get_or-set_other (set z i v.re) (i + 256) j v.im nan (omega arith) in
    let b = get_or-set_other z i j v.re nan (omega arith) in
    let d = get_or-set_other (set z i v.re) (i + 256) (j + 256) v.im nan (omega arith) in
    let e = get_or-set_other z i (j + 256) v.re nan (omega arith) in
    rw (a, b, d, e)

-- ---- four numbers at o, o + 64, o + 128 and o + 192

-- no part of the number at x is a part of one of them
pub record Clear (o x : ℕ) : Type 0 where
  pub a : (x ≢ o) × (x ≢ o + 256) × (o ≢ x + 256)
  pub b : (x ≢ o + 64) × (x ≢ o + 64 + 256) × (o + 64 ≢ x + 256)
  pub c : (x ≢ o + 128) × (x ≢ o + 128 + 256) × (o + 128 ≢ x + 256)
  pub d : (x ≢ o + 192) × (x ≢ o + 192 + 256) × (o + 192 ≢ x + 256)

-- two halves
pub data Apart (s d : ℕ) : Type 0 where
  ahead : s + 512 ≤ d → Apart s d
  behind : d + 512 ≤ s → Apart s d

pub clear-source : {s d : ℕ} (o x : ℕ) → Apart s d → s ≤ x → x < s + 256 → d ≤ o → o < d + 64 → Clear o x
clear-source o x (ahead h) p q r t = omega arith
clear-source o x (behind h) p q r t = omega arith

pub clear-same : (d o x : ℕ) → d ≤ x → x < d + 256 → d ≤ o → o < d + 64 → x ≢ o → x ≢ o + 64 → x ≢ o + 128 → x ≢ o + 192 → Clear o x
clear-same d o x p q r t e f g h = record {
  a = (e, omega arith, omega arith);
  b = (f, omega arith, omega arith);
  c = (g, omega arith, omega arith);
  d = (h, omega arith, omega arith);
}

module _ (z : List Float) (o : ℕ) (f : Four) where
  abbrev z₁ : List Float
  z₁ = put_s z o f.a

  abbrev z₂ : List Float
  z₂ = put_s z₁ (o + 64) f.b

  abbrev z₃ : List Float
  z₃ = put_s z₂ (o + 128) f.c

  pub length-put_four : length (put_four z o f) ≡ length z
  unfolding put_four
  length-put_four = simp length-set

  pub four-other : (x : ℕ) → Clear o x → get_s (put_four z o f) x ≡ get_s z x
  unfolding put_four
  four-other x k =
      get-put_s-other z₃ (o + 192) x f.d k.d.0 k.d.1 k.d.2
      ∙ get-put_s-other z₂ (o + 128) x f.c k.c.0 k.c.1 k.c.2
      ∙ get-put_s-other z₁ (o + 64) x f.b k.b.0 k.b.1 k.b.2
      ∙ get-put_s-other z o x f.a k.a.0 k.a.1 k.a.2

  module _ (h : o + 448 < length z) where
    pub four-a : get_s (put_four z o f) o ≡ f.a
    unfolding put_four
    four-a =
        get-put_s-other z₃ (o + 192) o f.d (omega arith) (omega arith) (omega arith)
        ∙ get-put_s-other z₂ (o + 128) o f.c (omega arith) (omega arith) (omega arith)
        ∙ get-put_s-other z₁ (o + 64) o f.b (omega arith) (omega arith) (omega arith)
        ∙ get-put_s-same z o f.a (omega arith)

    pub four-b : get_s (put_four z o f) (o + 64) ≡ f.b
    unfolding put_four
    four-b =
        get-put_s-other z₃ (o + 192) (o + 64) f.d (omega arith) (omega arith) (omega arith)
        ∙ get-put_s-other z₂ (o + 128) (o + 64) f.c (omega arith) (omega arith) (omega arith)
        ∙ get-put_s-same z₁ (o + 64) f.b (simp length-set (omega arith))

    pub four-c : get_s (put_four z o f) (o + 128) ≡ f.c
    unfolding put_four
    four-c =
        get-put_s-other z₃ (o + 192) (o + 128) f.d (omega arith) (omega arith) (omega arith)
        ∙ get-put_s-same z₂ (o + 128) f.c (simp length-set (omega arith))

    pub four-d : get_s (put_four z o f) (o + 192) ≡ f.d
    unfolding put_four
    four-d = get-put_s-same z₃ (o + 192) f.d (simp length-set (omega arith))

-- ---- a row

-- what the quad at i of l, n apart, becomes
abbrev pub quad : Turns → ℕ → ℕ → List Float → Four
quad w n i l = two_stages (four_of l i n) w

pub quad-eq : (w : Turns) (l m : List Float) (i n : ℕ) → get_s m i ≡ get_s l i → get_s m (i + n) ≡ get_s l (i + n)
    → get_s m (i + 2 * n) ≡ get_s l (i + 2 * n) → get_s m (i + 3 * n) ≡ get_s l (i + 3 * n) → quad w n i m ≡ quad w n i l
unfolding four_of
quad-eq w l m i n a b c d = rw (a, b, c, d)

-- m is l after k quads of the row
pub record InRow (w : Turns) (n i o : ℕ) (l : List Float) (k : ℕ) (m : List Float) : Type 0 where
  pub long : length m ≡ 1024
  pub a : (q : ℕ) → q < k → get_s m (o + q) ≡ (quad w n (i + q) l).a
  pub b : (q : ℕ) → q < k → get_s m (o + q + 64) ≡ (quad w n (i + q) l).b
  pub c : (q : ℕ) → q < k → get_s m (o + q + 128) ≡ (quad w n (i + q) l).c
  pub d : (q : ℕ) → q < k → get_s m (o + q + 192) ≡ (quad w n (i + q) l).d
  pub still : (x : ℕ) → ((q : ℕ) → q < k → Clear (o + q) x) → get_s m x ≡ get_s l x

module _ (w : Turns) (n i o s d : ℕ) (A : Apart s d) (low : s ≤ i) (high : i + 4 * n ≤ s + 256) (first : d ≤ o) (end : o + n ≤ d + 64) (fits : d + 512 ≤ 1024) (l : List Float) where
  row_turn : (k : ℕ) → k < n → (m : List Float) → InRow w n i o l k m → InRow w n i o l (suc k) (put_four m (o + k) (two_stages (four_of m (i + k) n) w))
  row_turn k h m r =
      let p = o + k in
      let room : p + 448 < length m = omega (arith, r.long) in
      let source : (x : ℕ) → s ≤ x → x < s + 256 → get_s m x ≡ get_s l x = λ x u v. r.still x (λ q t. clear-source (o + q) x A u v (omega arith) (omega arith)) in
      let f = two_stages (four_of m (i + k) n) w in
      let e : f ≡ quad w n (i + k) l =
      quad-eq w l m (i + k) n (source (i + k) (omega arith) (omega arith)) (source (i + k + n) (omega arith) (omega arith))
      (source (i + k + 2 * n) (omega arith) (omega arith)) (source (i + k + 3 * n) (omega arith) (omega arith)) in
      let keeps : (x : ℕ) → d ≤ x → x < d + 256 → x ≢ p → x ≢ p + 64 → x ≢ p + 128 → x ≢ p + 192 → get_s (put_four m p f) x ≡ get_s m x =
      λ x u v y₀ y₁ y₂ y₃. four-other m p f x (clear-same d p x u v (omega arith) (omega arith) y₀ y₁ y₂ y₃) in
      record {
        long = length-put_four m p f ∙ r.long;
        a = λ q t. ⊎_elim (λ (g : q ≡ k). rw g (four-a m p f room ∙ ap (λ (v : Four). v.a) e))
            (λ (g : q < k). keeps (o + q) (omega arith) (omega arith) (omega arith) (omega arith) (omega arith) (omega arith) ∙ r.a q g) (last t);
        b = λ q t. ⊎_elim (λ (g : q ≡ k). rw g (four-b m p f room ∙ ap (λ (v : Four). v.b) e))
            (λ (g : q < k). keeps (o + q + 64) (omega arith) (omega arith) (omega arith) (omega arith) (omega arith) (omega arith) ∙ r.b q g) (last t);
        c = λ q t. ⊎_elim (λ (g : q ≡ k). rw g (four-c m p f room ∙ ap (λ (v : Four). v.c) e))
            (λ (g : q < k). keeps (o + q + 128) (omega arith) (omega arith) (omega arith) (omega arith) (omega arith) (omega arith) ∙ r.c q g) (last t);
        d = λ q t. ⊎_elim (λ (g : q ≡ k). rw g (four-d m p f room ∙ ap (λ (v : Four). v.d) e))
            (λ (g : q < k). keeps (o + q + 192) (omega arith) (omega arith) (omega arith) (omega arith) (omega arith) (omega arith) ∙ r.d q g) (last t);
        still = λ x u. four-other m p f x (u k (omega arith)) ∙ r.still x (λ q t. u q (omega arith));
      }

  row_turns : length l ≡ 1024 → (k : ℕ) → k ≤ n → InRow w n i o l k (iter (λ q m. put_four m (o + q) (two_stages (four_of m (i + q) n) w)) l k)
  unfolding iter
  row_turns e zero h = record {
    long = e;
    a = λ q t. absurd (omega arith);
    b = λ q t. absurd (omega arith);
    c = λ q t. absurd (omega arith);
    d = λ q t. absurd (omega arith);
    still = λ x u. refl;
  }
  row_turns e (suc k) h = row_turn k h _ (row_turns e k (omega arith))

  pub in_row : length l ≡ 1024 → InRow w n i o l n (row_of w n i o l)
  unfolding row_of
  in_row e = row_turns e n (omega arith)
