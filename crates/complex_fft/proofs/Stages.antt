-- A stage at any span, place by place: number i of a block's upper half becomes u + w v and the one half further on u - w v, where u and v are
-- what stood there before the stage. Assumes nothing.
use mathlib.Core.Path.{◌≡◌, ◌∙◌, refl}
use mathlib.Core.Bool.{Bool}
use mathlib.Core.List.{List}
use mathlib.Core.Logic.{◌≢◌, ◌⊎◌, ⊎_elim}
use Prim.Native.Nat.{ℕ, zero, suc, ◌+◌, ◌*◌, ◌<◌, ◌≤◌}
use native.Mathlib.Omega.{arith}
use native.Mathlib.Nat.{eq-or-lt_of_le, le_of_suc-le-suc, mul-le-mul_right, suc-mul}
use lib.ListN.{length}
use lib.Ieee.{Float}
use Rattle.complex.specs.declared.Complex.{Complex}
use Rattle.complex.specs.Complexes.{get_c, add_c, sub_c, mul_c}
use Rattle.laws.specs.Loops.{iter}
use Rattle.complex_fft.specs.ComplexFft.{butterfly_at, twiddle_of, block_at, stage_at}
use Rattle.complex_fft.proofs.Spans.{room}
use Rattle.complex_fft.proofs.Places.{length-butterfly, butterfly-upper, butterfly-lower, butterfly-other}

-- the two numbers of the butterfly at i over l
abbrev pub upper : List Float → ℕ → ℕ → Complex → Complex
upper l i half w = add_c (get_c l i) (mul_c w (get_c l (i + half)))

abbrev pub lower : List Float → ℕ → ℕ → Complex → Complex
lower l i half w = sub_c (get_c l i) (mul_c w (get_c l (i + half)))

upper-eq : {u u' v v' : Complex} (w : Complex) → u ≡ u' → v ≡ v' → add_c u (mul_c w v) ≡ add_c u' (mul_c w v')
upper-eq w p q = rw (p, q)

lower-eq : {u u' v v' : Complex} (w : Complex) → u ≡ u' → v ≡ v' → sub_c u (mul_c w v) ≡ sub_c u' (mul_c w v')
lower-eq w p q = rw (p, q)

-- below suc n: n, or below n
pub last : {j n : ℕ} → j < suc n → (j ≡ n) ⊎ (j < n)
last h = eq-or-lt_of_le (le_of_suc-le-suc h)

-- m is l after n butterflies of the block at base, with twiddle w j at the j-th
record InBlock (w : ℕ → Complex) (half base : ℕ) (l : List Float) (n : ℕ) (m : List Float) : Type 0 where
  long : length m ≡ 512
  up : (j : ℕ) → j < n → get_c m (base + j) ≡ upper l (base + j) half (w j)
  low : (j : ℕ) → j < n → get_c m (base + j + half) ≡ lower l (base + j) half (w j)
  still : (k : ℕ) → ((j : ℕ) → j < n → (k ≢ base + j) × (k ≢ base + j + half)) → get_c m k ≡ get_c l k

module _ (w : ℕ → Complex) (half base : ℕ) (fits : base + 2 * half ≤ 256) (l : List Float) where
  block_turn : (n : ℕ) → n < half → (m : List Float) → InBlock w half base l n m → InBlock w half base l (suc n) (butterfly_at (w n) (base + n) half m)
  block_turn n h m a =
      let i = base + n in
      let inside : 2 * (i + half) + 1 < length m = omega (arith, a.long) in
      let u : get_c m i ≡ get_c l i = a.still i (λ j p. (omega arith, omega arith)) in
      let v : get_c m (i + half) ≡ get_c l (i + half) = a.still (i + half) (λ j p. (omega arith, omega arith)) in
      record {
        long = length-butterfly m i half (w n) ∙ a.long;
        up = λ j p.
            ⊎_elim (λ (e : j ≡ n). rw e (butterfly-upper m i half (w n) (omega arith) inside ∙ upper-eq (w n) u v))
            (λ (q : j < n). butterfly-other m i half (base + j) (w n) (omega arith) (omega arith) ∙ a.up j q) (last p);
        low = λ j p.
            ⊎_elim (λ (e : j ≡ n). rw e (butterfly-lower m i half (w n) (omega arith) inside ∙ lower-eq (w n) u v))
            (λ (q : j < n). butterfly-other m i half (base + j + half) (w n) (omega arith) (omega arith) ∙ a.low j q) (last p);
        still = λ k o. butterfly-other m i half k (w n) (o n (omega arith)).0 (o n (omega arith)).1 ∙ a.still k (λ j q. o j (omega arith));
      }

block_turns : (t : List Float) (inverse : Bool) (half stride base : ℕ) → base + 2 * half ≤ 256 → (l : List Float) → length l ≡ 512
    → (n : ℕ) → n ≤ half → InBlock (λ j. twiddle_of t inverse (j * stride)) half base l n (iter (λ j m. butterfly_at (twiddle_of t inverse (j * stride)) (base + j) half m) l n)
unfolding iter
block_turns t inverse half stride base f l e zero h =
    record { long = e; up = λ j p. absurd (omega arith); low = λ j p. absurd (omega arith); still = λ k o. refl }
block_turns t inverse half stride base f l e (suc n) h =
    block_turn (λ j. twiddle_of t inverse (j * stride)) half base f l n (omega arith) _ (block_turns t inverse half stride base f l e n (omega arith))

-- m is l after n blocks of the stage
record InStage (w : ℕ → Complex) (half : ℕ) (l : List Float) (n : ℕ) (m : List Float) : Type 0 where
  long : length m ≡ 512
  up : (b j : ℕ) → b < n → j < half → get_c m (b * (2 * half) + j) ≡ upper l (b * (2 * half) + j) half (w j)
  low : (b j : ℕ) → b < n → j < half → get_c m (b * (2 * half) + j + half) ≡ lower l (b * (2 * half) + j) half (w j)
  still : (k : ℕ) → n * (2 * half) ≤ k → get_c m k ≡ get_c l k

-- a block that comes before another ends before it
ahead : (b n half : ℕ) → b < n → b * (2 * half) + 2 * half ≤ n * (2 * half)
ahead b n half h = omega (arith, mul-le-mul_right (2 * half) h, suc-mul b (2 * half))

stage_turn : (w : ℕ → Complex) (half n : ℕ) (l m x : List Float) → n * (2 * half) + 2 * half ≤ 256 → InStage w half l n m
    → InBlock w half (n * (2 * half)) m half x → InStage w half l (suc n) x
stage_turn w half n l m x f a c =
    let base = n * (2 * half) in
    let fresh : (k : ℕ) → base ≤ k → get_c m k ≡ get_c l k = a.still in
    let apart : (k : ℕ) → k < base → get_c x k ≡ get_c m k = λ k h. c.still k (λ j p. (omega arith, omega arith)) in
    record {
      long = c.long;
      up = λ b j p q.
          ⊎_elim (λ (e : b ≡ n). rw e (c.up j q ∙ upper-eq (w j) (fresh (base + j) (omega arith)) (fresh (base + j + half) (omega arith))))
          (λ (r : b < n). apart (b * (2 * half) + j) (omega (arith, ahead b n half r)) ∙ a.up b j r q) (last p);
      low = λ b j p q.
          ⊎_elim (λ (e : b ≡ n). rw e (c.low j q ∙ lower-eq (w j) (fresh (base + j) (omega arith)) (fresh (base + j + half) (omega arith))))
          (λ (r : b < n). apart (b * (2 * half) + j + half) (omega (arith, ahead b n half r)) ∙ a.low b j r q) (last p);
      still = λ k h. c.still k (λ j p. (omega (arith, suc-mul n (2 * half)), omega (arith, suc-mul n (2 * half)))) ∙ a.still k (omega (arith, suc-mul n (2 * half)));
    }

module _ (t : List Float) (inverse : Bool) (half stride : ℕ) (whole : half * stride ≡ 128) (l : List Float) (e : length l ≡ 512) where
  stage_turns : (n : ℕ) → n ≤ stride → InStage (λ j. twiddle_of t inverse (j * stride)) half l n (iter (λ b m. block_at t inverse half stride (b * (2 * half)) m) l n)
  unfolding iter block_at
  stage_turns zero h =
      record { long = e; up = λ b j p q. absurd (omega arith); low = λ b j p q. absurd (omega arith); still = λ k o. refl }
  stage_turns (suc n) h =
      let a = stage_turns n (omega arith) in
      let f = room n half stride (omega arith) whole in
      stage_turn _ half n l _ _ f a (block_turns t inverse half stride (n * (2 * half)) f _ a.long half (omega arith))

  -- the stage, place by place
  pub stage-upper : (b j : ℕ) → b < stride → j < half
      → get_c (stage_at t inverse half stride l) (b * (2 * half) + j) ≡ upper l (b * (2 * half) + j) half (twiddle_of t inverse (j * stride))
  unfolding stage_at
  stage-upper b j p q = (stage_turns stride (omega arith)).up b j p q

  pub stage-lower : (b j : ℕ) → b < stride → j < half
      → get_c (stage_at t inverse half stride l) (b * (2 * half) + j + half) ≡ lower l (b * (2 * half) + j) half (twiddle_of t inverse (j * stride))
  unfolding stage_at
  stage-lower b j p q = (stage_turns stride (omega arith)).low b j p q
