-- The four passes of the self-sorting core give what the eight stages in place give of the swapped points, at every input, for any table:
-- both hold the values of `Values` at the end, number j at place j. Assumes nothing.
use mathlib.Core.Path.{◌≡◌, ◌∙◌, refl, sym, ap}
use mathlib.Core.Bool.{Bool, true, false}
use mathlib.Core.List.{List}
use mathlib.Core.Logic.{◌⊎◌, ⊎_elim, inl, inr}
use Prim.Native.Nat.{ℕ, zero, suc, ◌+◌, ◌*◌, ◌/◌, ◌%◌, ◌^◌, ◌<◌, ◌≤◌}
use native.Mathlib.Nat.{zero-add}
use native.Mathlib.Omega.{arith}
use lib.Dec.{eqb, eqb→eq}
use lib.ListN.{length}
use lib.Seq.{ext_get_or}
use lib.Ieee.{Float, nan, binary64, of_bits}
use Rattle.laws.specs.Choice.{pick_yes, pick_no}
use Rattle.laws.specs.Loops.{iter}
use Rattle.laws.specs.Tables.{table2, length-table2, table2-at, at-below}
use Rattle.complex.specs.declared.Complex.{Complex}
use Rattle.complex.specs.Complexes.{get_c, put_c, scale_c}
use Rattle.complex_fft.specs.Reversal.{rev8, reversal_table}
use Rattle.complex_fft.specs.ComplexFft.{twiddle_of, permuted, stage_at, stages, scaled, run_of}
use Rattle.self_sorting.specs.Quads.{get_s, put_s}
use Rattle.self_sorting.specs.Passes.{points_of, small_of, loaded, passes}
use Rattle.complex.proofs.Stores.{length-put, get-put-same, get-put-other}
use Rattle.complex_fft.proofs.Permuted.{permuted-at}
use Rattle.complex_fft.proofs.Stages.{last}
use Rattle.self_sorting.proofs.Rows.{length-put_s, get-put_s-same, get-put_s-other, Apart}
use Rattle.complex_fft.proofs.Sizes.{permute-long, stages-long}
use Rattle.self_sorting.proofs.Values.{Values, after, InPlace, stage-holds, Held, pass-holds}

-- the low m bits of b in reverse order
rev : ℕ → ℕ → ℕ
rev zero b = 0
rev (suc m) b = rev m (b / 2) + 2 ^ m * (b % 2)

rev-even : (m b : ℕ) → rev (suc m) (2 * b) ≡ rev m b
unfolding rev
rev-even m b = let e : 2 * b / 2 ≡ b = omega arith in let f : 2 * b % 2 ≡ 0 = omega arith in rw (e, f) (omega arith)

rev-odd : (m b : ℕ) → rev (suc m) (2 * b + 1) ≡ rev m b + 2 ^ m
unfolding rev
rev-odd m b = let e : (2 * b + 1) / 2 ≡ b = omega arith in let f : (2 * b + 1) % 2 ≡ 1 = omega arith in rw (e, f) (omega arith)

rev-eight : (b : ℕ) → b < 256 → rev 8 b ≡ rev8 b
unfolding rev
rev-eight b h = eqb→eq (rev 8 b) (rev8 b) (at-below (λ i. eqb (rev 8 i) (rev8 i)) 256 b tt h)

-- ---- in place

abbrev start : List Float → Values
start l j r = get_c l r

-- after all eight stages, and number j of the one transform
abbrev ended : List Float → Bool → List Float → Values
ended t inverse l =
    let w = twiddle_of t inverse in
    after w 128 1 (after w 64 2 (after w 32 4 (after w 16 8 (after w 8 16 (after w 4 32 (after w 2 64 (after w 1 128 (start l))))))))

unfoldable final : List Float → Bool → List Float → ℕ → Complex
final t inverse l j = ended t inverse l j 0

module _ (t : List Float) (inverse : Bool) (l : List Float) (e : length l ≡ 512) where
  swapped : InPlace 1 256 (rev 8) (start l) (permuted reversal_table l)
  swapped = record {
    long = permute-long 512 reversal_table l e;
    holds = λ b j hb hj. let i : b * 1 + j ≡ b = omega arith in ap (get_c (permuted reversal_table l)) i ∙ permuted-at l e b hb ∙ ap (get_c l) (sym (rev-eight b hb));
  }

  eight : List Float → List Float
  eight m =
      stage_at t inverse 128 1 (stage_at t inverse 64 2 (stage_at t inverse 32 4 (stage_at t inverse 16 8
      (stage_at t inverse 8 16 (stage_at t inverse 4 32 (stage_at t inverse 2 64 (stage_at t inverse 1 128 m)))))))

  stages-eight : (m : List Float) → stages t inverse m ≡ eight m
  unfolding stages iter eight
  stages-eight m = refl

  -- one stage on: the blocks double, and their bits are one fewer
  on : (half stride m : ℕ) → half * stride ≡ 128 → stride ≡ 2 ^ m → (v : Values) (x : List Float) → InPlace half (2 * stride) (rev (suc m)) v x
      → InPlace (2 * half) stride (rev m) (after (twiddle_of t inverse) half stride v) (stage_at t inverse half stride x)
  on half stride m h k v x p =
      stage-holds t inverse half stride h (rev (suc m)) (rev m) (λ b _. rev-even m b) (λ b _. rw k (rev-odd m b)) v x p

  in_place : (j : ℕ) → j < 256 → get_c (stages t inverse (permuted reversal_table l)) j ≡ final t inverse l j
  unfolding final eight rev
  in_place j h =
      let p = on 128 1 0 refl refl _ _ (on 64 2 1 refl refl _ _ (on 32 4 2 refl refl _ _ (on 16 8 3 refl refl _ _
      (on 8 16 4 refl refl _ _ (on 4 32 5 refl refl _ _ (on 2 64 6 refl refl _ _ (on 1 128 7 refl refl _ _ swapped))))))) in
      rw (stages-eight (permuted reversal_table l)) (rw zero-add at (p.holds 0 j (omega arith) h))

-- ---- from one half of the scratch to the other

record Loading (l : List Float) (n : ℕ) (m : List Float) : Type 0 where
  long : length m ≡ 1024
  done : (i : ℕ) → i < n → get_s m i ≡ get_c l i

loading : (l z : List Float) → length z ≡ 1024 → (n : ℕ) → n ≤ 256 → Loading l n (iter (λ i m. put_s m i (get_c l i)) z n)
unfolding iter
loading l z e zero h = record { long = e; done = λ i u. absurd (omega arith) }
loading l z e (suc n) h =
    let a = loading l z e n (omega arith) in
    let m = iter (λ i m. put_s m i (get_c l i)) z n in
    record {
      long = length-put_s m n (get_c l n) ∙ a.long;
      done = λ i u.
          ⊎_elim (λ (g : i ≡ n). rw g (get-put_s-same m n (get_c l n) (omega (arith, a.long))))
          (λ (g : i < n). get-put_s-other m n i (get_c l n) (omega arith) (omega arith) (omega arith) ∙ a.done i g) (last u);
    }

module _ (t : List Float) (inverse : Bool) (l z : List Float) (e : length z ≡ 1024) where
  filled : Held 0 1 256 (start l) (loaded l z)
  unfolding loaded
  filled =
      let a = loading l z e 256 (omega arith) in
      record {
        long = a.long;
        holds = λ j r hj hr. let i : 256 * j + 0 + r ≡ r = omega arith in ap (get_s (loaded l z)) i ∙ a.done r hr;
      }

  four : Held 0 256 1 (ended t inverse l) (passes t inverse (loaded l z))
  unfolding passes
  four =
      let p₁ = pass-holds t inverse 1 64 0 512 refl (Apart.ahead (omega arith)) (omega arith) _ _ filled in
      let p₂ = pass-holds t inverse 4 16 512 0 refl (Apart.behind (omega arith)) (omega arith) _ _ p₁ in
      let p₃ = pass-holds t inverse 16 4 0 512 refl (Apart.ahead (omega arith)) (omega arith) _ _ p₂ in
      pass-holds t inverse 64 1 512 0 refl (Apart.behind (omega arith)) (omega arith) _ _ p₃

  pub passes-long : length (passes t inverse (loaded l z)) ≡ 1024
  passes-long = four.long

  sorted : (j : ℕ) → j < 256 → get_s (passes t inverse (loaded l z)) j ≡ final t inverse l j
  unfolding final
  sorted j h = let i : 1 * j + 0 + 0 ≡ j = omega arith in ap (get_s (passes t inverse (loaded l z))) (sym i) ∙ four.holds j 0 h (omega arith)

-- ---- the two lists

pub parity : (k : ℕ) → (m : ℕ) × ((k ≡ 2 * m) ⊎ (k ≡ 2 * m + 1))
parity zero = (0, inl refl)
parity (suc k) = go (parity k)
  where
    go : (m : ℕ) × ((k ≡ 2 * m) ⊎ (k ≡ 2 * m + 1)) → (m : ℕ) × ((suc k ≡ 2 * m) ⊎ (suc k ≡ 2 * m + 1))
    go p = ⊎_elim (λ (e : k ≡ 2 * p.0). (p.0, inr (omega arith))) (λ (e : k ≡ 2 * p.0 + 1). (suc p.0, inl (omega arith))) p.1

-- 256 points, number by number
same_points : (a b : List Float) → length a ≡ 512 → length b ≡ 512 → ((i : ℕ) → i < 256 → get_c a i ≡ get_c b i) → a ≡ b
same_points a b p q h =
    ext_get_or nan a b (p ∙ sym q) (λ k u.
    let c = parity k in
    ⊎_elim
    (λ (e : k ≡ 2 * c.0). rw e (ap (λ (x : Complex). x.re) (h c.0 (omega arith))))
    (λ (e : k ≡ 2 * c.0 + 1). rw e (ap (λ (x : Complex). x.im) (h c.0 (omega arith))))
    c.1)

-- ---- the inverse's 1/256

abbrev tiny : Float
tiny = of_bits binary64 0x3f70_0000_0000_0000

record Scaling (l : List Float) (n : ℕ) (m : List Float) : Type 0 where
  long : length m ≡ 512
  done : (i : ℕ) → i < n → get_c m i ≡ scale_c (get_c l i) tiny
  still : (i : ℕ) → n ≤ i → get_c m i ≡ get_c l i

scaling : (l : List Float) → length l ≡ 512 → (n : ℕ) → n ≤ 256 → Scaling l n (iter (λ i m. put_c m i (scale_c (get_c m i) tiny)) l n)
unfolding iter
scaling l e zero h = record { long = e; done = λ i u. absurd (omega arith); still = λ i u. refl }
scaling l e (suc n) h =
    let a = scaling l e n (omega arith) in
    let m = iter (λ i m. put_c m i (scale_c (get_c m i) tiny)) l n in
    let c = scale_c (get_c m n) tiny in
    record {
      long = length-put m n c ∙ a.long;
      done = λ i u.
          ⊎_elim (λ (g : i ≡ n). rw g (get-put-same m n c (omega (arith, a.long)) ∙ ap (λ (x : Complex). scale_c x tiny) (a.still n (omega arith))))
          (λ (g : i < n). get-put-other m n i c (omega arith) ∙ a.done i g) (last u);
      still = λ i u. get-put-other m n i c (omega arith) ∙ a.still i (omega arith);
    }

module _ (t : List Float) (inverse : Bool) (l z : List Float) (e : length l ≡ 512) (f : length z ≡ 1024) where
  abbrev there : List Float
  there = passes t inverse (loaded l z)

  abbrev here : List Float
  here = stages t inverse (permuted reversal_table l)

  long-here : length here ≡ 512
  long-here = stages-long 512 t inverse (permuted reversal_table l) (permute-long 512 reversal_table l e)

  each : (i : ℕ) → i < 256 → get_s there i ≡ get_c here i
  each i h = sorted t inverse l z f i h ∙ sym (in_place t inverse l e i h)

  self-sorted : points_of there ≡ here
  unfolding points_of
  self-sorted =
      same_points _ _ (length-table2 256 _ _) long-here (λ i h.
      let x = table2-at 256 (λ i. (get_s there i).re) (λ i. (get_s there i).im) i nan h in
      let g : get_c (table2 256 (λ i. (get_s there i).re) (λ i. (get_s there i).im)) i ≡ get_s there i = rw (x.0, x.1) in
      g ∙ each i h)

  self-sorted-scaled : table2 256 (λ i. (small_of there i).re) (λ i. (small_of there i).im) ≡ scaled here
  unfolding scaled
  self-sorted-scaled =
      let s = scaling here long-here 256 (omega arith) in
      same_points _ _ (length-table2 256 _ _) s.long (λ i h.
      let x = table2-at 256 (λ i. (small_of there i).re) (λ i. (small_of there i).im) i nan h in
      let g : get_c (table2 256 (λ i. (small_of there i).re) (λ i. (small_of there i).im)) i ≡ small_of there i = rw (x.0, x.1) in
      g ∙ ap (λ (y : Complex). scale_c y tiny) (each i h) ∙ sym (s.done i h))

-- ---- `run` with the reversal table
pub forward-run : (t l z : List Float) → length l ≡ 512 → length z ≡ 1024 → points_of (passes t false (loaded l z)) ≡ run_of t reversal_table false l
unfolding run_of
forward-run t l z e f = pick_no _ _ _ refl (self-sorted t false l z e f)

pub inverse-run : (t l z : List Float) → length l ≡ 512 → length z ≡ 1024
    → table2 256 (λ i. (small_of (passes t true (loaded l z)) i).re) (λ i. (small_of (passes t true (loaded l z)) i).im) ≡ run_of t reversal_table true l
unfolding run_of
inverse-run t l z e f = pick_yes _ _ _ refl (self-sorted-scaled t true l z e f)
