-- The swap pass over a table that is its own inverse puts at each place k what stood at r k. Assumes nothing.
use mathlib.Core.Path.{◌≡◌, ◌∙◌, refl, ap, sym, subst}
use mathlib.Core.Bool.{Bool, true, false}
use mathlib.Core.List.{List}
use mathlib.Core.Logic.{◌≢◌, ◌⊎◌, ⊎_elim, inl, inr}
use Prim.Native.Nat.{ℕ, zero, suc, ◌+◌, ◌*◌, ◌<◌, ◌≤◌}
use native.Mathlib.Omega.{arith}
use native.Mathlib.Nat.{eq-or-lt_of_le}
use borrow.Author.Tests.{eqb-true, eqb-false, ltb-true, ltb-false}
use lib.Dec.{eqb, ltb}
use lib.ListN.{length}
use lib.Ieee.{Float}
use Rattle.complex.specs.Complexes.{get_c, put_c}
use Rattle.laws.specs.Loops.{iter}
use Rattle.laws.specs.Choice.{pick, pick-if}
use Rattle.complex_fft.specs.Reversal.{rev8, reversal_table}
use Rattle.complex_fft.specs.ComplexFft.{swap_at, swap_step, permuted}
use Rattle.complex.proofs.Stores.{length-put, pair-first, pair-second, pair-other}
use Rattle.complex_fft.proofs.Reversing.{at_entry}

same? : (a b : ℕ) → (a ≡ b) ⊎ (a ≢ b)
same? a b = by (eqb a b) refl
  where
    by : (t : Bool) → eqb a b ≡ t → (a ≡ b) ⊎ (a ≢ b)
    by true e = inl (eqb-true a b e)
    by false e = inr (eqb-false a b e)

-- m is l after the turns below n: a pair is swapped once its lower place is below n
record After (r : ℕ → ℕ) (l : List Float) (n : ℕ) (m : List Float) : Type 0 where
  long : length m ≡ 512
  done : (k : ℕ) → k < 256 → (k < n) ⊎ (r k < n) → get_c m k ≡ get_c l (r k)
  still : (k : ℕ) → k < 256 → n ≤ k → n ≤ r k → get_c m k ≡ get_c l k

module _ (r : ℕ → ℕ) (back : (k : ℕ) → k < 256 → r (r k) ≡ k) (small : (k : ℕ) → k < 256 → r k < 256) (l : List Float) (n : ℕ) (hn : n < 256) where
  -- r k is n only at k = r n
  only : (k : ℕ) → k < 256 → r k ≡ n → k ≡ r n
  only k hk e = sym (back k hk) ∙ ap r e

  swapped : (m : List Float) → After r l n m → n < r n → After r l (suc n) (swap_at m n (r n))
  unfolding swap_at
  swapped m a h =
      let j = r n in
      let hj = small n hn in
      let bj = back n hn in
      let two : j ≢ n = omega arith in
      let in₁ : 2 * n + 1 < length m = omega (arith, a.long) in
      let in₂ : 2 * j + 1 < length m = omega (arith, a.long) in
      let other : (k : ℕ) → k ≢ n → k ≢ j → get_c (put_c (put_c m n (get_c m j)) j (get_c m n)) k ≡ get_c m k = λ k p q. pair-other m n j k _ _ p q in
      record {
        long = length-put (put_c m n (get_c m j)) j (get_c m n) ∙ length-put m n (get_c m j) ∙ a.long;
        done = λ k hk d.
            ⊎_elim
            (λ (e : k ≡ n). rw e (pair-first m n j _ _ two in₁ in₂ ∙ a.still j hj (omega arith) (omega (arith, bj))))
            (λ (p : k ≢ n).
            ⊎_elim
            (λ (e : k ≡ j). rw (e, bj) (pair-second m n j _ _ two in₁ in₂ ∙ a.still n hn (omega arith) (omega arith)))
            (λ (q : k ≢ j).
            other k p q
            ∙ a.done k hk
            (⊎_elim (λ (u : k < suc n). inl (omega arith))
            (λ (u : r k < suc n). ⊎_elim (λ (e : r k ≡ n). absurd (q (only k hk e))) (λ (s : r k ≢ n). inr (omega arith)) (same? (r k) n))
            d))
            (same? k j))
            (same? k n);
        still = λ k hk u v.
            other k (omega arith) (λ (e : k ≡ j). let f : r k ≡ n = ap r e ∙ bj in omega arith) ∙ a.still k hk (omega arith) (omega arith);
      }

  kept : (m : List Float) → After r l n m → r n ≤ n → After r l (suc n) m
  kept m a h =
      let here : get_c m n ≡ get_c l (r n) =
      ⊎_elim (λ (e : r n ≡ n). rw e (a.still n hn (omega arith) (omega arith))) (λ (u : r n < n). a.done n hn (inr u)) (eq-or-lt_of_le h) in
      record {
        long = a.long;
        done = λ k hk d.
            ⊎_elim (λ (e : k ≡ n). rw e here)
            (λ (p : k ≢ n).
            a.done k hk
            (⊎_elim (λ (u : k < suc n). inl (omega arith))
            (λ (u : r k < suc n). ⊎_elim (λ (e : r k ≡ n). let f = only k hk e in inl (omega arith)) (λ (s : r k ≢ n). inr (omega arith)) (same? (r k) n))
            d))
            (same? k n);
        still = λ k hk u v. a.still k hk (omega arith) (omega arith);
      }

  turn : (m : List Float) → After r l n m → After r l (suc n) (pick (ltb n (r n)) (swap_at m n (r n)) m)
  turn m a = pick-if (After r l (suc n)) (ltb n (r n)) (λ e. swapped m a (ltb-true n (r n) e)) (λ e. kept m a (ltb-false n (r n) e))

small8 : (k : ℕ) → k < 256 → rev8 k < 256
small8 k h = let e = at_entry k h in subst (λ (x : ℕ). x < 256) e.is e.small

back8 : (k : ℕ) → k < 256 → rev8 (rev8 k) ≡ k
back8 k h = let e = at_entry k h in subst (λ (x : ℕ). rev8 x ≡ k) e.is e.back

-- a turn of the pass over the table swaps i and the reversed i, where that is the higher
pub each-swap : (i : ℕ) (l : List Float) → i < 256 → swap_step reversal_table i l ≡ pick (ltb i (rev8 i)) (swap_at l i (rev8 i)) l
unfolding swap_step
each-swap i l h = ap (λ (j : ℕ). pick (ltb i j) (swap_at l i j) l) (at_entry i h).is

turns : (l : List Float) → length l ≡ 512 → (n : ℕ) → n ≤ 256 → After rev8 l n (iter (swap_step reversal_table) l n)
unfolding iter
turns l e zero h = record { long = e; done = λ k hk d. absurd (⊎_elim (λ (u : k < 0). omega arith) (λ (u : rev8 k < 0). omega arith) d); still = λ k hk u v. refl }
turns l e (suc n) h =
    let m = iter (swap_step reversal_table) l n in
    subst (After rev8 l (suc n)) (sym (each-swap n m h)) (turn rev8 back8 small8 l n h m (turns l e n (omega arith)))

-- the swap pass puts at each place what stood at the reversed place
pub permuted-at : (l : List Float) → length l ≡ 512 → (k : ℕ) → k < 256 → get_c (permuted reversal_table l) k ≡ get_c l (rev8 k)
unfolding permuted
permuted-at l e k h = (turns l e 256 (omega arith)).done k h (inl h)
