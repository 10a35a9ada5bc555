-- A constant table and its rule: one test that antt computes over the whole table, and the law that turns it into the rule at
-- each entry. Assumes nothing.
--     table n f            f 0, f 1, .. up to n entries; table2 n f g the same by pairs, f 0, g 0, f 1, g 1, ..
--     table_at, table2-at  what a table holds at k
--     table-split          m entries, and then n more
--     is-table, is-table2  a list that passes the test entry by entry IS the table of f, or of f and g
--     entry_at             a rule of place and entry, at each entry of a list that passes it
--     at-below             a rule of the numbers below n
use Rattle.std.specs.Prelude.{◌≡◌, Bool, true, false, ◌&&◌, T, length, get_or}
use Rattle.std.proofs.Math.Path.{refl, sym, ap}
use Rattle.std.proofs.Common.{◌∙◌, subst, add-zero, zero-add, add-suc, suc-add, le_of_suc-le-suc, not-suc-le-zero, arith}
use mathlib.Core.List.{List, [], ◌∷◌, ◌++◌}
use Prim.Native.Nat.{ℕ, zero, suc, ◌+◌, ◌*◌, ◌<◌}

pub and_l : (a b : Bool) → T (a && b) → T a
and_l true b h = tt
and_l false b h = h

pub and_r : (a b : Bool) → T (a && b) → T b
and_r true b h = h
and_r false b h = absurd h

-- the place i + k, counted on from i
onward : (i k : ℕ) → suc i + k ≡ i + suc k
onward i k = suc-add i k ∙ sym (add-suc i k)

double : (n : ℕ) → 2 * suc n ≡ suc (suc (2 * n))
double n = omega arith

double-one : (n : ℕ) → suc (suc (2 * n)) + 1 ≡ suc (suc (2 * n + 1))
double-one n = omega arith

module _ {A : Type 0} where
  unfoldable pub table : ℕ → (ℕ → A) → List A
  table zero f = []
  table (suc n) f = f 0 ∷ table n (λ k. f (suc k))

  unfoldable pub table2 : ℕ → (ℕ → A) → (ℕ → A) → List A
  table2 zero f g = []
  table2 (suc n) f g = f 0 ∷ g 0 ∷ table2 n (λ k. f (suc k)) (λ k. g (suc k))

  pub length-table : (n : ℕ) (f : ℕ → A) → length (table n f) ≡ n
  unfolding table
  length-table zero f = refl
  length-table (suc n) f = ap suc (length-table n (λ k. f (suc k)))

  pub length-table2 : (n : ℕ) (f g : ℕ → A) → length (table2 n f g) ≡ 2 * n
  unfolding table2
  length-table2 zero f g = refl
  length-table2 (suc n) f g = ap (λ (k : ℕ). suc (suc k)) (length-table2 n (λ k. f (suc k)) (λ k. g (suc k))) ∙ sym (double n)

  pub table_at : (n : ℕ) (f : ℕ → A) (k : ℕ) (d : A) → k < n → get_or (table n f) k d ≡ f k
  unfolding table
  table_at zero f k d h = absurd (not-suc-le-zero h)
  table_at (suc n) f zero d h = refl
  table_at (suc n) f (suc k) d h = table_at n (λ j. f (suc j)) k d (le_of_suc-le-suc h)

  -- of pairs: what stands at 2k and at 2k + 1
  pub table2-at : (n : ℕ) (f g : ℕ → A) (k : ℕ) (d : A) → k < n → (get_or (table2 n f g) (2 * k) d ≡ f k) × (get_or (table2 n f g) (2 * k + 1) d ≡ g k)
  unfolding table2
  table2-at zero f g k d h = absurd (not-suc-le-zero h)
  table2-at (suc n) f g zero d h = (refl, refl)
  table2-at (suc n) f g (suc k) d h = rw (double, double-one) (table2-at n (λ j. f (suc j)) (λ j. g (suc j)) k d (le_of_suc-le-suc h))

  -- two rules that agree below n give the same table
  pub table-cong : (n : ℕ) (f g : ℕ → A) → ((k : ℕ) → k < n → f k ≡ g k) → table n f ≡ table n g
  unfolding table
  table-cong zero f g h = refl
  table-cong (suc n) f g h =
      ap (λ (x : A). x ∷ table n (λ k. f (suc k))) (h 0 (omega arith))
      ∙ ap (λ (l : List A). g 0 ∷ l) (table-cong n (λ k. f (suc k)) (λ k. g (suc k)) (λ k l. h (suc k) (omega arith)))

  pub table-split : (m n : ℕ) (f : ℕ → A) → table (m + n) f ≡ table m f ++ table n (λ k. f (m + k))
  unfolding table
  table-split zero n f = ap (λ (k : ℕ). table k f) (zero-add n) ∙ table-cong n f (λ k. f (0 + k)) (λ k l. ap f (sym (zero-add k)))
  table-split (suc m) n f =
      ap (λ (k : ℕ). table k f) (suc-add m n)
      ∙ ap (λ (l : List A). f 0 ∷ l)
      (table-split m n (λ k. f (suc k))
      ∙ ap (λ (l : List A). table m (λ k. f (suc k)) ++ l) (table-cong n (λ k. f (suc (m + k))) (λ k. f (suc m + k)) (λ k l. ap f (sym (suc-add m k)))))

  pub table2-cong : (n : ℕ) (f f' g g' : ℕ → A) → ((k : ℕ) → k < n → f k ≡ f' k) → ((k : ℕ) → k < n → g k ≡ g' k) → table2 n f g ≡ table2 n f' g'
  unfolding table2
  table2-cong zero f f' g g' h h' = refl
  table2-cong (suc n) f f' g g' h h' =
      let a : f 0 ≡ f' 0 = h 0 (omega arith) in
      let b : g 0 ≡ g' 0 = h' 0 (omega arith) in
      let r : table2 n (λ k. f (suc k)) (λ k. g (suc k)) ≡ table2 n (λ k. f' (suc k)) (λ k. g' (suc k)) =
      table2-cong n (λ k. f (suc k)) (λ k. f' (suc k)) (λ k. g (suc k)) (λ k. g' (suc k)) (λ k l. h (suc k) (omega arith)) (λ k l. h' (suc k) (omega arith)) in
      cc

  module _ (alike : A → A → Bool) (sound : (x y : A) → T (alike x y) → x ≡ y) where
    -- the entry at each place, counted from i, is what f gives
    abbrev pub agrees : (ℕ → A) → ℕ → List A → Bool
    agrees f i [] = true
    agrees f i (x ∷ xs) = alike x (f i) && agrees f (suc i) xs

    from-table : (f : ℕ → A) (i : ℕ) (xs : List A) → T (agrees f i xs) → xs ≡ table (length xs) (λ k. f (i + k))
    unfolding table
    from-table f i [] t = refl
    from-table f i (x ∷ xs) t =
        let h : x ≡ f (i + 0) = sound x (f i) (and_l (alike x (f i)) (agrees f (suc i) xs) t) ∙ ap f (sym (add-zero i)) in
        let r : xs ≡ table (length xs) (λ k. f (i + suc k)) =
        from-table f (suc i) xs (and_r (alike x (f i)) (agrees f (suc i) xs) t)
        ∙ table-cong (length xs) (λ k. f (suc i + k)) (λ k. f (i + suc k)) (λ k l. ap f (onward i k)) in
        cc

    pub is-table : (f : ℕ → A) (xs : List A) → T (agrees f 0 xs) → xs ≡ table (length xs) f
    is-table f xs t = from-table f 0 xs t ∙ table-cong (length xs) (λ k. f (0 + k)) f (λ k l. ap f (zero-add k))

    -- the same of pairs
    abbrev pub agrees2 : (ℕ → A) → (ℕ → A) → ℕ → List A → Bool
    agrees2 f g i [] = true
    agrees2 f g i (x ∷ []) = false
    agrees2 f g i (x ∷ y ∷ xs) = alike x (f i) && (alike y (g i) && agrees2 f g (suc i) xs)

    from-table2 : (f g : ℕ → A) (i n : ℕ) (xs : List A) → length xs ≡ 2 * n → T (agrees2 f g i xs) → xs ≡ table2 n (λ k. f (i + k)) (λ k. g (i + k))
    unfolding table2
    from-table2 f g i zero [] e t = refl
    from-table2 f g i zero (x ∷ xs) e t = absurd (omega arith)
    from-table2 f g i (suc n) [] e t = absurd (omega arith)
    from-table2 f g i (suc n) (x ∷ []) e t = absurd t
    from-table2 f g i (suc n) (x ∷ y ∷ xs) e t =
        let u = and_r (alike x (f i)) (alike y (g i) && agrees2 f g (suc i) xs) t in
        let h : x ≡ f (i + 0) = sound x (f i) (and_l (alike x (f i)) (alike y (g i) && agrees2 f g (suc i) xs) t) ∙ ap f (sym (add-zero i)) in
        let k : y ≡ g (i + 0) = sound y (g i) (and_l (alike y (g i)) (agrees2 f g (suc i) xs) u) ∙ ap g (sym (add-zero i)) in
        let r : xs ≡ table2 n (λ k. f (i + suc k)) (λ k. g (i + suc k)) =
        from-table2 f g (suc i) n xs (omega arith) (and_r (alike y (g i)) (agrees2 f g (suc i) xs) u)
        ∙ table2-cong n (λ k. f (suc i + k)) (λ k. f (i + suc k)) (λ k. g (suc i + k)) (λ k. g (i + suc k)) (λ k l. ap f (onward i k)) (λ k l. ap g (onward i k)) in
        cc

    pub is-table2 : (f g : ℕ → A) (n : ℕ) (xs : List A) → length xs ≡ 2 * n → T (agrees2 f g 0 xs) → xs ≡ table2 n f g
    is-table2 f g n xs e t =
        from-table2 f g 0 n xs e t ∙ table2-cong n (λ k. f (0 + k)) f (λ k. g (0 + k)) g (λ k l. ap f (zero-add k)) (λ k l. ap g (zero-add k))

  -- a test of each place, counted from i, and its entry
  abbrev pub passes_at : (ℕ → A → Bool) → ℕ → List A → Bool
  passes_at t i [] = true
  passes_at t i (x ∷ xs) = t i x && passes_at t (suc i) xs

  from-entry : (t : ℕ → A → Bool) (xs : List A) (i k : ℕ) (d : A) → T (passes_at t i xs) → k < length xs → T (t (i + k) (get_or xs k d))
  from-entry t [] i k d h l = absurd (not-suc-le-zero l)
  from-entry t (x ∷ xs) i zero d h l = subst (λ (m : ℕ). T (t m x)) (sym (add-zero i)) (and_l (t i x) (passes_at t (suc i) xs) h)
  from-entry t (x ∷ xs) i (suc k) d h l =
      subst (λ (m : ℕ). T (t m (get_or xs k d))) (onward i k) (from-entry t xs (suc i) k d (and_r (t i x) (passes_at t (suc i) xs) h) (le_of_suc-le-suc l))

  pub entry_at : (t : ℕ → A → Bool) (xs : List A) (k : ℕ) (d : A) → T (passes_at t 0 xs) → k < length xs → T (t k (get_or xs k d))
  entry_at t xs k d h l = subst (λ (m : ℕ). T (t m (get_or xs k d))) (zero-add k) (from-entry t xs 0 k d h l)

-- a test of the n numbers from i on
abbrev pub passes_from : (ℕ → Bool) → ℕ → ℕ → Bool
passes_from t i zero = true
passes_from t i (suc n) = t i && passes_from t (suc i) n

from-below : (t : ℕ → Bool) (i n k : ℕ) → T (passes_from t i n) → k < n → T (t (i + k))
from-below t i zero k h l = absurd (not-suc-le-zero l)
from-below t i (suc n) zero h l = rw add-zero (and_l (t i) (passes_from t (suc i) n) h)
from-below t i (suc n) (suc k) h l =
    subst (λ (m : ℕ). T (t m)) (onward i k) (from-below t (suc i) n k (and_r (t i) (passes_from t (suc i) n) h) (le_of_suc-le-suc l))

pub at-below : (t : ℕ → Bool) (n k : ℕ) → T (passes_from t 0 n) → k < n → T (t k)
at-below t n k h l = subst (λ (m : ℕ). T (t m)) (zero-add k) (from-below t 0 n k h l)
