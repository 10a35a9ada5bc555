-- Counting loops, over any element type: the project's one vocabulary for them. A contract cites `iter`, `over`, `over_at` or
-- `over2`, the loop's invariant the same at the loop's count, and each need of the proof one law. Readings has what each says in
-- the words of lists (map, replicate, foldl, take and drop).
--     iter step a n       n turns from a: turn k takes x to step k x
--     over n f d          the list d, its first n places changed: the x at k to f k x
--     over_at b n f d      the list d, the n places from b on changed: the x at b + k to f k x
--     over2 z n f g d     the list d of pairs, its first n changed: the x, y at 2k, 2k + 1 to f k x y, g k x y
-- Of each: -none at the loop's start, -more at a turn (`rw over-more .. (cc)`), -end after the loop (`search (needs, over-end)`).
-- Assumes nothing.
use Rattle.std.specs.Prelude.{◌≡◌, Float, length, get_or, set}
use Rattle.std.proofs.Math.Path.{refl, ap}
use Rattle.std.proofs.Common.{sym, ◌∙◌, not-suc-le-zero, le_of_suc-le-suc, le_antisymm, add-one, arith}
use mathlib.Core.List.{List, [], ◌∷◌}
use Prim.Native.Nat.{ℕ, zero, suc, ◌+◌, ◌*◌, ◌≤◌, ◌<◌}
use Rattle.std.proofs.Math.Nat.{suc-add, zero-add}
use Rattle.std.specs.Float.{nan}

double : (n : ℕ) → 2 * suc n ≡ suc (suc (2 * n))
double n = omega arith

module _ {A : Type 0} where
  -- ---- iter

  unfoldable pub iter : (ℕ → A → A) → A → ℕ → A
  iter step a zero = a
  iter step a (suc n) = step n (iter step a n)

  pub iter-none : (step : ℕ → A → A) (a : A) → a ≡ iter step a 0
  unfolding iter
  iter-none step a = refl

  iter-suc : (step : ℕ → A → A) (a : A) (n : ℕ) → iter step a (suc n) ≡ step n (iter step a n)
  unfolding iter
  iter-suc step a n = refl

  pub iter-more : (step : ℕ → A → A) (a : A) (n : ℕ) → iter step a (n + 1) ≡ step n (iter step a n)
  iter-more step a n = rw add-one (iter-suc step a n)

  pub iter-next : (step : ℕ → A → A) (a : A) (n : ℕ) {x y : A} → x ≡ iter step a n → y ≡ step n x → y ≡ iter step a (n + 1)
  iter-next step a n e h = h ∙ ap (step n) e ∙ sym (iter-more step a n)

  pub iter_end : (step : ℕ → A → A) (a : A) (i n : ℕ) {x : A} → x ≡ iter step a i → i ≤ n → n ≤ i → x ≡ iter step a n
  iter_end step a i n e l g = e ∙ ap (iter step a) (le_antisymm l g)

  -- ---- over

  unfoldable pub over : ℕ → (ℕ → A → A) → List A → List A
  over zero f d = d
  over (suc n) f [] = []
  over (suc n) f (x ∷ d) = f 0 x ∷ over n (λ k. f (suc k)) d

  pub over_none : (f : ℕ → A → A) (d : List A) → d ≡ over 0 f d
  unfolding over
  over_none f d = refl

  pub length_over : (n : ℕ) (f : ℕ → A → A) (d : List A) → length (over n f d) ≡ length d
  unfolding over
  length_over zero f d = refl
  length_over (suc n) f [] = refl
  length_over (suc n) f (x ∷ d) = ap suc (length_over n (λ k. f (suc k)) d)

  over-suc : (z : A) (n : ℕ) (f : ℕ → A → A) (d : List A) → over (suc n) f d ≡ set (over n f d) n (f n (get_or (over n f d) n z))
  unfolding over
  over-suc z zero f [] = refl
  over-suc z zero f (x ∷ d) = refl
  over-suc z (suc n) f [] = refl
  over-suc z (suc n) f (x ∷ d) = ap (λ (l : List A). f 0 x ∷ l) (over-suc z n (λ k. f (suc k)) d)

  pub over-more : (z : A) (n : ℕ) (f : ℕ → A → A) (d : List A) → over (n + 1) f d ≡ set (over n f d) n (f n (get_or (over n f d) n z))
  over-more z n f d = rw add-one (over-suc z n f d)

  pub over-next : (z : A) (f : ℕ → A → A) (d : List A) (n : ℕ) {x y : List A} → x ≡ over n f d → y ≡ set x n (f n (get_or x n z)) → y ≡ over (n + 1) f d
  over-next z f d n e h = h ∙ ap (λ (l : List A). set l n (f n (get_or l n z))) e ∙ sym (over-more z n f d)

  pub over-end : (f : ℕ → A → A) (d : List A) (i n : ℕ) {x : List A} → x ≡ over i f d → i ≤ n → n ≤ i → x ≡ over n f d
  over-end f d i n e l g = e ∙ ap (λ (k : ℕ). over k f d) (le_antisymm l g)

  over-past : (n : ℕ) (f : ℕ → A → A) (d : List A) → length d ≤ n → over n f d ≡ over (length d) f d
  unfolding over
  over-past zero f [] h = refl
  over-past (suc n) f [] h = refl
  over-past zero f (x ∷ d) h = absurd (not-suc-le-zero h)
  over-past (suc n) f (x ∷ d) h = ap (λ (l : List A). f 0 x ∷ l) (over-past n (λ k. f (suc k)) d (le_of_suc-le-suc h))

  -- a loop `while i < x.len()` over all of x
  pub over-whole : (f : ℕ → A → A) (d : List A) (i : ℕ) {x : List A} → x ≡ over i f d → length x ≤ i → x ≡ over (length d) f d
  over-whole f d i e l = e ∙ over-past i f d (rw length_over at (rw e at l))

  -- what lies ahead is as it was
  pub over-ahead : (z : A) (n k : ℕ) (f : ℕ → A → A) (d : List A) → n ≤ k → get_or (over n f d) k z ≡ get_or d k z
  unfolding over
  over-ahead z zero k f d h = refl
  over-ahead z (suc n) k f [] h = refl
  over-ahead z (suc n) zero f (x ∷ d) h = absurd (not-suc-le-zero h)
  over-ahead z (suc n) (suc k) f (x ∷ d) h = over-ahead z n k (λ j. f (suc j)) d (le_of_suc-le-suc h)

  pub over-later : (z : A) (m n : ℕ) (f : ℕ → A → A) (d : List A) → get_or (over n f d) (m + n) z ≡ get_or d (m + n) z
  over-later z m n f d = over-ahead z n (m + n) f d (omega arith)

  -- what was passed is the function's
  pub over-at : (z : A) (n k : ℕ) (f : ℕ → A → A) (d : List A) → k < n → k < length d → get_or (over n f d) k z ≡ f k (get_or d k z)
  unfolding over
  over-at z zero k f d h l = absurd (not-suc-le-zero h)
  over-at z (suc n) k f [] h l = absurd (not-suc-le-zero l)
  over-at z (suc n) zero f (x ∷ d) h l = refl
  over-at z (suc n) (suc k) f (x ∷ d) h l = over-at z n k (λ j. f (suc j)) d (le_of_suc-le-suc h) (le_of_suc-le-suc l)

  -- a loop that has passed all m places of a fresh array
  pub over-passed : (z : A) (n m : ℕ) (f : ℕ → A → A) (d : List A) {x : List A} → length d ≡ m → m ≤ n → x ≡ over n f d → (k : ℕ) → k < m → get_or x k z ≡ f k (get_or d k z)
  over-passed z n m f d a g e k l = ap (λ (y : List A). get_or y k z) e ∙ over-at z n k f d (omega arith) (omega arith)

  -- ---- over_at

  unfoldable pub over_at : ℕ → ℕ → (ℕ → A → A) → List A → List A
  unfolding over
  over_at zero n f d = over n f d
  over_at (suc b) n f [] = []
  over_at (suc b) n f (x ∷ d) = x ∷ over_at b n f d

  over_at-zero : (b : ℕ) (f : ℕ → A → A) (d : List A) → d ≡ over_at b 0 f d
  unfolding over_at
  over_at-zero zero f d = refl
  over_at-zero (suc b) f [] = refl
  over_at-zero (suc b) f (x ∷ d) = ap (λ (l : List A). x ∷ l) (over_at-zero b f d)

  pub over_at-none : (b : ℕ) (f : ℕ → A → A) (d : List A) → d ≡ over_at b 0 f d
  over_at-none b f d = over_at-zero b f d

  pub length-over_at : (b n : ℕ) (f : ℕ → A → A) (d : List A) → length (over_at b n f d) ≡ length d
  unfolding over_at
  length-over_at zero n f d = length_over n f d
  length-over_at (suc b) n f [] = refl
  length-over_at (suc b) n f (x ∷ d) = ap suc (length-over_at b n f d)

  pub over_at-more : (z : A) (b n : ℕ) (f : ℕ → A → A) (d : List A) → over_at b (n + 1) f d ≡ set (over_at b n f d) (b + n) (f n (get_or (over_at b n f d) (b + n) z))
  unfolding over_at
  over_at-more z zero n f d = rw zero-add (over-more z n f d)
  over_at-more z (suc b) n f [] = refl
  over_at-more z (suc b) n f (x ∷ d) = rw suc-add (ap (λ (l : List A). x ∷ l) (over_at-more z b n f d))

  pub over_at-next : (z : A) (b : ℕ) (f : ℕ → A → A) (d : List A) (n : ℕ) {x y : List A}
      → x ≡ over_at b n f d → y ≡ set x (b + n) (f n (get_or x (b + n) z)) → y ≡ over_at b (n + 1) f d
  over_at-next z b f d n e h = h ∙ ap (λ (l : List A). set l (b + n) (f n (get_or l (b + n) z))) e ∙ sym (over_at-more z b n f d)

  pub over_at-end : (b : ℕ) (f : ℕ → A → A) (d : List A) (i n : ℕ) {x : List A} → x ≡ over_at b i f d → i ≤ n → n ≤ i → x ≡ over_at b n f d
  over_at-end b f d i n e l g = e ∙ ap (λ (k : ℕ). over_at b k f d) (le_antisymm l g)

  -- what lies ahead is as it was
  pub over_at-ahead : (z : A) (b n k : ℕ) (f : ℕ → A → A) (d : List A) → n ≤ k → get_or (over_at b n f d) (b + k) z ≡ get_or d (b + k) z
  unfolding over_at
  over_at-ahead z zero n k f d h = rw zero-add (over-ahead z n k f d h)
  over_at-ahead z (suc b) n k f [] h = refl
  over_at-ahead z (suc b) n k f (x ∷ d) h = rw suc-add (over_at-ahead z b n k f d h)

  -- ---- over2

  -- (z stands for the y that the last x of an odd list lacks, so that no law asks for a length)
  unfoldable pub over2 : A → ℕ → (ℕ → A → A → A) → (ℕ → A → A → A) → List A → List A
  over2 z zero f g d = d
  over2 z (suc n) f g [] = []
  over2 z (suc n) f g (x ∷ []) = f 0 x z ∷ []
  over2 z (suc n) f g (x ∷ y ∷ d) = f 0 x y ∷ g 0 x y ∷ over2 z n (λ k. f (suc k)) (λ k. g (suc k)) d

  pub over2-none : (z : A) (f g : ℕ → A → A → A) (d : List A) → d ≡ over2 z 0 f g d
  unfolding over2
  over2-none z f g d = refl

  pub length-over2 : (z : A) (n : ℕ) (f g : ℕ → A → A → A) (d : List A) → length (over2 z n f g d) ≡ length d
  unfolding over2
  length-over2 z zero f g d = refl
  length-over2 z (suc n) f g [] = refl
  length-over2 z (suc n) f g (x ∷ []) = refl
  length-over2 z (suc n) f g (x ∷ y ∷ d) = ap (λ (k : ℕ). suc (suc k)) (length-over2 z n (λ k. f (suc k)) (λ k. g (suc k)) d)

  abbrev put2 : A → ℕ → (A → A → A) → (A → A → A) → List A → List A
  put2 z j f g l = set (set l j (f (get_or l j z) (get_or l (suc j) z))) (suc j) (g (get_or l j z) (get_or l (suc j) z))

  over2-suc : (z : A) (n : ℕ) (f g : ℕ → A → A → A) (d : List A) → over2 z (suc n) f g d ≡ put2 z (2 * n) (f n) (g n) (over2 z n f g d)
  unfolding over2
  over2-suc z zero f g [] = refl
  over2-suc z zero f g (x ∷ []) = refl
  over2-suc z zero f g (x ∷ y ∷ d) = refl
  over2-suc z (suc n) f g [] = refl
  over2-suc z (suc n) f g (x ∷ []) = rw double refl
  over2-suc z (suc n) f g (x ∷ y ∷ d) = rw double (ap (λ (l : List A). f 0 x y ∷ g 0 x y ∷ l) (over2-suc z n (λ k. f (suc k)) (λ k. g (suc k)) d))

  pub over2-more : (z : A) (n : ℕ) (f g : ℕ → A → A → A) (d : List A)
      → over2 z (n + 1) f g d
      ≡ set (set (over2 z n f g d) (2 * n) (f n (get_or (over2 z n f g d) (2 * n) z) (get_or (over2 z n f g d) (2 * n + 1) z))) (2 * n + 1)
      (g n (get_or (over2 z n f g d) (2 * n) z) (get_or (over2 z n f g d) (2 * n + 1) z))
  over2-more z n f g d = rw (add-one n, add-one (2 * n)) (over2-suc z n f g d)

  pub over2-next : (z : A) (f g : ℕ → A → A → A) (d : List A) (n : ℕ) {x y : List A}
      → x ≡ over2 z n f g d
      → y ≡ set (set x (2 * n) (f n (get_or x (2 * n) z) (get_or x (2 * n + 1) z))) (2 * n + 1) (g n (get_or x (2 * n) z) (get_or x (2 * n + 1) z))
      → y ≡ over2 z (n + 1) f g d
  over2-next z f g d n e h =
      h
      ∙ ap (λ (x : List A). set (set x (2 * n) (f n (get_or x (2 * n) z) (get_or x (2 * n + 1) z))) (2 * n + 1) (g n (get_or x (2 * n) z) (get_or x (2 * n + 1) z))) e
      ∙ sym (over2-more z n f g d)

  pub over2-end : (z : A) (f g : ℕ → A → A → A) (d : List A) (i n : ℕ) {x : List A} → x ≡ over2 z i f g d → i ≤ n → n ≤ i → x ≡ over2 z n f g d
  over2-end z f g d i n e l h = e ∙ ap (λ (k : ℕ). over2 z k f g d) (le_antisymm l h)

-- ---- at floats, whose default is nan: for `search`, to which a goal does not show z

pub over-turn : (f : ℕ → Float → Float) (d : List Float) (n : ℕ) {x y : List Float} → x ≡ over n f d → y ≡ set x n (f n (get_or x n nan)) → y ≡ over (n + 1) f d
over-turn f d n e h = over-next nan f d n e h

pub over_at-turn : (b : ℕ) (f : ℕ → Float → Float) (d : List Float) (n : ℕ) {x y : List Float}
    → x ≡ over_at b n f d → y ≡ set x (b + n) (f n (get_or x (b + n) nan)) → y ≡ over_at b (n + 1) f d
over_at-turn b f d n e h = over_at-next nan b f d n e h

-- what a loop's start, a turn and its end want: `search (needs, loops)`
pub ruleset loops = (
  iter-none,
  iter-next,
  iter_end,
  over_none,
  over-turn,
  over-end,
  over-whole,
  over_at-none,
  over_at-turn,
  over_at-end,
  over2-none,
  over2-next,
  over2-end,
)
