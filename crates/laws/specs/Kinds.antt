-- Lists all of a kind: what each operation on lists keeps. For any kind, and any type of element. Assumes nothing.
use Rattle.std.specs.Prelude.{◌≡◌, refl, Bool, true, ◌&&◌, T, length, get_or, set, take, drop, replicate}
use Rattle.std.proofs.Common.{ap, ◌∙◌, not-suc-le-zero, le_of_suc-le-suc, le_refl}
use mathlib.Core.List.{List, [], ◌∷◌, ◌++◌, map}
use Prim.Native.Nat.{ℕ, zero, suc, ◌+◌, ◌*◌, ◌<◌}
use native.Mathlib.Omega.{arith}
use Rattle.laws.specs.Loops.{iter, over, over2}
use Rattle.laws.specs.Parts.{part, with_part}
use Rattle.laws.specs.Tables.{table, table2, and_l, and_r}

abbrev pub Each : {A : Type 0} → (A → Type 0) → List A → Type 0
Each P [] = T true
Each P (x ∷ l) = P x × Each P l

pub record All {A : Type 0} (P : A → Type 0) (l : List A) : Type 0 where
  pub each : Each P l

-- n of them
pub record Kept {A : Type 0} (P : A → Type 0) (n : ℕ) (l : List A) : Type 0 where
  pub long : length l ≡ n
  pub all : All P l

module _ {A : Type 0} (P : A → Type 0) where
  get : (l : List A) (i : ℕ) (d : A) → Each P l → i < length l → P (get_or l i d)
  get [] i d h k = absurd (not-suc-le-zero k)
  get (x ∷ l) zero d h k = h.0
  get (x ∷ l) (suc i) d h k = get l i d h.1 (le_of_suc-le-suc k)

  get-or : (l : List A) (i : ℕ) (d : A) → Each P l → P d → P (get_or l i d)
  get-or [] i d h k = k
  get-or (x ∷ l) zero d h k = h.0
  get-or (x ∷ l) (suc i) d h k = get-or l i d h.1 k

  put : (l : List A) (i : ℕ) (a : A) → Each P l → P a → Each P (set l i a)
  put [] i a h k = h
  put (x ∷ l) zero a h k = (k, h.1)
  put (x ∷ l) (suc i) a h k = (h.0, put l i a h.1 k)

  front : (n : ℕ) (l : List A) → Each P l → Each P (take n l)
  front zero l h = tt
  front (suc n) [] h = tt
  front (suc n) (x ∷ l) h = (h.0, front n l h.1)

  back : (n : ℕ) (l : List A) → Each P l → Each P (drop n l)
  back zero l h = h
  back (suc n) [] h = tt
  back (suc n) (x ∷ l) h = back n l h.1

  join : (l m : List A) → Each P l → Each P m → Each P (l ++ m)
  join [] m h k = k
  join (x ∷ l) m h k = (h.0, join l m h.1 k)

  copies : (n : ℕ) (a : A) → P a → Each P (replicate n a)
  copies zero a h = tt
  copies (suc n) a h = (h, copies n a h)

  entries : (n : ℕ) (f : ℕ → A) → ((k : ℕ) → k < n → P (f k)) → Each P (table n f)
  unfolding table
  entries zero f s = tt
  entries (suc n) f s = (s 0 (omega arith), entries n (λ k. f (suc k)) (λ k l. s (suc k) (omega arith)))

  entries2 : (n : ℕ) (f g : ℕ → A) → ((k : ℕ) → k < n → P (f k) × P (g k)) → Each P (table2 n f g)
  unfolding table2
  entries2 zero f g s = tt
  entries2 (suc n) f g s =
      let p = s 0 (omega arith) in
      (p.0, (p.1, entries2 n (λ k. f (suc k)) (λ k. g (suc k)) (λ k l. s (suc k) (omega arith))))

  through : (n : ℕ) (f : ℕ → A → A) (d : List A) → Each P d → ((k : ℕ) (x : A) → k < n → P x → P (f k x)) → Each P (over n f d)
  unfolding over
  through zero f d h s = h
  through (suc n) f [] h s = tt
  through (suc n) f (x ∷ d) h s = (s 0 x (omega arith) h.0, through n (λ k. f (suc k)) d h.1 (λ k y l. s (suc k) y (omega arith)))

module _ {A : Type 0} {P : A → Type 0} where
  pub all_none : All P []
  all_none = record { each = tt }

  pub all_cons : {x : A} {l : List A} → P x → All P l → All P (x ∷ l)
  all_cons p h = record { each = (p, h.each) }

  -- ---- an element, at a place of the list; and at any place, where the default is of the kind too
  pub all-get : {l : List A} (i : ℕ) (d : A) → All P l → i < length l → P (get_or l i d)
  all-get {l} i d h k = get P l i d h.each k

  pub all-get-or : {l : List A} (i : ℕ) {d : A} → All P l → P d → P (get_or l i d)
  all-get-or {l} i {d} h k = get-or P l i d h.each k

  -- ---- a place written
  pub all_set : {l : List A} (i : ℕ) {a : A} → All P l → P a → All P (set l i a)
  all_set {l} i {a} h k = record { each = put P l i a h.each k }

  -- ---- parts and joins
  pub all_take : (n : ℕ) {l : List A} → All P l → All P (take n l)
  all_take n {l} h = record { each = front P n l h.each }

  pub all_drop : (n : ℕ) {l : List A} → All P l → All P (drop n l)
  all_drop n {l} h = record { each = back P n l h.each }

  pub all_append : {l m : List A} → All P l → All P m → All P (l ++ m)
  all_append {l} {m} h k = record { each = join P l m h.each k.each }

  pub all_replicate : (n : ℕ) (a : A) → P a → All P (replicate n a)
  all_replicate n a h = record { each = copies P n a h }

  -- ---- a table of values that are all of the kind
  pub all-table : (n : ℕ) (f : ℕ → A) → ((k : ℕ) → k < n → P (f k)) → All P (table n f)
  all-table n f s = record { each = entries P n f s }

  pub all-table2 : (n : ℕ) (f g : ℕ → A) → ((k : ℕ) → k < n → P (f k) × P (g k)) → All P (table2 n f g)
  all-table2 n f g s = record { each = entries2 P n f g s }

  -- ---- loops
  pub all-over : (n : ℕ) (f : ℕ → A → A) {d : List A} → All P d → ((k : ℕ) (x : A) → k < n → P x → P (f k x)) → All P (over n f d)
  all-over n f {d} h s = record { each = through P n f d h.each s }

-- the turns of a loop keep what each turn keeps
pub iter-keeps : {A : Type 0} (Q : A → Type 0) (step : ℕ → A → A) (a : A) (n : ℕ) → Q a → ((k : ℕ) (x : A) → k < n → Q x → Q (step k x)) → Q (iter step a n)
unfolding iter
iter-keeps Q step a zero h s = h
iter-keeps Q step a (suc n) h s = s n (iter step a n) (le_refl (suc n)) (iter-keeps Q step a n h (λ k x l. s k x (omega arith)))

module _ {A B : Type 0} (P : A → Type 0) (Q : B → Type 0) where
  each : (f : A → B) (l : List A) → ((x : A) → P x → Q (f x)) → Each P l → Each Q (map f l)
  each f [] s h = tt
  each f (x ∷ l) s h = (s x h.0, each f l s h.1)

module _ {A B : Type 0} {P : A → Type 0} {Q : B → Type 0} where
  pub all_map : (f : A → B) {l : List A} → ((x : A) → P x → Q (f x)) → All P l → All Q (map f l)
  all_map f {l} s h = record { each = each P Q f l s h.each }

module _ {A : Type 0} (P Q : A → Type 0) where
  weak : (l : List A) → ((x : A) → P x → Q x) → Each P l → Each Q l
  weak [] s h = tt
  weak (x ∷ l) s h = (s x h.0, weak l s h.1)

module _ {A : Type 0} {P Q : A → Type 0} where
  pub all-weaken : {l : List A} → ((x : A) → P x → Q x) → All P l → All Q l
  all-weaken {l} s h = record { each = weak P Q l s h.each }

-- a list of one value
same : {A : Type 0} (a : A) (l : List A) → Each (λ x. x ≡ a) l → l ≡ replicate (length l) a
same a [] h = refl
same {A} a (x ∷ l) h = ap (λ (y : A). y ∷ l) h.0 ∙ ap (λ (m : List A). a ∷ m) (same a l h.1)

pub all_same : {A : Type 0} {a : A} {l : List A} → All (λ x. x ≡ a) l → l ≡ replicate (length l) a
all_same {a = a} {l = l} h = same a l h.each

-- a test that passes at each element, computed over a constant list
abbrev pub passes : {A : Type 0} → (A → Bool) → List A → Bool
passes t [] = true
passes t (x ∷ l) = t x && passes t l

passed : {A : Type 0} (t : A → Bool) (l : List A) → T (passes t l) → Each (λ x. T (t x)) l
passed t [] h = tt
passed t (x ∷ l) h = (and_l (t x) (passes t l) h, passed t l (and_r (t x) (passes t l) h))

pub all-passes : {A : Type 0} (t : A → Bool) (l : List A) → T (passes t l) → All (λ x. T (t x)) l
all-passes t l h = record { each = passed t l h }

-- ---- loops that take one kind to another: what a turn has passed is Q, and what it has not is P, which is Q too
module _ {A : Type 0} (P Q : A → Type 0) (w : (x : A) → P x → Q x) where
  over-to : (n : ℕ) (f : ℕ → A → A) (d : List A) → Each P d → ((k : ℕ) (x : A) → k < n → P x → Q (f k x)) → Each Q (over n f d)
  unfolding over
  over-to zero f d h s = weak P Q d w h
  over-to (suc n) f [] h s = tt
  over-to (suc n) f (x ∷ d) h s = (s 0 x (omega arith) h.0, over-to n (λ k. f (suc k)) d h.1 (λ k y l. s (suc k) y (omega arith)))

  -- a list of m pairs
  over2-to : (z : A) (m n : ℕ) (f g : ℕ → A → A → A) (d : List A) → length d ≡ 2 * m → Each P d → ((k : ℕ) (x y : A) → k < n → P x → P y → Q (f k x y) × Q (g k x y)) → Each Q (over2 z n f g d)
  unfolding over2
  over2-to z m zero f g d e h s = weak P Q d w h
  over2-to z m (suc n) f g [] e h s = tt
  over2-to z m (suc n) f g (x ∷ []) e h s = absurd (odd-one m e)
    where
      odd-one : (m : ℕ) → 1 ≡ 2 * m → ⊥
      odd-one m e = omega arith
  over2-to z zero (suc n) f g (x ∷ y ∷ d) e h s = absurd (omega arith)
  over2-to z (suc m) (suc n) f g (x ∷ y ∷ d) e h s =
      let p = s 0 x y (omega arith) h.0 h.1.0 in
      (p.0, (p.1, over2-to z m n (λ k. f (suc k)) (λ k. g (suc k)) d (omega arith) h.1.1 (λ k a b l. s (suc k) a b (omega arith))))

module _ {A : Type 0} {P Q : A → Type 0} where
  pub all-over-to : (n : ℕ) (f : ℕ → A → A) {d : List A} → ((x : A) → P x → Q x) → All P d → ((k : ℕ) (x : A) → k < n → P x → Q (f k x)) → All Q (over n f d)
  all-over-to n f {d} w h s = record { each = over-to P Q w n f d h.each s }

  pub all-over2-to : (z : A) (m n : ℕ) (f g : ℕ → A → A → A) {d : List A} → ((x : A) → P x → Q x) → length d ≡ 2 * m → All P d → ((k : ℕ) (x y : A) → k < n → P x → P y → Q (f k x y) × Q (g k x y)) → All Q (over2 z n f g d)
  all-over2-to z m n f g {d} w e h s = record { each = over2-to P Q w z m n f g d e h.each s }

-- from each place
places : {A : Type 0} (P : A → Type 0) (d : A) (l : List A) → ((i : ℕ) → i < length l → P (get_or l i d)) → Each P l
places P d [] h = tt
places P d (x ∷ l) h = (h 0 (omega arith), places P d l (λ i b. h (suc i) (omega arith)))

pub all-places : {A : Type 0} (P : A → Type 0) (d : A) (l : List A) → ((i : ℕ) → i < length l → P (get_or l i d)) → All P l
all-places P d l h = record { each = places P d l h }

-- a part of a buffer, and a buffer with another part put in
pub all-part : {A : Type 0} {P : A → Type 0} (n p : ℕ) {w : List A} → All P w → All P (part n p w)
unfolding part
all-part n p h = all_take n (all_drop (n * p) h)

pub all-with : {A : Type 0} {P : A → Type 0} (n p : ℕ) {w v : List A} → All P w → All P v → All P (with_part n p w v)
unfolding with_part
all-with n p h k = all_append (all_take (n * p) h) (all_append k (all_drop n (all_drop (n * p) h)))
