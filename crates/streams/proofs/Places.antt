-- Two lists that begin alike, place by place. Assumes nothing.
use mathlib.Core.Path.{◌≡◌, refl, ap}
use mathlib.Core.List.{List, [], ◌∷◌, map}
use Prim.Native.Nat.{ℕ, zero, suc, ◌≤◌, ◌<◌}
use native.Mathlib.Omega.{arith}
use lib.ListN.{length, get_or, take, drop}

module _ {A B : Type 0} (f : B → A) where
  -- the first of a list, each by f
  pub take-map : (k : ℕ) (m : List B) → take k (map f m) ≡ map f (take k m)
  take-map zero m = refl
  take-map (suc k) [] = refl
  take-map (suc k) (y ∷ m) = ap (λ (l : List A). f y ∷ l) (take-map k m)

  -- Where the first k of two lists are alike, and the one has so many, each of these k is at its place in both.
  pub alike_at : (k : ℕ) (l : List A) (m : List B) (i : ℕ) (a : A) (b : B) → take k l ≡ take k (map f m) → k ≤ length l → i < k
      → get_or l i a ≡ f (get_or m i b)
  alike_at zero l m i a b h n j = absurd (omega arith)
  alike_at (suc k) [] m i a b h n j = absurd (omega arith)
  alike_at (suc k) (x ∷ l) [] i a b h n j = let z = ap length h in absurd (omega arith)
  alike_at (suc k) (x ∷ l) (y ∷ m) zero a b h n j = ap (λ (q : List A). get_or q 0 a) h
  alike_at (suc k) (x ∷ l) (y ∷ m) (suc i) a b h n j = alike_at k l m i a b (ap (drop 1) h) (omega arith) (omega arith)
