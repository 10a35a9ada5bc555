-- What 32 gathered numbers have only where each has it. Assumes nothing.
--     tree-same     equal lanes are gathered to the same
--     all           P of the gathered number is P of each, where P of a pair's is P of both, among numbers that are D
use mathlib.Core.Path.{◌≡◌, sym, subst}
use mathlib.Core.Logic.{◌⊎◌, inl, inr}
use Prim.Native.Nat.{ℕ, zero, suc, ◌+◌, ◌-◌, ◌≤◌, ◌<◌}
use native.Mathlib.Omega.{arith}
use lib.Ieee.{Float}
use Rattle.laws.specs.Choice.{lt-or-ge}
use Rattle.narrow_list.specs.Lanes.{lane, tree}

pub tree-same : (op : Float → Float → Float) (s t : ℕ → Float) → ((k : ℕ) → k < 8 → s k ≡ t k) → tree op s ≡ tree op t
tree-same op s t e =
    let e0 = e 0 (omega arith) in
    let e1 = e 1 (omega arith) in
    let e2 = e 2 (omega arith) in
    let e3 = e 3 (omega arith) in
    let e4 = e 4 (omega arith) in
    let e5 = e 5 (omega arith) in
    let e6 = e 6 (omega arith) in
    let e7 = e 7 (omega arith) in
    cc

module _ (op : Float → Float → Float) (D P : Float → Type 0) (keeps : (x y : Float) → D x → D y → D (op x y)) (terms : (x y : Float) → D x → D y → P (op x y) → P x × P y) where
  -- four, in pairs
  four : (a b c d : Float) → D a → D b → D c → D d → P (op (op a b) (op c d)) → P a × P b × (P c × P d)
  four a b c d A B C E h =
      let t = terms (op a b) (op c d) (keeps a b A B) (keeps c d C E) h in
      let l = terms a b A B t.0 in
      (l.0, l.1, terms c d C E t.1)

  keeps-four : (a b c d : Float) → D a → D b → D c → D d → D (op (op a b) (op c d))
  keeps-four a b c d A B C E = keeps (op a b) (op c d) (keeps a b A B) (keeps c d C E)

  eight : (s : ℕ → Float) → ((k : ℕ) → k < 8 → D (s k)) → P (tree op s) → (k : ℕ) → k < 8 → P (s k)
  eight s d h k l = go k l
    where
      half : P (op (op (s 0) (s 4)) (op (s 2) (s 6))) × P (op (op (s 1) (s 5)) (op (s 3) (s 7)))
      half =
          terms (op (op (s 0) (s 4)) (op (s 2) (s 6))) (op (op (s 1) (s 5)) (op (s 3) (s 7)))
          (keeps-four (s 0) (s 4) (s 2) (s 6) (d 0 (omega arith)) (d 4 (omega arith)) (d 2 (omega arith)) (d 6 (omega arith)))
          (keeps-four (s 1) (s 5) (s 3) (s 7) (d 1 (omega arith)) (d 5 (omega arith)) (d 3 (omega arith)) (d 7 (omega arith)))
          h

      lo : P (s 0) × P (s 4) × (P (s 2) × P (s 6))
      lo = four (s 0) (s 4) (s 2) (s 6) (d 0 (omega arith)) (d 4 (omega arith)) (d 2 (omega arith)) (d 6 (omega arith)) half.0

      hi : P (s 1) × P (s 5) × (P (s 3) × P (s 7))
      hi = four (s 1) (s 5) (s 3) (s 7) (d 1 (omega arith)) (d 5 (omega arith)) (d 3 (omega arith)) (d 7 (omega arith)) half.1

      go : (k : ℕ) → k < 8 → P (s k)
      go zero l = lo.0
      go (suc zero) l = hi.0
      go (suc (suc zero)) l = lo.2.0
      go (suc (suc (suc zero))) l = hi.2.0
      go (suc (suc (suc (suc zero)))) l = lo.1
      go (suc (suc (suc (suc (suc zero))))) l = hi.1
      go (suc (suc (suc (suc (suc (suc zero)))))) l = lo.2.1
      go (suc (suc (suc (suc (suc (suc (suc zero))))))) l = hi.2.1
      go (suc (suc (suc (suc (suc (suc (suc (suc k)))))))) l = absurd (past l)
        where
          past : suc (suc (suc (suc (suc (suc (suc (suc k))))))) < 8 → ⊥
          past l = omega arith

  pub all : (x s : ℕ → Float) → ((k : ℕ) → k < 32 → D (x k)) → ((k : ℕ) → k < 8 → s k ≡ lane op x k) → P (tree op s) → (k : ℕ) → k < 32 → P (x k)
  all x s d e h k l = go (lt-or-ge k 8) (lt-or-ge k 16) (lt-or-ge k 24)
    where
      lanes : (q : ℕ) → q < 8 → D (s q)
      lanes q b = subst D (sym (e q b)) (keeps-four (x q) (x (q + 8)) (x (q + 16)) (x (q + 24)) (d q (omega arith)) (d (q + 8) (omega arith)) (d (q + 16) (omega arith)) (d (q + 24) (omega arith)))

      parts : (q : ℕ) → q < 8 → P (x q) × P (x (q + 8)) × (P (x (q + 16)) × P (x (q + 24)))
      parts q b = four (x q) (x (q + 8)) (x (q + 16)) (x (q + 24)) (d q (omega arith)) (d (q + 8) (omega arith)) (d (q + 16) (omega arith)) (d (q + 24) (omega arith)) (subst P (e q b) (eight s lanes h q b))

      at : (i : ℕ) → i ≡ k → P (x i) → P (x k)
      at i p h = subst (λ (j : ℕ). P (x j)) p h

      go : (k < 8) ⊎ (8 ≤ k) → (k < 16) ⊎ (16 ≤ k) → (k < 24) ⊎ (24 ≤ k) → P (x k)
      go (inl a) _ _ = (parts k a).0
      go (inr a) (inl b) _ = at (k - 8 + 8) (omega arith) (parts (k - 8) (omega arith)).1
      go (inr a) (inr b) (inl c) = at (k - 16 + 16) (omega arith) (parts (k - 16) (omega arith)).2.0
      go (inr a) (inr b) (inr c) = at (k - 24 + 24) (omega arith) (parts (k - 24) (omega arith)).2.1
