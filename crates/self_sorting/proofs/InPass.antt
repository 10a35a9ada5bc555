-- A pass at any length n of its rows, place by place: what the four numbers of each quad become. Assumes nothing.
use mathlib.Core.Path.{◌≡◌, ◌∙◌, refl}
use mathlib.Core.Bool.{Bool}
use mathlib.Core.List.{List}
use mathlib.Core.Logic.{⊎_elim}
use Prim.Native.Nat.{ℕ, zero, suc, ◌+◌, ◌*◌, ◌<◌, ◌≤◌}
use native.Mathlib.Nat.{mul-le-mul_left, mul-suc}
use native.Mathlib.Omega.{arith}
use lib.ListN.{length}
use lib.Ieee.{Float}
use Rattle.laws.specs.Loops.{iter}
use Rattle.self_sorting.specs.declared.quads.Turns.{Turns}
use Rattle.self_sorting.specs.Quads.{get_s, turns_of}
use Rattle.self_sorting.specs.Passes.{row_of, pass_of}
use Rattle.complex_fft.proofs.Stages.{last}
use Rattle.self_sorting.proofs.Rows.{Apart, clear-source, clear-same, quad, quad-eq, InRow, in_row}

-- a row that comes before another ends before it
before : (n j k : ℕ) → j < k → n * j + n ≤ n * k
before n j k h = omega (arith, mul-le-mul_left n h, mul-suc n j)

-- m is l after k rows of the pass
pub record InPass (w : ℕ → Turns) (n s g : ℕ) (l : List Float) (k : ℕ) (m : List Float) : Type 0 where
  pub long : length m ≡ 1024
  pub a : (j q : ℕ) → j < k → q < n → get_s m (n * j + g + q) ≡ (quad (w j) n (4 * n * j + s + q) l).a
  pub b : (j q : ℕ) → j < k → q < n → get_s m (n * j + g + q + 64) ≡ (quad (w j) n (4 * n * j + s + q) l).b
  pub c : (j q : ℕ) → j < k → q < n → get_s m (n * j + g + q + 128) ≡ (quad (w j) n (4 * n * j + s + q) l).c
  pub d : (j q : ℕ) → j < k → q < n → get_s m (n * j + g + q + 192) ≡ (quad (w j) n (4 * n * j + s + q) l).d
  pub still : (x : ℕ) → s ≤ x → x < s + 256 → get_s m x ≡ get_s l x

pass_turn : (w : ℕ → Turns) (n s d : ℕ) → Apart s d → (l : List Float) (k : ℕ) → n * k + n ≤ 64 → (m x : List Float) → InPass w n s d l k m
    → InRow (w k) n (4 * n * k + s) (n * k + d) m n x → InPass w n s d l (suc k) x
pass_turn w n s d A l k f m x p r =
    let o = n * k + d in
    let i = 4 * n * k + s in
    let new : (q : ℕ) → q < n → quad (w k) n (i + q) m ≡ quad (w k) n (i + q) l = λ q h.
    quad-eq (w k) l m (i + q) n (p.still (i + q) (omega arith) (omega arith)) (p.still (i + q + n) (omega arith) (omega arith))
    (p.still (i + q + 2 * n) (omega arith) (omega arith)) (p.still (i + q + 3 * n) (omega arith) (omega arith)) in
    let keeps : (e j q y : ℕ) → y ≡ n * j + d + q + 64 * e → e < 4 → j < k → q < n → get_s x y ≡ get_s m y = λ e j q y z u v t.
    r.still y (λ g h. clear-same d (o + g) y (omega arith) (omega (arith, before n j k v)) (omega arith) (omega arith)
    (omega (arith, before n j k v)) (omega (arith, before n j k v)) (omega (arith, before n j k v)) (omega (arith, before n j k v))) in
    record {
      long = r.long;
      a = λ j q u t. ⊎_elim (λ (e : j ≡ k). rw e (r.a q t ∙ rw (new q t))) (λ (h : j < k). keeps 0 j q _ (omega arith) (omega arith) h t ∙ p.a j q h t) (last u);
      b = λ j q u t. ⊎_elim (λ (e : j ≡ k). rw e (r.b q t ∙ rw (new q t))) (λ (h : j < k). keeps 1 j q _ (omega arith) (omega arith) h t ∙ p.b j q h t) (last u);
      c = λ j q u t. ⊎_elim (λ (e : j ≡ k). rw e (r.c q t ∙ rw (new q t))) (λ (h : j < k). keeps 2 j q _ (omega arith) (omega arith) h t ∙ p.c j q h t) (last u);
      d = λ j q u t. ⊎_elim (λ (e : j ≡ k). rw e (r.d q t ∙ rw (new q t))) (λ (h : j < k). keeps 3 j q _ (omega arith) (omega arith) h t ∙ p.d j q h t) (last u);
      still = λ y u v. r.still y (λ q h. clear-source (o + q) y A u v (omega arith) (omega arith)) ∙ p.still y u v;
    }

module _ (t : List Float) (inverse : Bool) (rows n s d : ℕ) (whole : n * rows ≡ 64) (A : Apart s d) (fits : d + 512 ≤ 1024) (l : List Float) (e : length l ≡ 1024) where
  abbrev w : ℕ → Turns
  w j = turns_of t inverse (n * j)

  pass_turns : (k : ℕ) → k ≤ rows → InPass w n s d l k (iter (λ j m. row_of (w j) n (4 * n * j + s) (n * j + d) m) l k)
  unfolding iter
  pass_turns zero h = record {
    long = e;
    a = λ j q u v. absurd (omega arith);
    b = λ j q u v. absurd (omega arith);
    c = λ j q u v. absurd (omega arith);
    d = λ j q u v. absurd (omega arith);
    still = λ x u v. refl;
  }
  pass_turns (suc k) h =
      let p = pass_turns k (omega arith) in
      let f : n * k + n ≤ 64 = omega (arith, before n k rows h, whole) in
      pass_turn w n s d A l k f _ _ p
      (in_row (w k) n (4 * n * k + s) (n * k + d) s d A (omega arith) (omega arith) (omega arith) (omega arith) fits _ p.long)

  pub in-pass : InPass w n s d l rows (pass_of t inverse rows n s d l)
  unfolding pass_of
  in-pass = pass_turns rows (omega arith)
