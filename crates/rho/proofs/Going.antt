-- The loop over the pairs: after k turns, what is left gives the same end. Assumes nothing.
--     Going              the loop's invariant
--     going_start, going-turn, going_end     where it starts, one pair more, and what it says at the end
--     step-taps, step-ring                   a pair keeps the tap count, and the position stays below it
use mathlib.Core.Path.{◌≡◌, refl, sym, ap, ◌∙◌, subst}
use mathlib.Core.List.{List, [], ◌∷◌, ◌++◌, append-nil}
use Prim.Native.Nat.{ℕ, suc, ◌+◌, ◌<◌}
use native.Mathlib.Numerals.{add-one}
use native.Mathlib.Omega.{arith}
use borrow.Author.Tests.{eqb-false}
use lib.Dec.{eqb}
use lib.Ieee.{Float, nan}
use lib.ListN.{length, get_or, set, take, drop, take-append-drop}
use lib.Seq.{drop-cons, drop-length, take-suc-set, drop-set-lt, drop-drop, append_snoc}
use Rattle.laws.specs.Choice.{pick-if}
use Rattle.numbers.specs.Finite.{finite_or_zero}
use Rattle.rho_taps.specs.Ring.{next_of}
use Rattle.rho_sample.specs.Sample.{Engine, after_of, step_of}
use Rattle.rho.specs.Pairs.{pairs_of}

pub record Going (e₀ : Engine) (near far out₀ : List Float) (k : ℕ) (e : Engine) (out : List Float) : Type 0 where
  pub rest : (pairs_of e (drop k near) (drop k far)).engine ≡ (pairs_of e₀ near far).engine
  pub made : take k out ++ (pairs_of e (drop k near) (drop k far)).samples ≡ (pairs_of e₀ near far).samples
  pub tail : drop k out ≡ drop k out₀

pub going_start : (e : Engine) (near far out : List Float) → Going e near far out 0 e out
going_start e near far out = record { rest = refl; made = refl; tail = refl }

-- the pair at k, and those behind it
one-pair : (e : Engine) (x y : Float) (near far : List Float)
    → ((pairs_of e (x ∷ near) (y ∷ far)).engine ≡ (pairs_of (step_of e (finite_or_zero x) (finite_or_zero y)).engine near far).engine)
    × ((pairs_of e (x ∷ near) (y ∷ far)).samples ≡ (step_of e (finite_or_zero x) (finite_or_zero y)).output ∷ (pairs_of (step_of e (finite_or_zero x) (finite_or_zero y)).engine near far).samples)
unfolding pairs_of
one-pair e x y near far = (refl, refl)

module _ {e₀ : Engine} {near far out₀ : List Float} {k : ℕ} {e : Engine} {out : List Float} (g : Going e₀ near far out₀ k e out) (hn : k < length near) (hf : k < length far) (ho : k < length out) where
  x : Float
  x = get_or near k nan

  y : Float
  y = get_or far k nan

  going-suc : (e' : Engine) (v : Float) → e' ≡ (step_of e (finite_or_zero x) (finite_or_zero y)).engine → v ≡ (step_of e (finite_or_zero x) (finite_or_zero y)).output
      → Going e₀ near far out₀ (suc k) e' (set out k v)
  unfolding x y
  going-suc e' v he hv =
      let p = one-pair e x y (drop (suc k) near) (drop (suc k) far) in
      let r = rw (drop-cons near k nan hn, drop-cons far k nan hf) at g.rest in
      let m = rw (drop-cons near k nan hn, drop-cons far k nan hf) at g.made in
      record {
        rest = ap (λ (z : Engine). (pairs_of z (drop (suc k) near) (drop (suc k) far)).engine) he ∙ sym p.0 ∙ r;
        made =
            ap (λ (l : List Float). l ++ (pairs_of e' (drop (suc k) near) (drop (suc k) far)).samples) (take-suc-set out k v ho)
            ∙ append_snoc (take k out) v (pairs_of e' (drop (suc k) near) (drop (suc k) far)).samples
            ∙ ap (λ (z : Engine). take k out ++ v ∷ (pairs_of z (drop (suc k) near) (drop (suc k) far)).samples) he
            ∙ ap (λ (z : Float). take k out ++ z ∷ (pairs_of (step_of e (finite_or_zero x) (finite_or_zero y)).engine (drop (suc k) near) (drop (suc k) far)).samples) hv
            ∙ ap (λ (l : List Float). take k out ++ l) (sym p.1)
            ∙ m;
        tail = drop-set-lt (suc k) out k v (omega arith) ∙ further out ∙ ap (drop 1) g.tail ∙ sym (further out₀);
      }
    where
      further : (l : List Float) → drop (suc k) l ≡ drop 1 (drop k l)
      further l = ap (λ (n : ℕ). drop n l) (sym (add-one k)) ∙ sym (drop-drop 1 k l)

  pub going-turn : (e' : Engine) (v : Float) → e' ≡ (step_of e (finite_or_zero (get_or near k nan)) (finite_or_zero (get_or far k nan))).engine
      → v ≡ (step_of e (finite_or_zero (get_or near k nan)) (finite_or_zero (get_or far k nan))).output → Going e₀ near far out₀ (k + 1) e' (set out k v)
  unfolding x y
  going-turn e' v he hv = subst (λ (n : ℕ). Going e₀ near far out₀ n e' (set out k v)) (sym (add-one k)) (going-suc e' v he hv)

nothing_left : (e : Engine) (far : List Float) → ((pairs_of e [] far).engine ≡ e) × ((pairs_of e [] far).samples ≡ [])
unfolding pairs_of
nothing_left e far = (refl, refl)

pub going_end : {e₀ : Engine} {near far out₀ : List Float} {k : ℕ} {e : Engine} {out : List Float} → Going e₀ near far out₀ k e out → k ≡ length near
    → (e ≡ (pairs_of e₀ near far).engine) × (out ≡ (pairs_of e₀ near far).samples ++ drop (length near) out₀)
going_end {e₀} {near} {far} {out₀} {k} {e} {out} g h =
    let d : drop k near ≡ [] = ap (λ (n : ℕ). drop n near) h ∙ drop-length near in
    let p = nothing_left e (drop k far) in
    let r = rw d at g.rest in
    let m = rw d at g.made in
    let t : take k out ≡ (pairs_of e₀ near far).samples = sym (append-nil (take k out)) ∙ ap (λ (l : List Float). take k out ++ l) (sym p.1) ∙ m in
    (sym p.0 ∙ r, sym (take-append-drop k out) ∙ ap (λ (l : List Float). l ++ drop k out) t ∙ ap (λ (l : List Float). (pairs_of e₀ near far).samples ++ l) (g.tail ∙ ap (λ (n : ℕ). drop n out₀) h))

-- ---- what a pair keeps
pub step-taps : (e : Engine) (near far : Float) → (step_of e near far).engine.state.taps ≡ e.state.taps
unfolding step_of after_of
step-taps e near far = refl

pub next_small : (pos n : ℕ) → pos < n → next_of pos n < n
unfolding next_of
next_small pos n h = pick-if (λ (x : ℕ). x < n) (eqb (pos + 1) n) (λ _. omega arith) (λ e. below (eqb-false (pos + 1) n e))
  where
    below : (pos + 1 ≡ n → ⊥) → pos + 1 < n
    below f = omega (arith, f)

pub step-ring : (e : Engine) (near far : Float) → e.state.pos < e.state.taps → (step_of e near far).engine.state.pos < e.state.taps
unfolding step_of after_of
step-ring e near far h = next_small e.state.pos e.state.taps h
