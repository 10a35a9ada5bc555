-- What stands after a stage, by index and not by place: `after w half stride v j r` is number j of the sub-transform r, where v j r is
-- it before the stage. The stages in place and the passes of the self-sorting core both hold these values, each at places of its own.
-- Assumes nothing.
--     after-low, after-high     the upper and the lower wing
--     stage-holds               a stage in place, at any span
--     pass-holds                a pass of two stages, at any length of its rows
use mathlib.Core.Path.{◌≡◌, ◌∙◌, refl, sym, ap, subst}
use mathlib.Core.Bool.{Bool}
use mathlib.Core.List.{List}
use mathlib.Core.Logic.{⊎_elim}
use Prim.Native.Nat.{ℕ, ◌+◌, ◌-◌, ◌*◌, ◌<◌, ◌≤◌}
use native.Mathlib.Nat.{add-sub_cancel}
use native.Mathlib.Omega.{arith}
use borrow.Author.Tests.{lt-ltb, le-ltb}
use lib.Dec.{ltb}
use lib.ListN.{length}
use lib.Ieee.{Float}
use Rattle.laws.specs.Choice.{pick, pick_yes, pick_no, lt-or-ge}
use Rattle.complex.specs.declared.Complex.{Complex}
use Rattle.complex.specs.Complexes.{get_c, add_c, sub_c, mul_c}
use Rattle.self_sorting.specs.declared.quads.Four.{Four}
use Rattle.complex_fft.specs.ComplexFft.{twiddle_of, stage_at}
use Rattle.self_sorting.specs.Quads.{get_s, four_of, two_stages, turns_of}
use Rattle.self_sorting.specs.Passes.{pass_of}
use Rattle.complex_fft.proofs.Sizes.{stage-long}
use Rattle.complex_fft.proofs.Stages.{stage-upper, stage-lower}
use Rattle.self_sorting.proofs.Rows.{Apart, quad}
use Rattle.self_sorting.proofs.InPass.{in-pass}

abbrev pub Values : Type 0
Values = ℕ → ℕ → Complex

unfoldable pub after : (ℕ → Complex) → ℕ → ℕ → Values → Values
after w half stride v j r =
    pick (ltb j half) (add_c (v j r) (mul_c (w (j * stride)) (v j (r + stride))))
    (sub_c (v (j - half) r) (mul_c (w ((j - half) * stride)) (v (j - half) (r + stride))))

module _ (w : ℕ → Complex) (half stride : ℕ) (v : Values) (j r : ℕ) where
  pub after-low : j < half → after w half stride v j r ≡ add_c (v j r) (mul_c (w (j * stride)) (v j (r + stride)))
  unfolding after
  after-low h = sym (pick_yes _ _ _ (lt-ltb j half h) refl)

  pub after-high : after w half stride v (j + half) r ≡ sub_c (v j r) (mul_c (w (j * stride)) (v j (r + stride)))
  unfolding after
  after-high = sym (pick_no _ _ _ (le-ltb (j + half) half (omega arith)) (rw (add-sub_cancel j half)))

-- equal operands
up-eq : {a b c x y z : Complex} → a ≡ x → b ≡ y → c ≡ z → add_c a (mul_c b c) ≡ add_c x (mul_c y z)
up-eq p q r = rw (p, q, r)

low-eq : {a b c x y z : Complex} → a ≡ x → b ≡ y → c ≡ z → sub_c a (mul_c b c) ≡ sub_c x (mul_c y z)
low-eq p q r = rw (p, q, r)

-- ---- in place

-- blocks of half numbers each: block b holds the sub-transform ρ b
pub record InPlace (half blocks : ℕ) (ρ : ℕ → ℕ) (v : Values) (l : List Float) : Type 0 where
  pub long : length l ≡ 512
  pub holds : (b j : ℕ) → b < blocks → j < half → get_c l (b * half + j) ≡ v j (ρ b)

module _ (t : List Float) (inverse : Bool) (half stride : ℕ) (whole : half * stride ≡ 128) (ρ σ : ℕ → ℕ)
    (even : (b : ℕ) → b < stride → ρ (2 * b) ≡ σ b) (odd : (b : ℕ) → b < stride → ρ (2 * b + 1) ≡ σ b + stride)
    (v : Values) (l : List Float) (p : InPlace half (2 * stride) ρ v l) where
  abbrev w : ℕ → Complex
  w k = twiddle_of t inverse k

  abbrev next : List Float
  next = stage_at t inverse half stride l

  upper : (b j : ℕ) → b < stride → j < half → get_c l (b * (2 * half) + j) ≡ v j (σ b)
  upper b j hb hj = let e : b * (2 * half) + j ≡ 2 * b * half + j = omega arith in ap (get_c l) e ∙ p.holds (2 * b) j (omega arith) hj ∙ ap (v j) (even b hb)

  lower : (b j : ℕ) → b < stride → j < half → get_c l (b * (2 * half) + j + half) ≡ v j (σ b + stride)
  lower b j hb hj = let e : b * (2 * half) + j + half ≡ (2 * b + 1) * half + j = omega arith in ap (get_c l) e ∙ p.holds (2 * b + 1) j (omega arith) hj ∙ ap (v j) (odd b hb)

  first : (b j : ℕ) → b < stride → j < half → get_c next (b * (2 * half) + j) ≡ after w half stride v j (σ b)
  first b j hb hj =
      stage-upper t inverse half stride whole l p.long b j hb hj ∙ up-eq (upper b j hb hj) refl (lower b j hb hj)
      ∙ sym (after-low w half stride v j (σ b) hj)

  second : (b j : ℕ) → b < stride → j < half → get_c next (b * (2 * half) + (j + half)) ≡ after w half stride v (j + half) (σ b)
  second b j hb hj =
      let e : b * (2 * half) + (j + half) ≡ b * (2 * half) + j + half = omega arith in
      ap (get_c next) e ∙ stage-lower t inverse half stride whole l p.long b j hb hj ∙ low-eq (upper b j hb hj) refl (lower b j hb hj)
      ∙ sym (after-high w half stride v j (σ b))

  pub stage-holds : InPlace (2 * half) stride σ (after w half stride v) next
  stage-holds = record {
    long = stage-long 512 t inverse half stride l p.long;
    holds = λ b j hb hj.
        ⊎_elim (λ (h : j < half). first b j hb h)
        (λ (h : half ≤ j).
        let e : j - half + half ≡ j = omega arith in
        subst (λ (k : ℕ). get_c next (b * (2 * half) + k) ≡ after w half stride v k (σ b)) e (second b (j - half) hb (omega arith)))
        (lt-or-ge j half);
  }

-- ---- from one half of the scratch to the other

-- the half at s holds h rows of m numbers: row j is number j of the m sub-transforms
pub record Held (s h m : ℕ) (v : Values) (z : List Float) : Type 0 where
  pub long : length z ≡ 1024
  pub holds : (j r : ℕ) → j < h → r < m → get_s z (m * j + s + r) ≡ v j r

module _ (t : List Float) (inverse : Bool) (h n s d : ℕ) (whole : n * h ≡ 64) (A : Apart s d) (fits : d + 512 ≤ 1024)
    (v : Values) (z : List Float) (p : Held s h (4 * n) v z) where
  abbrev turn : ℕ → Complex
  turn k = twiddle_of t inverse k

  abbrev one : Values
  one j r = after turn h (2 * n) v j r

  abbrev two : Values
  two j r = after turn (2 * h) n one j r

  abbrev moved : List Float
  moved = pass_of t inverse h n s d z

  -- the first of the two stages
  module _ (j q : ℕ) (hj : j < h) (hq : q < n) where
    abbrev i : ℕ
    i = 4 * n * j + s + q

    at_a : get_s z i ≡ v j q
    at_a = p.holds j q hj (omega arith)

    at_b : get_s z (i + n) ≡ v j (q + n)
    at_b = let e : i + n ≡ 4 * n * j + s + (q + n) = omega arith in ap (get_s z) e ∙ p.holds j (q + n) hj (omega arith)

    at_c : get_s z (i + 2 * n) ≡ v j (q + 2 * n)
    at_c = let e : i + 2 * n ≡ 4 * n * j + s + (q + 2 * n) = omega arith in ap (get_s z) e ∙ p.holds j (q + 2 * n) hj (omega arith)

    at-d : get_s z (i + 3 * n) ≡ v j (q + n + 2 * n)
    at-d = let e : i + 3 * n ≡ 4 * n * j + s + (q + n + 2 * n) = omega arith in ap (get_s z) e ∙ p.holds j (q + n + 2 * n) hj (omega arith)

    turn_one : turn (2 * (n * j)) ≡ turn (j * (2 * n))
    turn_one = let e : 2 * (n * j) ≡ j * (2 * n) = omega arith in ap (twiddle_of t inverse) e

    turn_two : turn (n * j) ≡ turn (j * n)
    turn_two = let e : n * j ≡ j * n = omega arith in ap (twiddle_of t inverse) e

    turn_three : turn (n * j + 64) ≡ turn ((j + h) * n)
    turn_three = let e : n * j + 64 ≡ (j + h) * n = omega arith in ap (twiddle_of t inverse) e

    one-a : add_c (get_s z i) (mul_c (turn (2 * (n * j))) (get_s z (i + 2 * n))) ≡ one j q
    one-a = up-eq at_a turn_one at_c ∙ sym (after-low turn h (2 * n) v j q hj)

    one_b : add_c (get_s z (i + n)) (mul_c (turn (2 * (n * j))) (get_s z (i + 3 * n))) ≡ one j (q + n)
    one_b = up-eq at_b turn_one at-d ∙ sym (after-low turn h (2 * n) v j (q + n) hj)

    one-c : sub_c (get_s z i) (mul_c (turn (2 * (n * j))) (get_s z (i + 2 * n))) ≡ one (j + h) q
    one-c = low-eq at_a turn_one at_c ∙ sym (after-high turn h (2 * n) v j q)

    one-d : sub_c (get_s z (i + n)) (mul_c (turn (2 * (n * j))) (get_s z (i + 3 * n))) ≡ one (j + h) (q + n)
    one-d = low-eq at_b turn_one at-d ∙ sym (after-high turn h (2 * n) v j (q + n))

    -- the second
    abbrev four : Four
    four = quad (turns_of t inverse (n * j)) n i z

    two_a : four.a ≡ two j q
    unfolding two_stages four_of turns_of
    two_a = up-eq one-a turn_two one_b ∙ sym (after-low turn (2 * h) n one j q (omega arith))

    two-b : four.b ≡ two (j + h) q
    unfolding two_stages four_of turns_of
    two-b = up-eq one-c turn_three one-d ∙ sym (after-low turn (2 * h) n one (j + h) q (omega arith))

    two-c : four.c ≡ two (j + 2 * h) q
    unfolding two_stages four_of turns_of
    two-c = low-eq one-a turn_two one_b ∙ sym (after-high turn (2 * h) n one j q)

    two-d : four.d ≡ two (j + h + 2 * h) q
    unfolding two_stages four_of turns_of
    two-d = low-eq one-c turn_three one-d ∙ sym (after-high turn (2 * h) n one (j + h) q)

  pub pass-holds : Held d (4 * h) n two moved
  pass-holds =
      let P = in-pass t inverse h n s d whole A fits z p.long in
      let F : ℕ → ℕ → Type 0 = λ q k. get_s moved (n * k + d + q) ≡ two k q in
      let a : (j q : ℕ) → j < h → q < n → F q j = λ j q u x. P.a j q u x ∙ two_a j q u x in
      let b : (j q : ℕ) → j < h → q < n → F q (j + h) = λ j q u x.
      let e : n * (j + h) + d + q ≡ n * j + d + q + 64 = omega arith in ap (get_s moved) e ∙ P.b j q u x ∙ two-b j q u x in
      let c : (j q : ℕ) → j < h → q < n → F q (j + 2 * h) = λ j q u x.
      let e : n * (j + 2 * h) + d + q ≡ n * j + d + q + 128 = omega arith in ap (get_s moved) e ∙ P.c j q u x ∙ two-c j q u x in
      let g : (j q : ℕ) → j < h → q < n → F q (j + h + 2 * h) = λ j q u x.
      let e : n * (j + h + 2 * h) + d + q ≡ n * j + d + q + 192 = omega arith in ap (get_s moved) e ∙ P.d j q u x ∙ two-d j q u x in
      record {
        long = P.long;
        holds = λ k q hk hq.
            ⊎_elim (λ (u : k < h). a k q u hq)
            (λ (u : h ≤ k).
            ⊎_elim (λ (x : k < 2 * h). let e : k - h + h ≡ k = omega arith in subst (F q) e (b (k - h) q (omega arith) hq))
            (λ (x : 2 * h ≤ k).
            ⊎_elim (λ (y : k < 3 * h). let e : k - 2 * h + 2 * h ≡ k = omega arith in subst (F q) e (c (k - 2 * h) q (omega arith) hq))
            (λ (y : 3 * h ≤ k). let e : k - 3 * h + h + 2 * h ≡ k = omega arith in subst (F q) e (g (k - 3 * h) q (omega arith) hq))
            (lt-or-ge k (3 * h)))
            (lt-or-ge k (2 * h)))
            (lt-or-ge k h);
      }
