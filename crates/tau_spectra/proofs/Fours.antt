-- Four slots at once onto the sum of the kept powers are the four one after the other (`four-turn`). Assumes nothing.
use mathlib.Core.Path.{◌≡◌, refl, sym, ap, ◌∙◌}
use mathlib.Core.List.{List}
use Prim.Native.Nat.{ℕ, ◌+◌, ◌*◌, ◌<◌}
use native.Mathlib.Omega.{arith}
use lib.Ieee.{Float, nan, binary64, add}
use lib.ListN.{get_or, take, drop}
use lib.Seq.{get_or-take, get_or-drop}
use Rattle.laws.specs.Loops.{over, iter-next}
use Rattle.laws.specs.Parts.{part, get-part}
use Rattle.laws.specs.Readings.{over-cong, over-over}
use Rattle.tau_spectra.specs.Powers.{kept_power_to, four_on}

-- one slot
abbrev onto : List Float → ℕ → ℕ → Float → Float
onto powers slot k a = add binary64 a (get_or (part 257 slot powers) k nan)

-- number k of the slot that stands j places on among the four
reads : (powers : List Float) (slot j i k : ℕ) → i ≡ 257 * j + k → i < 1028 → k < 257
    → get_or (take 1028 (drop (257 * slot) powers)) i nan ≡ get_or (part 257 (slot + j) powers) k nan
reads powers slot j i k e h l =
    let place : 257 * slot + i ≡ 257 * (slot + j) + k = omega arith in
    get_or-take 1028 (drop (257 * slot) powers) i nan h ∙ get_or-drop (257 * slot) powers i nan
    ∙ ap (λ (p : ℕ). get_or powers p nan) place ∙ sym (get-part 257 (slot + j) powers k nan l)

module _ (powers : List Float) (slot : ℕ) where
  -- the four, one in the other
  four-ontos : (k : ℕ) (a : Float) → k < 257
      → four_on (take 1028 (drop (257 * slot) powers)) k a
      ≡ onto powers (slot + 3) k (onto powers (slot + 2) k (onto powers (slot + 1) k (onto powers (slot + 0) k a)))
  unfolding four_on
  four-ontos k a l =
      let r0 = reads powers slot 0 k k (omega arith) (omega arith) l in
      let r1 = reads powers slot 1 (257 + k) k (omega arith) (omega arith) l in
      let r2 = reads powers slot 2 (514 + k) k (omega arith) (omega arith) l in
      let r3 = reads powers slot 3 (771 + k) k (omega arith) (omega arith) l in
      rw (r0, r1, r2, r3)

  -- their passes in one
  four-passes : (sum : List Float)
      → over 257 (four_on (take 1028 (drop (257 * slot) powers))) sum
      ≡ over 257 (onto powers (slot + 3)) (over 257 (onto powers (slot + 2)) (over 257 (onto powers (slot + 1)) (over 257 (onto powers (slot + 0)) sum)))
  four-passes sum =
      let a = onto powers (slot + 0) in
      let b = onto powers (slot + 1) in
      let c = onto powers (slot + 2) in
      let d = onto powers (slot + 3) in
      over-cong _ (λ k x. d k (c k (b k (a k x)))) sum 257 (λ k x l. four-ontos k x l)
      ∙ sym
      (ap (λ (l : List Float). over 257 d (over 257 c l)) (over-over a b sum 257)
      ∙ ap (over 257 d) (over-over (λ k x. b k (a k x)) c sum 257)
      ∙ over-over (λ k x. c k (b k (a k x))) d sum 257)

  pub four-turn : {sum new : List Float} → sum ≡ kept_power_to powers slot → new ≡ over 257 (four_on (take 1028 (drop (257 * slot) powers))) sum
      → new ≡ kept_power_to powers (slot + 4)
  unfolding kept_power_to
  four-turn {sum} {new} e h =
      let zero : slot + 0 ≡ slot = omega arith in
      let one = iter-next _ _ slot e (ap (λ (p : ℕ). over 257 (onto powers p) sum) zero) in
      let two = iter-next _ _ (slot + 1) one refl in
      let s2 : slot + 1 + 1 ≡ slot + 2 = omega arith in
      let three = iter-next _ _ (slot + 2) (rw s2 at two) refl in
      let s3 : slot + 2 + 1 ≡ slot + 3 = omega arith in
      let four = iter-next _ _ (slot + 3) (rw s3 at three) (h ∙ four-passes sum) in
      let s4 : slot + 3 + 1 ≡ slot + 4 = omega arith in
      rw s4 at four
