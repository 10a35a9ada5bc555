-- What a call leaves where every length is right: for the proofs of the crates above, which need not open a call's definition.
-- Assumes nothing.
--     forward-served, inverse-served                                      with the crate's own table
--     forward-with-served, inverse-with-served, half-with-served          over a lent table and scratch
--     half-tells                                                          the last of them, over the crate's own table
--     forward_told, half_told                                             that a call with the crate's own table is not refused, and what it leaves
--     forward_made, inverse_made, half_made                               what the code does step by step is such an answer
--     forward_own, inverse_own                                            the calls with the crate's own table are those over it
--     forward_refused, inverse_refused, half_refused, half_refused_out    where one buffer has not its length
use mathlib.Core.Path.{◌≡◌, refl, sym, ap, ◌∙◌, subst}
use mathlib.Core.Bool.{Bool, true, false, ◌&&◌}
use mathlib.Core.List.{List, map}
use mathlib.Core.Logic.{◌≢◌}
use Prim.Native.Nat.{ℕ, ◌≤◌}
use native.Mathlib.Omega.{arith}
use Rattle.std.specs.Prelude.{Result, Ok, Err, IsOk}
use borrow.Author.Tests.{eq-eqb, ne_eqb}
use lib.Ieee.{Float}
use lib.ListN.{length}
use Rattle.laws.specs.Choice.{pick_yes, pick_no}
use Rattle.numbers.specs.Narrowing.{narrow_of}
use Rattle.narrow_list.specs.Overs.{over_count}
use Rattle.trig.specs.Tables.{recombination}
use Rattle.complex_fft.specs.Reversal.{reversal_table}
use Rattle.complex_fft.specs.ComplexFft.{run_of}
use Rattle.self_sorting.specs.Passes.{loaded, points_of, passes}
use Rattle.fft.specs.RealFft.{bins_of, halves_of, spectrum_with, samples_with, overs_with}
use Rattle.refusal.specs.declared.Refusal.{Refusal}
use Rattle.refusal.specs.declared.Refusal.TheVariants.{Settings, WrongLength, UnequalLengths, TooManyPairs, NoRoom, StateOutOfRange, NoMark, BadHeader, CutShort}
use Rattle.refusal.specs.Refusal.{number_of, number_in}
use Rattle.fft.specs.Promises.{ForwardWith, InverseHalfWith, inverted_of}
use Rattle.fft.specs.Calls.{Wrote, Sampled, spectrum_of, samples_of, overs_of, forward_of, inverse_of, lent_of, forward_with_of, inverse_with_of, half_of_samples, half_with_of}
use Rattle.fft.proofs.Ends.{loaded-bins}
use Rattle.fft.proofs.Sizes.{overs-few, overs-512}

pub forward-served : (x out : List Float) → length x ≡ 512 → length out ≡ 514 → forward_of x out ≡ record { answer = 0; out = spectrum_of x }
unfolding forward_of
forward-served x out h k = sym (pick_yes _ _ _ (rw (eq-eqb _ _ h, eq-eqb _ _ k)) refl)

pub inverse-served : (x out : List Float) → length x ≡ 514 → length out ≡ 512 → inverse_of x out ≡ record { answer = 0; overs = overs_of x; out = samples_of x }
unfolding inverse_of
inverse-served x out h k = sym (pick_yes _ _ _ (rw (eq-eqb _ _ h, eq-eqb _ _ k)) refl)

module _ (t s : List Float) (ht : length t ≡ 514) (hs : length s ≡ 1024) where
  lent : lent_of t s ≡ true
  unfolding lent_of
  lent = rw (eq-eqb _ _ ht, eq-eqb _ _ hs)

  pub forward-with-served : (x out : List Float) → length x ≡ 512 → length out ≡ 514
      → forward_with_of t s x out ≡ record { answer = 0; out = spectrum_with t reversal_table x }
  unfolding forward_with_of
  forward-with-served x out h k = sym (pick_yes _ _ _ (rw (lent, eq-eqb _ _ h, eq-eqb _ _ k)) refl)

  pub inverse-with-served : (x out : List Float) → length x ≡ 514 → length out ≡ 512
      → inverse_with_of t s x out ≡ record { answer = 0; overs = overs_with t reversal_table x; out = samples_with t reversal_table x }
  unfolding inverse_with_of
  inverse-with-served x out h k = sym (pick_yes _ _ _ (rw (lent, eq-eqb _ _ h, eq-eqb _ _ k)) refl)

  pub half-with-served : (x : List Float) (later : Bool) (out : List Float) → length x ≡ 514 → length out ≡ 256
      → half_with_of t s x later out ≡ record { answer = 0; overs = overs_with t reversal_table x; out = half_of_samples later (samples_with t reversal_table x) }
  unfolding half_with_of
  half-with-served x later out h k = sym (pick_yes _ _ _ (rw (lent, eq-eqb _ _ h, eq-eqb _ _ k)) refl)

-- what a call with the recombination table itself tells, in the words of `samples_of` and `overs_of`
pub half-tells : (t s : List Float) → length t ≡ 514 → length s ≡ 1024 → t ≡ recombination → (x : List Float) (later : Bool) (out : List Float) → length x ≡ 514 → length out ≡ 256
    → {answer overs : ℕ} {after : List Float} → record { answer = answer; overs = overs; out = after } ≡ half_with_of t s x later out
    → (after ≡ half_of_samples later (samples_of x)) × (overs ≡ overs_of x) × (overs ≤ 512)
unfolding samples_of overs_of
half-tells t s ht hs e x later out h k {overs = n} w =
    let r = w ∙ half-with-served t s ht hs x later out h k in
    let many = ap (λ (v : Sampled). v.overs) r ∙ ap (λ (t : List Float). overs_with t reversal_table x) e in
    (ap (λ (v : Sampled). v.out) r ∙ ap (λ (t : List Float). half_of_samples later (samples_with t reversal_table x)) e, many, subst (λ (m : ℕ). m ≤ 512) (sym many) (overs-few recombination reversal_table x))

-- ---- what the code does

module _ (t s : List Float) (ht : length t ≡ 514) (hs : length s ≡ 1024) where
  pub forward_made : (x out after : List Float) → length x ≡ 512 → length out ≡ 514 → after ≡ bins_of t (points_of (passes t false (loaded x s)))
      → record { answer = 0; out = after } ≡ forward_with_of t s x out
  forward_made x out after hx ho e = rw (e, loaded-bins t x s hx hs) (sym (forward-with-served t s ht hs x out hx ho))

  pub inverse_made : (x out points after : List Float) (overs : ℕ) → length x ≡ 514 → length out ≡ 512 → points ≡ run_of t reversal_table true (halves_of t x)
      → after ≡ map narrow_of points → overs ≡ over_count points
      → record { answer = 0; overs = overs; out = after } ≡ inverse_with_of t s x out
  unfolding samples_with overs_with
  inverse_made x out points after overs hx ho p a o = rw (a, o, p) (sym (inverse-with-served t s ht hs x out hx ho))

  pub half_made : (x : List Float) (later : Bool) (out points after : List Float) (overs : ℕ) → length x ≡ 514 → length out ≡ 256 → points ≡ run_of t reversal_table true (halves_of t x)
      → after ≡ half_of_samples later (map narrow_of points) → overs ≡ over_count points
      → record { answer = 0; overs = overs; out = after } ≡ half_with_of t s x later out
  unfolding samples_with overs_with
  half_made x later out points after overs hx ho p a o = rw (a, o, p) (sym (half-with-served t s ht hs x later out hx ho))

no-first : (a b c : Bool) → b ≡ false → (a && (b && c)) ≡ false
no-first true b c e = rw e
no-first false b c e = refl

no-second : (a b c : Bool) → c ≡ false → (a && (b && c)) ≡ false
no-second true true c e = e
no-second true false c e = refl
no-second false b c e = refl

pub forward_refused : (t s x out : List Float) → length out ≢ 514 → record { answer = 2; out = out } ≡ forward_with_of t s x out
unfolding forward_with_of
forward_refused t s x out h = pick_no _ _ _ (no-second _ _ _ (ne_eqb _ _ h)) refl

pub inverse_refused : (t s x out : List Float) → length out ≢ 512 → record { answer = 2; overs = 0; out = out } ≡ inverse_with_of t s x out
unfolding inverse_with_of
inverse_refused t s x out h = pick_no _ _ _ (no-second _ _ _ (ne_eqb _ _ h)) refl

pub half_refused : (t s x : List Float) (later : Bool) (out : List Float) → length x ≢ 514 → record { answer = 2; overs = 0; out = out } ≡ half_with_of t s x later out
unfolding half_with_of
half_refused t s x later out h = pick_no _ _ _ (no-first _ _ _ (ne_eqb _ _ h)) refl

pub half_refused_out : (t s x : List Float) (later : Bool) (out : List Float) → length out ≢ 256 → record { answer = 2; overs = 0; out = out } ≡ half_with_of t s x later out
unfolding half_with_of
half_refused_out t s x later out h = pick_no _ _ _ (no-second _ _ _ (ne_eqb _ _ h)) refl

-- ---- over the crate's own table

pub forward_own : (s x out : List Float) → length recombination ≡ 514 → length s ≡ 1024 → forward_with_of recombination s x out ≡ forward_of x out
unfolding forward_with_of forward_of spectrum_of
forward_own s x out ht hs = rw (lent recombination s ht hs) refl

pub inverse_own : (s x out : List Float) → length recombination ≡ 514 → length s ≡ 1024 → inverse_with_of recombination s x out ≡ inverse_of x out
unfolding inverse_with_of inverse_of samples_of overs_of
inverse_own s x out ht hs = rw (lent recombination s ht hs) refl

-- ---- what a call that is not refused answers, with the recombination table itself

not_refused : (refusal : Refusal) → number_of refusal ≡ 0 → ⊥
not_refused Settings h = omega (arith, h)
not_refused WrongLength h = omega (arith, h)
not_refused UnequalLengths h = omega (arith, h)
not_refused TooManyPairs h = omega (arith, h)
not_refused NoRoom h = omega (arith, h)
not_refused StateOutOfRange h = omega (arith, h)
not_refused NoMark h = omega (arith, h)
not_refused BadHeader h = omega (arith, h)
not_refused CutShort h = omega (arith, h)

is_ok : {A : Type 0} (r : Result A Refusal) → number_in r ≡ 0 → IsOk r
is_ok (Ok v) h = refl
is_ok (Err refusal) h = absurd (not_refused refusal h)

overs_in : (r : Result ℕ Refusal) → (inverted_of r).refusal ≡ 0 → r ≡ Ok (inverted_of r).overs
overs_in (Ok overs) h = refl
overs_in (Err refusal) h = absurd (not_refused refusal h)

module _ (t s : List Float) (ht : length t ≡ 514) (hs : length s ≡ 1024) (e : t ≡ recombination) where
  pub forward_told : {A : Type 0} (x out : List Float) → length x ≡ 512 → length out ≡ 514 → (r : Result A Refusal) {after : List Float}
      → ForwardWith t s x out (number_in r) after
      → IsOk r × (after ≡ spectrum_of x)
  unfolding spectrum_of
  forward_told x out hx ho r w =
      let v = w ∙ forward-with-served t s ht hs x out hx ho in
      (is_ok r (ap (λ (v : Wrote). v.answer) v), ap (λ (v : Wrote). v.out) v ∙ ap (λ (t : List Float). spectrum_with t reversal_table x) e)

  pub half_told : (x : List Float) (later : Bool) (out : List Float) → length x ≡ 514 → length out ≡ 256 → (r : Result ℕ Refusal) {after : List Float}
      → InverseHalfWith t s x later out (inverted_of r) after
      → (r ≡ Ok (overs_of x)) × (after ≡ half_of_samples later (samples_of x)) × (overs_of x ≤ 512)
  half_told x later out hx ho r w =
      let v = w ∙ half-with-served t s ht hs x later out hx ho in
      let told = half-tells t s ht hs e x later out hx ho w in
      (overs_in r (ap (λ (v : Sampled). v.answer) v) ∙ ap Ok told.1, told.0, overs-512 x)
