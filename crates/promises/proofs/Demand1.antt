-- Demand 1, from what each crate proves of its calls. Assumes nothing.
use mathlib.Core.Path.{◌≡◌, refl, sym, ap, ◌∙◌}
use mathlib.Core.Bool.{Bool, true, false}
use mathlib.Core.List.{List, [], ◌∷◌, ◌++◌}
use Prim.Native.Nat.{ℕ}
use lib.Dec.{eqb}
use lib.Ieee.{Float}
use Rattle.laws.specs.Choice.{pick, pick_yes, pick_no, pick-if}
use Rattle.complex_fft.specs.Calls.{Wrote, complex_of}
use Rattle.fft.specs.Calls.{Sampled, lent_of, forward_of, inverse_of, forward_with_of, inverse_with_of, half_with_of}
use Rattle.rho.specs.Calls as rho
use Rattle.rho_state.specs.State as rho_states
use Rattle.rho_streams.proofs.Counts as rho_counts
use Rattle.tau_state.specs.Ranges.{ranged_of}
use Rattle.tau_fresh.specs.Fresh.{empty_of}
use Rattle.tau.specs.Calls as tau
use Rattle.tau.proofs.Accepted as accepted
use Rattle.promises.specs.Demand1.{Test, first_of, Holding, Exactly, TransformRefuses, ComplexRefuses, LentRefuses, TauCreateRefuses, TauProcessRefuses, TauFlushRefuses, TauResetRefuses, TauUntouched, unbegun_of, TauUnbegun, RhoCreateRefuses, RhoProcessRefuses, RhoStateRefuses, RhoUntouched, RhoUnbegun}

-- ---- the table

all_hold : (rs : List Test) → Holding rs → first_of rs ≡ 0
unfolding first_of
all_hold [] h = refl
all_hold (r ∷ rs) h = sym (pick_yes _ _ _ h.0 (sym (all_hold rs h.1)))

one-fails : (before after : List Test) (r : Test) → Holding before → r.holds ≡ false → first_of (before ++ (r ∷ after)) ≡ r.number
unfolding first_of
one-fails [] after r h f = sym (pick_no _ _ _ f refl)
one-fails (b ∷ bs) after r h f = sym (pick_yes _ _ _ h.0 (sym (one-fails bs after r h.1 f)))

pub exactly : Exactly
exactly = (all_hold, one-fails)

-- a test of the state and one of the buffers, and then what comes behind them
two : (a b : Bool) (x : ℕ) → pick (eqb (pick a (pick b 0 2) 6) 0) x (pick a (pick b 0 2) 6) ≡ pick a (pick b x 2) 6
unfolding pick
two true true x = refl
two true false x = refl
two false b x = refl

-- ---- the real transform

-- a call whose answer is 0 where the lengths are right, and else 2 with nothing written
-- a call that leaves `done` or, refused, `kept`
module _ {W : Type 0} (answer : W → ℕ) (out : W → List Float) (b : Bool) (done kept : W) (none : answer done ≡ 0) (two : answer kept ≡ 2) where
  abbrev call : W
  call = pick b done kept

  answers : answer call ≡ first_of (record { holds = b; number = 2 } ∷ [])
  unfolding first_of
  answers = pick-if (λ (w : W). answer w ≡ pick b 0 2) b (λ h. pick_yes _ _ _ h none) (λ h. pick_no _ _ _ h two)

  leaves : (answer call ≡ 0 → ⊥) → out call ≡ out kept
  leaves = pick-if (λ (w : W). (answer w ≡ 0 → ⊥) → out w ≡ out kept) b (λ _ h. absurd (h none)) (λ _ _. refl)

module _ (b : Bool) where
  wrote : (done kept : Wrote) → done.answer ≡ 0 → kept.answer ≡ 2 → ((pick b done kept).answer ≡ first_of (record { holds = b; number = 2 } ∷ [])) × (((pick b done kept).answer ≡ 0 → ⊥) → (pick b done kept).out ≡ kept.out)
  wrote d k z t = (answers (λ w. w.answer) (λ w. w.out) b d k z t, leaves (λ w. w.answer) (λ w. w.out) b d k z t)

  sampled : (done kept : Sampled) → done.answer ≡ 0 → kept.answer ≡ 2 → ((pick b done kept).answer ≡ first_of (record { holds = b; number = 2 } ∷ [])) × (((pick b done kept).answer ≡ 0 → ⊥) → (pick b done kept).out ≡ kept.out)
  sampled d k z t = (answers (λ w. w.answer) (λ w. w.out) b d k z t, leaves (λ w. w.answer) (λ w. w.out) b d k z t)

pub transform-refuses : TransformRefuses
unfolding forward_of inverse_of
transform-refuses x out = let f = wrote _ _ _ refl refl in let i = sampled _ _ _ refl refl in (f.0, i.0, f.1, i.1)

pub complex-refuses : ComplexRefuses
unfolding complex_of
complex-refuses inverse points = wrote _ _ _ refl refl

pub lent-refuses : LentRefuses
unfolding forward_with_of inverse_with_of half_with_of lent_of
lent-refuses t s x out later =
    let f = wrote _ _ _ refl refl in
    let i = sampled _ _ _ refl refl in
    let h = sampled _ _ _ refl refl in (f.0, i.0, h.0, f.1, i.1, h.1)

-- ---- TauCanceller

pub tau-create-refuses : TauCreateRefuses
unfolding first_of tau.create_refusal
tau-create-refuses parts flag sh ou xs ps = accepted.create-answers parts flag sh ou xs ps

pub tau-process-refuses : TauProcessRefuses
unfolding first_of tau.process_refusal tau.state_refusal tau.pairs_refusal
tau-process-refuses e near far out = accepted.process-answers e near far out ∙ two (ranged_of e.state) _ _

pub tau-flush-refuses : TauFlushRefuses
unfolding first_of tau.flush_refusal tau.state_refusal
tau-flush-refuses e out = accepted.flush-answers e out ∙ two (ranged_of e.state) _ _

pub tau-reset-refuses : TauResetRefuses
unfolding first_of tau.state_refusal
tau-reset-refuses e = accepted.reset-answers e

pub tau-untouched : TauUntouched
tau-untouched e near far out =
    let p = accepted.process-answers e near far out in
    let f = accepted.flush-answers e out in (
      λ h. accepted.process-refused e near far out (λ z. h (p ∙ z)) ∙ ap (λ (n : ℕ). tau.refused_of n e out) (sym p),
      λ h. accepted.flush-refused e out (λ z. h (f ∙ z)) ∙ ap (λ (n : ℕ). tau.refused_of n e out) (sym f),
    )

pub tau-unbegun : TauUnbegun
tau-unbegun parts flag sh ou xs ps e =
    let c = accepted.create-answers parts flag sh ou xs ps in
    let r = accepted.reset-answers e in (
      λ h. accepted.create-refused parts flag sh ou xs ps (λ z. h (c ∙ z)) ∙ ap (λ (n : ℕ). unbegun_of n empty_of sh ou xs ps) (sym c),
      λ h. accepted.reset-refused e (λ z. h (r ∙ z)) ∙ ap (λ (n : ℕ). unbegun_of n e.state e.shadow e.output e.spectra e.powers) (sym r),
    )

-- ---- RhoCanceller

pub rho-create-refuses : RhoCreateRefuses
unfolding first_of rho.create_refusal
rho-create-refuses rate tail w h = rho_counts.create-answers rate tail w h

pub rho-process-refuses : RhoProcessRefuses
unfolding first_of rho.process_refusal rho.state_refusal rho.pairs_refusal
rho-process-refuses e near far out = rho_counts.process-answers e near far out ∙ two (rho.ranged_of e.state) _ _

pub rho-state-refuses : RhoStateRefuses
unfolding first_of rho.state_refusal
rho-state-refuses e = (rho_counts.flush-answers e, rho_counts.reset-answers e)

pub rho-untouched : RhoUntouched
rho-untouched e near far out =
    let p = rho_counts.process-answers e near far out in
    (λ h. rho_counts.process-refused e near far out (λ z. h (p ∙ z)) ∙ ap (λ (n : ℕ). rho.untouched_of n e out) (sym p), rho_counts.flush-untouched e ∙ ap (λ (n : ℕ). rho.untouched_of n e []) (sym (rho_counts.flush-answers e)))

pub rho-unbegun : RhoUnbegun
rho-unbegun rate tail w h e =
    let c = rho_counts.create-answers rate tail w h in
    let r = rho_counts.reset-answers e in (
      λ n. rho_counts.create-refused rate tail w h n ∙ ap (λ (k : ℕ). record { answer = record { refusal = k; state = rho_states.empty_of }; weights = w; history = h }) (sym c),
      λ n. rho_counts.reset-refused e n ∙ ap (λ (k : ℕ). record { answer = record { refusal = k; state = e.state }; weights = e.weights; history = e.history }) (sym r),
    )
