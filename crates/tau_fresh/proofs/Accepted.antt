-- What a call may count on once it is not refused. Assumes nothing.
--     accepted-state, accepted-pairs, accepted-flush, accepted-settings     refusal 0 says that the state is in range, the buffers fit, and
--                          what is delivered has room; of creation, that the settings are in range and the buffers fit
--     state-accepted, process-accepted, flush-accepted, settings-accepted     and where these hold, the refusal is 0
use mathlib.Core.Path.{◌≡◌, refl, sym}
use mathlib.Core.Bool.{true, false, ◌&&◌}
use Prim.Native.Nat.{ℕ, ◌*◌, ◌≤◌}
use native.Mathlib.Omega.{arith}
use borrow.Author.Tests.{leb-true, le-leb, eqb-true, eqb-false, eq-eqb}
use lib.Dec.{eqb, leb}
use Rattle.laws.specs.Choice.{pick_yes, pick-if, both}
use Rattle.tau_state.specs.Ranges.{ranged_of, Ranged}
use Rattle.tau_state.proofs.Ranged.{ranged-is, ranged-true}
use Rattle.tau_state.specs.declared.state.TauCanceller.{TauCanceller}
use Rattle.tau_fresh.specs.Refusals.{delivers_of, settings_of, sized_of, create_refusal, state_refusal, pairs_refusal, process_refusal, flush_refusal}

-- ---- the state and the lent buffers

-- shadow, output, spectra and powers are the lengths of the lent buffers
pub record Sizes (parts sh ou xs ps : ℕ) : Type 0 where
  pub shadow : sh ≡ 514 * parts
  pub output : ou ≡ 514 * parts
  pub spectra : xs ≡ 514 * parts
  pub powers : ps ≡ 257 * parts

sized-is : (parts sh ou xs ps : ℕ) → sized_of parts sh ou xs ps ≡ true → Sizes parts sh ou xs ps
unfolding sized_of
sized-is parts sh ou xs ps e =
    let p = both (eqb sh (514 * parts)) _ e in
    let q = both (eqb ou (514 * parts)) _ p.1 in
    let r = both (eqb xs (514 * parts)) _ q.1 in
    record { shadow = eqb-true sh _ p.0; output = eqb-true ou _ q.0; spectra = eqb-true xs _ r.0; powers = eqb-true ps _ r.1 }

sized-true : (parts sh ou xs ps : ℕ) → Sizes parts sh ou xs ps → sized_of parts sh ou xs ps ≡ true
unfolding sized_of
sized-true parts sh ou xs ps h =
    simp (eq-eqb sh (514 * parts) h.shadow, eq-eqb ou (514 * parts) h.output, eq-eqb xs (514 * parts) h.spectra, eq-eqb ps (257 * parts) h.powers)

pub record State (s : TauCanceller) (sh ou xs ps : ℕ) : Type 0 where
  pub ranged : Ranged s
  pub sizes : Sizes s.partitions sh ou xs ps

-- Refusal 0 of a reset says that the state is in range and the buffers fit,
pub accepted-state : (s : TauCanceller) (sh ou xs ps : ℕ) → state_refusal s sh ou xs ps ≡ 0 → State s sh ou xs ps
unfolding state_refusal
accepted-state s sh ou xs ps =
    pick-if (λ (x : ℕ). x ≡ 0 → State s sh ou xs ps) (ranged_of s)
    (λ r. pick-if (λ (x : ℕ). x ≡ 0 → State s sh ou xs ps) (sized_of s.partitions sh ou xs ps)
    (λ z _. record { ranged = ranged-is s r; sizes = sized-is s.partitions sh ou xs ps z })
    (λ _ e. absurd (omega (arith, e))))
    (λ _ e. absurd (omega (arith, e)))

-- and nothing else.
pub state-accepted : (s : TauCanceller) (sh ou xs ps : ℕ) → State s sh ou xs ps → state_refusal s sh ou xs ps ≡ 0
unfolding state_refusal
state-accepted s sh ou xs ps h =
    sym (pick_yes _ _ _ (ranged-true s h.ranged) (pick_yes _ _ _ (sized-true s.partitions sh ou xs ps h.sizes) refl))

-- ---- pairs

pub record Pairs (carried near far out : ℕ) : Type 0 where
  pub level : near ≡ far
  pub few : near ≤ 4096
  pub room : delivers_of carried near ≤ out

pairs-fit : (carried near far out : ℕ) → pairs_refusal carried near far out ≡ 0 → Pairs carried near far out
unfolding pairs_refusal
pairs-fit c n f o =
    pick-if (λ (x : ℕ). x ≡ 0 → Pairs c n f o) (eqb n f)
    (λ a. pick-if (λ (x : ℕ). x ≡ 0 → Pairs c n f o) (leb n 4096)
    (λ b. pick-if (λ (x : ℕ). x ≡ 0 → Pairs c n f o) (leb (delivers_of c n) o)
    (λ d _. record { level = eqb-true n f a; few = leb-true n 4096 b; room = leb-true (delivers_of c n) o d })
    (λ _ e. absurd (omega (arith, e))))
    (λ _ e. absurd (omega (arith, e))))
    (λ _ e. absurd (omega (arith, e)))

pairs-accepted : (carried near far out : ℕ) → Pairs carried near far out → pairs_refusal carried near far out ≡ 0
unfolding pairs_refusal
pairs-accepted c n f o h =
    sym (pick_yes _ _ _ (eq-eqb n f h.level) (pick_yes _ _ _ (le-leb n 4096 h.few) (pick_yes _ _ _ (le-leb (delivers_of c n) o h.room) refl)))

clash : {A : Type 0} (x : ℕ) → eqb x 0 ≡ false → x ≡ 0 → A
clash x a e = absurd (eqb-false x 0 a e)

pub record Process (s : TauCanceller) (sh ou xs ps near far out : ℕ) : Type 0 where
  pub state : State s sh ou xs ps
  pub pairs : Pairs s.carried near far out

-- Refusal 0 of a process says besides that near and far are as long, of at most 4,096 samples, and that what it delivers has room,
pub accepted-pairs : (s : TauCanceller) (sh ou xs ps near far out : ℕ) → process_refusal s sh ou xs ps near far out ≡ 0 → Process s sh ou xs ps near far out
unfolding process_refusal
accepted-pairs s sh ou xs ps n f o =
    let first = state_refusal s sh ou xs ps in
    pick-if (λ (x : ℕ). x ≡ 0 → Process s sh ou xs ps n f o) (eqb first 0)
    (λ a e. record { state = accepted-state s sh ou xs ps (eqb-true first 0 a); pairs = pairs-fit s.carried n f o e })
    (λ a e. clash first a e)

-- and nothing else.
pub process-accepted : (s : TauCanceller) (sh ou xs ps near far out : ℕ) → Process s sh ou xs ps near far out → process_refusal s sh ou xs ps near far out ≡ 0
unfolding process_refusal
process-accepted s sh ou xs ps n f o h =
    sym (pick_yes _ _ _ (eq-eqb _ 0 (state-accepted s sh ou xs ps h.state)) (sym (pairs-accepted s.carried n f o h.pairs)))

pub record Flush (s : TauCanceller) (sh ou xs ps out : ℕ) : Type 0 where
  pub state : State s sh ou xs ps
  pub room : s.carried ≤ out

-- Refusal 0 of a flush says besides that what is carried has room,
pub accepted-flush : (s : TauCanceller) (sh ou xs ps out : ℕ) → flush_refusal s sh ou xs ps out ≡ 0 → Flush s sh ou xs ps out
unfolding flush_refusal
accepted-flush s sh ou xs ps o =
    let first = state_refusal s sh ou xs ps in
    pick-if (λ (x : ℕ). x ≡ 0 → Flush s sh ou xs ps o) (eqb first 0)
    (λ a. pick-if (λ (x : ℕ). x ≡ 0 → Flush s sh ou xs ps o) (leb s.carried o)
    (λ b _. record { state = accepted-state s sh ou xs ps (eqb-true first 0 a); room = leb-true s.carried o b })
    (λ _ e. absurd (omega (arith, e))))
    (λ a e. clash first a e)

-- and nothing else.
pub flush-accepted : (s : TauCanceller) (sh ou xs ps out : ℕ) → Flush s sh ou xs ps out → flush_refusal s sh ou xs ps out ≡ 0
unfolding flush_refusal
flush-accepted s sh ou xs ps o h =
    sym (pick_yes _ _ _ (eq-eqb _ 0 (state-accepted s sh ou xs ps h.state)) (pick_yes _ _ _ (le-leb s.carried o h.room) refl))

-- ---- creation's settings

pub record Settings (parts sh ou xs ps : ℕ) : Type 0 where
  pub some : 1 ≤ parts
  pub most : parts ≤ 32
  pub sizes : Sizes parts sh ou xs ps

-- Refusal 0 of creation says that there are 1 to 32 partitions, and that the buffers fit,
pub accepted-settings : (parts sh ou xs ps : ℕ) → create_refusal parts sh ou xs ps ≡ 0 → Settings parts sh ou xs ps
unfolding create_refusal settings_of
accepted-settings p sh ou xs ps =
    pick-if (λ (x : ℕ). x ≡ 0 → Settings p sh ou xs ps) (leb 1 p && leb p 32)
    (λ a. pick-if (λ (x : ℕ). x ≡ 0 → Settings p sh ou xs ps) (sized_of p sh ou xs ps)
    (λ z _. let q = both (leb 1 p) _ a in record { some = leb-true 1 p q.0; most = leb-true p 32 q.1; sizes = sized-is p sh ou xs ps z })
    (λ _ e. absurd (omega (arith, e))))
    (λ _ e. absurd (omega (arith, e)))

-- and nothing else.
pub settings-accepted : (parts sh ou xs ps : ℕ) → Settings parts sh ou xs ps → create_refusal parts sh ou xs ps ≡ 0
unfolding create_refusal settings_of
settings-accepted p sh ou xs ps h =
    sym (pick_yes _ _ _ (simp (le-leb 1 p h.some, le-leb p 32 h.most)) (pick_yes _ _ _ (sized-true p sh ou xs ps h.sizes) refl))
