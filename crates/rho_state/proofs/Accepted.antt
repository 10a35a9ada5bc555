-- What a call may count on once it is not refused. Assumes nothing.
--     accepted-state, accepted-pairs     refusal 0 says that the state is in range, the buffers fit, and the pairs have room
--     accepted-settings                  the same of creation
--     accepted                           the three, for `using`
use mathlib.Core.Path.{◌≡◌}
use mathlib.Core.Bool.{true, false, ◌&&◌}
use Prim.Native.Nat.{ℕ, ◌*◌, ◌/◌, ◌≤◌, ◌<◌}
use native.Mathlib.Omega.{arith}
use borrow.Author.Tests.{leb-true, ltb-true, ltb-false, eqb-true, eqb-false}
use lib.Dec.{eqb, ltb, leb}
use Rattle.laws.specs.Choice.{pick-if, both}
use Rattle.rho_state.specs.declared.state.RhoCanceller.{RhoCanceller}
use Rattle.rho_state.specs.State.{taps_of}
use Rattle.rho_state.specs.Refusals.{settings_of, sized_of, ranged_of, create_refusal, state_refusal, pairs_refusal, process_refusal}

pub record Sized (taps w h : ℕ) : Type 0 where
  pub weights : w ≡ taps
  pub history : h ≡ taps

sized-is : (taps weights history : ℕ) → sized_of taps weights history ≡ true → Sized taps weights history
unfolding sized_of
sized-is taps w h e = let p = both (eqb w taps) (eqb h taps) e in record { weights = eqb-true w taps p.0; history = eqb-true h taps p.1 }

pub record Ranged (s : RhoCanceller) : Type 0 where
  pub some : 1 ≤ s.taps
  pub most : s.taps ≤ 8192
  pub ring : s.pos < s.taps
  pub least : 120 ≤ s.hangover_samples
  pub longest : s.hangover_samples ≤ 720
  pub left : s.hangover_remaining ≤ s.hangover_samples

ranged-is : (s : RhoCanceller) → ranged_of s ≡ true → Ranged s
unfolding ranged_of
ranged-is s e =
    let H = s.hangover_samples in
    let p = both (leb 1 s.taps) _ e in
    let q = both (leb s.taps 8192) _ p.1 in
    let r = both (ltb s.pos s.taps) _ q.1 in
    let t = both (leb 120 H) _ r.1 in
    let u = both (leb H 720) _ t.1 in
    record {
      some = leb-true 1 s.taps p.0;
      most = leb-true s.taps 8192 q.0;
      ring = ltb-true s.pos s.taps r.0;
      least = leb-true 120 H t.0;
      longest = leb-true H 720 u.0;
      left = leb-true s.hangover_remaining H u.1;
    }

pub record State (s : RhoCanceller) (w h : ℕ) : Type 0 where
  pub ranged : Ranged s
  pub sized : Sized s.taps w h

pub accepted-state : (s : RhoCanceller) (weights history : ℕ) → state_refusal s weights history ≡ 0 → State s weights history
unfolding state_refusal
accepted-state s w h =
    pick-if (λ (x : ℕ). x ≡ 0 → State s w h) (ranged_of s)
    (λ r. pick-if (λ (x : ℕ). x ≡ 0 → State s w h) (sized_of s.taps w h)
    (λ z _. record { ranged = ranged-is s r; sized = sized-is s.taps w h z })
    (λ _ e. absurd (omega (arith, e))))
    (λ _ e. absurd (omega (arith, e)))

pub record Pairs (near far out : ℕ) : Type 0 where
  pub level : near ≡ far
  pub few : near ≤ 4096
  pub room : near ≤ out

pairs-fit : (near far out : ℕ) → pairs_refusal near far out ≡ 0 → Pairs near far out
unfolding pairs_refusal
pairs-fit n f o =
    pick-if (λ (x : ℕ). x ≡ 0 → Pairs n f o) (eqb n f)
    (λ a. pick-if (λ (x : ℕ). x ≡ 0 → Pairs n f o) (leb n 4096)
    (λ b. pick-if (λ (x : ℕ). x ≡ 0 → Pairs n f o) (leb n o)
    (λ d _. record { level = eqb-true n f a; few = leb-true n 4096 b; room = leb-true n o d })
    (λ _ e. absurd (omega (arith, e))))
    (λ _ e. absurd (omega (arith, e))))
    (λ _ e. absurd (omega (arith, e)))

pub record Process (s : RhoCanceller) (weights history near far out : ℕ) : Type 0 where
  pub state : State s weights history
  pub pairs : Pairs near far out

pub accepted-pairs : (s : RhoCanceller) (weights history near far out : ℕ) → process_refusal s weights history near far out ≡ 0 → Process s weights history near far out
unfolding process_refusal
accepted-pairs s w h n f o =
    let first = state_refusal s w h in
    pick-if (λ (x : ℕ). x ≡ 0 → Process s w h n f o) (eqb first 0)
    (λ a e. record { state = accepted-state s w h (eqb-true first 0 a); pairs = pairs-fit n f o e })
    (λ a e. absurd (clash first a e))
  where
    clash : (x : ℕ) → eqb x 0 ≡ false → x ≡ 0 → ⊥
    clash x a e = eqb-false x 0 a e

pub record Settings (rate tail weights history : ℕ) : Type 0 where
  pub slow : rate ≤ 48000
  pub some : 1 ≤ taps_of rate tail
  pub sized : Sized (taps_of rate tail) weights history

-- at least one tap
pub taps-some : (rate tail : ℕ) → 1 ≤ taps_of rate tail
unfolding taps_of
taps-some rate tail = pick-if (λ (x : ℕ). 1 ≤ x) (ltb (rate * tail / 1000) 1) (λ _. omega arith) (λ e. ltb-false (rate * tail / 1000) 1 e)

pub accepted-settings : (rate tail weights history : ℕ) → create_refusal rate tail weights history ≡ 0 → Settings rate tail weights history
unfolding create_refusal settings_of
accepted-settings r t w h =
    pick-if (λ (x : ℕ). x ≡ 0 → Settings r t w h) (leb 8000 r && (leb r 48000 && (leb t 1000 && leb (taps_of r t) 8192)))
    (λ a. pick-if (λ (x : ℕ). x ≡ 0 → Settings r t w h) (sized_of (taps_of r t) w h)
    (λ z _. let p = both (leb 8000 r) _ a in let q = both (leb r 48000) _ p.1 in record { slow = leb-true r 48000 q.0; some = taps-some r t; sized = sized-is (taps_of r t) w h z })
    (λ _ e. absurd (omega (arith, e))))
    (λ _ e. absurd (omega (arith, e)))

pub ruleset accepted = (
  accepted-state,
  accepted-pairs,
  accepted-settings,
)
