-- Demand 1: "Any samples, lengths, settings or stored state may arrive. Bad ones get refusals 1 to 6 .. in its order, deliver nothing and
-- change no buffer and no state." Statements; proved in proofs/Demand1.antt.
use Rattle.std.specs.Prelude.{◌≡◌, Bool, true, false, ◌&&◌, List, [], ◌∷◌, ◌++◌, ℕ, T, eqb, leb, Float, length}
use Rattle.laws.specs.Choice.{pick}
use Rattle.complex_fft.specs.Calls.{complex_of}
use Rattle.fft.specs.Calls.{forward_of, inverse_of, forward_with_of, inverse_with_of, half_with_of}
use Rattle.rho_sample.specs.Sample as sample
use Rattle.rho.specs.Calls as rho
use Rattle.rho_state.specs.State as rho_states
use Rattle.tau_state.specs.Ranges.{ranged_of}
use Rattle.tau_state.specs.declared.state.TauCanceller.{TauCanceller}
use Rattle.tau_fresh.specs.Fresh.{empty_of}
use Rattle.tau_frame.specs.Pairs.{Engine, delivers_of}
use Rattle.tau.specs.Calls as tau

-- A test of the table, and the number that a call gets where it fails and none before it does.
pub record Test : Type 0 where
  pub holds : Bool
  pub number : ℕ

abbrev pub test : Bool → ℕ → Test
test b n = record { holds = b; number = n }

-- The answer: the number of the first test that fails, and 0 where none does.
unfoldable pub first_of : List Test → ℕ
first_of [] = 0
first_of (r ∷ rs) = pick r.holds (first_of rs) r.number

-- every test of a list holds
abbrev pub Holding : List Test → Type 0
Holding [] = T true
Holding (r ∷ rs) = (r.holds ≡ true) × Holding rs

-- "given exactly when": 0 where every test holds, and a test's number where those before it hold and it fails
abbrev pub Exactly : Type 0
Exactly =
    ((rs : List Test) → Holding rs → first_of rs ≡ 0)
    × ((before after : List Test) (r : Test) → Holding before → r.holds ≡ false → first_of (before ++ (r ∷ after)) ≡ r.number)

-- ---- the real transform: "(512 samples, 514 spectrum numbers) only 2", with nothing written

abbrev pub TransformRefuses : Type 0
TransformRefuses = (x out : List Float)
    → ((forward_of x out).answer ≡ first_of (test (eqb (length x) 512 && eqb (length out) 514) 2 ∷ []))
    × ((inverse_of x out).answer ≡ first_of (test (eqb (length x) 514 && eqb (length out) 512) 2 ∷ []))
    × (((forward_of x out).answer ≡ 0 → ⊥) → (forward_of x out).out ≡ out)
    × (((inverse_of x out).answer ≡ 0 → ⊥) → (inverse_of x out).out ≡ out)

-- the transform of 256 points, 512 numbers in place, likewise
abbrev pub ComplexRefuses : Type 0
ComplexRefuses = (inverse : Bool) (points : List Float)
    → ((complex_of inverse points).answer ≡ first_of (test (eqb (length points) 512) 2 ∷ []))
    × (((complex_of inverse points).answer ≡ 0 → ⊥) → (complex_of inverse points).out ≡ points)

-- and the forms over a lent table of 514 numbers and a lent scratch of 1,024
abbrev pub lent : List Float → List Float → Bool
lent table scratch = eqb (length table) 514 && eqb (length scratch) 1024

abbrev pub LentRefuses : Type 0
LentRefuses = (t s x out : List Float) (later : Bool)
    → ((forward_with_of t s x out).answer ≡ first_of (test (lent t s && (eqb (length x) 512 && eqb (length out) 514)) 2 ∷ []))
    × ((inverse_with_of t s x out).answer ≡ first_of (test (lent t s && (eqb (length x) 514 && eqb (length out) 512)) 2 ∷ []))
    × ((half_with_of t s x later out).answer ≡ first_of (test (lent t s && (eqb (length x) 514 && eqb (length out) 256)) 2 ∷ []))
    × (((forward_with_of t s x out).answer ≡ 0 → ⊥) → (forward_with_of t s x out).out ≡ out)
    × (((inverse_with_of t s x out).answer ≡ 0 → ⊥) → (inverse_with_of t s x out).out ≡ out)
    × (((half_with_of t s x later out).answer ≡ 0 → ⊥) → (half_with_of t s x later out).out ≡ out)

-- ---- TauCanceller

abbrev pub tau_sized : ℕ → List Float → List Float → List Float → List Float → Bool
tau_sized parts sh ou xs ps = tau.sized_of parts (length sh) (length ou) (length xs) (length ps)

-- creation 1, 2
abbrev pub TauCreateRefuses : Type 0
TauCreateRefuses = (parts : ℕ) (flag : Bool) (sh ou xs ps : List Float)
    → (tau.create_of parts flag sh ou xs ps).answer.refusal ≡ first_of (test (tau.settings_of parts) 1 ∷ test (tau_sized parts sh ou xs ps) 2 ∷ [])

-- process 6, 2, 3, 4, 5
abbrev pub TauProcessRefuses : Type 0
TauProcessRefuses = (e : Engine) (near far out : List Float)
    → (tau.process_of e near far out).answer.refusal ≡ first_of (
    test (ranged_of e.state) 6
    ∷ test (tau_sized e.state.partitions e.shadow e.output e.spectra e.powers) 2
    ∷ test (eqb (length near) (length far)) 3
    ∷ test (leb (length near) 4096) 4
    ∷ test (leb (delivers_of e.state.carried (length near)) (length out)) 5
    ∷ [])

-- flush 6, 2, 5
abbrev pub TauFlushRefuses : Type 0
TauFlushRefuses = (e : Engine) (out : List Float)
    → (tau.flush_of e out).answer.refusal ≡ first_of (
    test (ranged_of e.state) 6
    ∷ test (tau_sized e.state.partitions e.shadow e.output e.spectra e.powers) 2
    ∷ test (leb e.state.carried (length out)) 5
    ∷ [])

-- reset 6, 2
abbrev pub TauResetRefuses : Type 0
TauResetRefuses = (e : Engine)
    → (tau.reset_of e).answer.refusal ≡ first_of (
    test (ranged_of e.state) 6 ∷ test (tau_sized e.state.partitions e.shadow e.output e.spectra e.powers) 2 ∷ [])

-- "returns its number, zero delivered and the state as given, and writes nothing": a refused call is one that hands all back
abbrev pub TauUntouched : Type 0
TauUntouched = (e : Engine) (near far out : List Float)
    → (((tau.process_of e near far out).answer.refusal ≡ 0 → ⊥) → tau.process_of e near far out ≡ tau.refused_of (tau.process_of e near far out).answer.refusal e out)
    × (((tau.flush_of e out).answer.refusal ≡ 0 → ⊥) → tau.flush_of e out ≡ tau.refused_of (tau.flush_of e out).answer.refusal e out)

-- creation, of which "its state is then all zero", and reset
abbrev pub unbegun_of : ℕ → TauCanceller → List Float → List Float → List Float → List Float → tau.Begun
unbegun_of refusal s sh ou xs ps = record { answer = record { refusal = refusal; state = s }; shadow = sh; output = ou; spectra = xs; powers = ps }

abbrev pub TauUnbegun : Type 0
TauUnbegun = (parts : ℕ) (flag : Bool) (sh ou xs ps : List Float) (e : Engine)
    → (((tau.create_of parts flag sh ou xs ps).answer.refusal ≡ 0 → ⊥)
    → tau.create_of parts flag sh ou xs ps ≡ unbegun_of (tau.create_of parts flag sh ou xs ps).answer.refusal empty_of sh ou xs ps)
    × (((tau.reset_of e).answer.refusal ≡ 0 → ⊥)
    → tau.reset_of e ≡ unbegun_of (tau.reset_of e).answer.refusal e.state e.shadow e.output e.spectra e.powers)

-- ---- RhoCanceller

abbrev pub rho_sized : ℕ → List Float → List Float → Bool
rho_sized taps w h = rho.sized_of taps (length w) (length h)

-- creation 1, 2
abbrev pub RhoCreateRefuses : Type 0
RhoCreateRefuses = (rate tail : ℕ) (w h : List Float)
    → (rho.create_of rate tail w h).answer.refusal ≡ first_of (test (rho.settings_of rate tail) 1 ∷ test (rho_sized (rho_states.taps_of rate tail) w h) 2 ∷ [])

-- process 6, 2, 3, 4, 5
abbrev pub RhoProcessRefuses : Type 0
RhoProcessRefuses = (e : sample.Engine) (near far out : List Float)
    → (rho.process_of e near far out).answer.refusal ≡ first_of (
    test (rho.ranged_of e.state) 6
    ∷ test (rho_sized e.state.taps e.weights e.history) 2
    ∷ test (eqb (length near) (length far)) 3
    ∷ test (leb (length near) 4096) 4
    ∷ test (leb (length near) (length out)) 5
    ∷ [])

-- flush 6, 2 (it delivers nothing, so 5 never applies); reset 6, 2
abbrev pub RhoStateRefuses : Type 0
RhoStateRefuses = (e : sample.Engine)
    → ((rho.flush_of e).answer.refusal ≡ first_of (test (rho.ranged_of e.state) 6 ∷ test (rho_sized e.state.taps e.weights e.history) 2 ∷ []))
    × ((rho.reset_of e).answer.refusal ≡ first_of (test (rho.ranged_of e.state) 6 ∷ test (rho_sized e.state.taps e.weights e.history) 2 ∷ []))

-- a refused process hands all back, and a flush, accepted or not
abbrev pub RhoUntouched : Type 0
RhoUntouched = (e : sample.Engine) (near far out : List Float)
    → (((rho.process_of e near far out).answer.refusal ≡ 0 → ⊥)
    → rho.process_of e near far out ≡ rho.untouched_of (rho.process_of e near far out).answer.refusal e out)
    × (rho.flush_of e ≡ rho.untouched_of (rho.flush_of e).answer.refusal e [])

-- and so do a refused creation, whose state is all zero, and a refused reset
abbrev pub RhoUnbegun : Type 0
RhoUnbegun = (rate tail : ℕ) (w h : List Float) (e : sample.Engine)
    → (((rho.create_of rate tail w h).answer.refusal ≡ 0 → ⊥)
    → rho.create_of rate tail w h
    ≡ record { answer = record { refusal = (rho.create_of rate tail w h).answer.refusal; state = rho_states.empty_of }; weights = w; history = h })
    × (((rho.reset_of e).answer.refusal ≡ 0 → ⊥)
    → rho.reset_of e ≡ record { answer = record { refusal = (rho.reset_of e).answer.refusal; state = e.state }; weights = e.weights; history = e.history })
