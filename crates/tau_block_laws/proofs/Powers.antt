-- Kept powers through a block (K10). Assumes nothing.
--     block-true       a block keeps them true
--     block-younger, younger-none, younger-all     false ones are gone after as many blocks as there are slots
--     block-squared    and is then the block that squares the spectra
--     block-factor     so its step factor is 0.02 to 1
--     squared-blind    that one reads no kept power
use mathlib.Core.Path.{◌≡◌, refl, sym, ap, subst}
use mathlib.Core.List.{List}
use mathlib.Core.Logic.{◌⊎◌, inl, inr}
use Prim.Native.Nat.{ℕ, suc, ◌+◌, ◌*◌, ◌≤◌, ◌<◌}
use native.Mathlib.Omega.{arith}
use borrow.Author.Tests.{eqb-true}
use lib.Dec.{eqb}
use lib.Ieee.{Float, nan}
use lib.ListN.{length, get_or}
use Rattle.laws.specs.Choice.{lt-or-ge, pick-if}
use Rattle.fft.specs.Calls.{spectrum_of}
use Rattle.fft.proofs.Sizes.{spectrum-514}
use Rattle.tau_state.specs.declared.state.Far.{Far}
use Rattle.tau_spectra.specs.Far.{hear_far}
use Rattle.tau_spectra.specs.Powers.{far_power_to, TrueSlot, TruePowers}
use Rattle.tau_spectra.specs.Ring.{next_slot}
use Rattle.tau_spectra.specs.Windows.{slid}
use Rattle.tau_spectra.proofs.True.{heard-slot, kept-sum}
use Rattle.tau_update.specs.Update.{factor_of}
use Rattle.tau_block.specs.Block.{Block, Engine, Ran, ran_on, heard_in, run_block}
use Rattle.tau_block_laws.specs.Bounds.{Factor}
use Rattle.tau_block_laws.specs.Powers.{True, squared_block, with_powers}
use Rattle.tau_block_laws.proofs.Bounds.{step-factor}
use Rattle.tau_block_laws.proofs.Kept.{Sized, next-slot}

-- what is heard writes one slot of both buffers
heard-slots : (parts : ℕ) (f : Far) (x xs ps : List Float) → f.head < parts → length xs ≡ 514 * parts → length ps ≡ 257 * parts
    → (slot : ℕ) → slot < parts → ((slot ≡ next_slot parts f.head → ⊥) → TrueSlot slot xs ps)
    → TrueSlot slot (hear_far parts f x xs ps).spectra (hear_far parts f x xs ps).powers
unfolding hear_far
heard-slots parts f x xs ps l ex ep =
    heard-slot parts (next_slot parts f.head) xs ps (spectrum_of (slid f.window x)) (next-slot parts f.head l) ex ep (spectrum-514 (slid f.window x))

-- ---- the slots that the last k blocks wrote, counted back from the head around the ring

abbrev pub Young : ℕ → ℕ → ℕ → ℕ → Type 0
Young k parts head slot = ((slot ≤ head) × (head < slot + k)) ⊎ ((head < slot) × (head + parts < slot + k))

pub record Younger (k : ℕ) (e : Engine) : Type 0 where
  pub each : (slot : ℕ) → slot < e.state.partitions → Young k e.state.partitions e.state.far.head slot → TrueSlot slot e.spectra e.powers

-- of no block, none;
pub younger-none : (e : Engine) → Younger 0 e
younger-none e = record { each = λ slot h y. none slot h y }
  where
    none : (slot : ℕ) → slot < e.state.partitions → Young 0 e.state.partitions e.state.far.head slot → TrueSlot slot e.spectra e.powers
    none slot h (inl y) = absurd (omega (arith, y.0, y.1))
    none slot h (inr y) = absurd (omega (arith, h, y.0, y.1))

-- of as many blocks as there are slots, all;
pub younger-all : (e : Engine) → e.state.far.head < e.state.partitions → Younger e.state.partitions e → True e
younger-all e l t = record { each = λ slot h. t.each slot h (side slot h (lt-or-ge e.state.far.head slot)) }
  where
    side : (slot : ℕ) → slot < e.state.partitions → (e.state.far.head < slot) ⊎ (slot ≤ e.state.far.head)
        → Young e.state.partitions e.state.partitions e.state.far.head slot
    side slot h (inl g) = inr (g, omega arith)
    side slot h (inr g) = inl (g, omega arith)

-- and each but the newest was so before that one.
young-before : (k parts head slot : ℕ) → slot < parts → Young (suc k) parts (next_slot parts head) slot → (slot ≡ next_slot parts head → ⊥) → Young k parts head slot
unfolding next_slot
young-before k parts head slot h =
    pick-if (λ (next : ℕ). Young (suc k) parts next slot → (slot ≡ next → ⊥) → Young k parts head slot) (eqb (head + 1) parts)
    (λ d. around (eqb-true (head + 1) parts d)) (λ _. onward)
  where
    around : head + 1 ≡ parts → Young (suc k) parts 0 slot → (slot ≡ 0 → ⊥) → Young k parts head slot
    around last (inl y) other = absurd (other (omega (arith, y.0)))
    around last (inr y) other = inl (omega (arith, h, last), omega (arith, y.1, last))

    onward : Young (suc k) parts (head + 1) slot → (slot ≡ head + 1 → ⊥) → Young k parts head slot
    onward (inl y) other = inl (omega (arith, y.0, other), omega (arith, y.1))
    onward (inr y) other = inr (omega (arith, y.0), omega (arith, y.1))

-- ---- a block

-- its far power is the sum of the powers that it leaves
heard-sum : (parts : ℕ) (f : Far) (x xs ps : List Float)
    → TruePowers parts (hear_far parts f x xs ps).spectra (hear_far parts f x xs ps).powers
    → (hear_far parts f x xs ps).far_power ≡ far_power_to (hear_far parts f x xs ps).spectra parts
unfolding hear_far
heard-sum parts f x xs ps t = kept-sum parts _ _ t

module _ (e : Engine) (far : List Float) (l : e.state.far.head < e.state.partitions) (z : Sized e.state.partitions e) where
  after-slot : (slot : ℕ) → slot < e.state.partitions → ((slot ≡ next_slot e.state.partitions e.state.far.head → ⊥) → TrueSlot slot e.spectra e.powers)
      → TrueSlot slot (heard_in e far).spectra (heard_in e far).powers
  after-slot = heard-slots e.state.partitions e.state.far far e.spectra e.powers l z.spectra z.powers

  -- the slots that the last blocks wrote, and the one that this block writes
  pub block-younger : {k : ℕ} → Younger k e → (b : Block) → Younger (suc k) (run_block e far b).engine
  unfolding run_block hear_far
  block-younger {k} t b = record {
    each = λ slot h y. after-slot slot h (λ other. t.each slot h (young-before k e.state.partitions e.state.far.head slot h y other));
  }

module _ (e : Engine) (far : List Float) (l : e.state.far.head < e.state.partitions) (z : Sized e.state.partitions e) (t : True e) where
  after : TruePowers e.state.partitions (heard_in e far).spectra (heard_in e far).powers
  after = record { each = λ slot h. after-slot e far l z slot h (λ _. t.each slot h) }

  squared : (heard_in e far).far_power ≡ far_power_to (heard_in e far).spectra e.state.partitions
  squared = heard-sum e.state.partitions e.state.far far e.spectra e.powers after

  pub block-true : (b : Block) → True (run_block e far b).engine
  unfolding run_block
  block-true b = after

  pub block-squared : (b : Block) → run_block e far b ≡ squared_block e far b
  unfolding run_block squared_block
  block-squared b =
      let heard = heard_in e far in
      ap (λ (p : List Float). ran_on e (record { far = heard.far; active = heard.active; spectra = heard.spectra; powers = heard.powers; far_power = p }) b) squared

  pub block-factor : (means : List Float) (k : ℕ) → Factor (factor_of (get_or means k nan) (get_or (heard_in e far).far_power k nan))
  block-factor means k =
      subst (λ (p : List Float). Factor (factor_of (get_or means k nan) (get_or p k nan))) (sym squared)
      (step-factor (heard_in e far).spectra means e.state.partitions k)

pub squared-blind : (e : Engine) (far : List Float) (b : Block) (ps : List Float)
    → let r = squared_block (with_powers e ps) far b in
    ◌≡◌ {A = Ran} (record { engine = with_powers r.engine (squared_block e far b).engine.powers; block = r.block; told = r.told }) (squared_block e far b)
unfolding squared_block hear_far
squared-blind e far b ps = refl
