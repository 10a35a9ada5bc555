-- What the rule for silence speaks of: a state and its lent buffers before the first far sound, and the near block that passes.
-- Definitions only, and no contract cites them.
use Rattle.std.specs.Prelude.{◌≡◌, false, List, ℕ, ◌*◌, ◌<◌, Float, length, take}
use Rattle.laws.specs.Kinds.{All, Kept}
use Rattle.numbers.specs.Zeros.{Zero, Plus, Finite, Fits}
use Rattle.tau_state.specs.Constants.{zero64}
use Rattle.tau_state.specs.declared.state.TauCanceller.{TauCanceller}
use Rattle.tau_block.specs.Block.{Ran}

-- a near block: 256 finite f32 samples
pub record Near (near : List Float) : Type 0 where
  pub long : length near ≡ 256
  pub fit : All Fits near
  pub finite : All Finite near

-- Before the first far sound: of both filters every weight is +0.0, and every far sample kept and every number of the far spectra is a
-- zero, of either sign. Nothing is said of what belongs to the microphone.
pub record Silent (s : TauCanceller) (sh ou xs : List Float) : Type 0 where
  pub ring : s.far.head < s.partitions
  pub still : s.far.far_active ≡ false
  pub peak : s.far.far_energy_peak ≡ zero64
  pub window : Kept Zero 512 s.far.window
  pub shadow : Kept Plus (514 * s.partitions) sh
  pub output : Kept Plus (514 * s.partitions) ou
  pub spectra : Kept Zero (514 * s.partitions) xs

-- A block of n valid samples that passed: the first n places delivered are near's, and what is left is silent again, with as many
-- partitions.
pub record Passed (s : TauCanceller) (near : List Float) (n : ℕ) (r : Ran) : Type 0 where
  pub parts : r.engine.state.partitions ≡ s.partitions
  pub silent : Silent r.engine.state r.engine.shadow r.engine.output r.engine.spectra
  pub block : take n r.block ≡ take n near
