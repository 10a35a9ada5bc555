-- The powers of the stored spectra (K10). A fourth lent buffer keeps them: slot p's are `part 257 p`, and the power of bin k is number k
-- of that. Definitions only.
use Rattle.std.specs.Prelude.{List, ◌≡◌, ℕ, ◌+◌, ◌<◌, get_or, replicate, Float}
use Rattle.std.specs.Float.{nan, binary64}
use Rattle.std.specs.Float.Ieee.{add}
use Rattle.laws.specs.Loops.{iter, over}
use Rattle.laws.specs.Parts.{part}
use Rattle.laws.specs.Tables.{table}
use Rattle.tau_state.specs.Constants.{zero64}
use Rattle.tau_spectra.specs.Bins.{power_at}

-- "the squared size of every .. bin" of a spectrum
unfoldable pub powers_of : List Float → List Float
powers_of spectrum = table 257 (power_at spectrum)

-- the far power of each bin: the first n slots' kept powers added, "by slot" and not by age, from +0.0
unfoldable pub kept_power_to : List Float → ℕ → List Float
kept_power_to powers n = iter (λ slot sum. over 257 (λ k a. add binary64 a (get_or (part 257 slot powers) k nan)) sum) (replicate 257 zero64) n

-- what bin k of four slots that follow each other adds to its sum; only the code's function that takes four at once goes by it
unfoldable pub four_on : List Float → ℕ → Float → Float
four_on powers k sum =
    add binary64 (add binary64 (add binary64 (add binary64 sum (get_or powers k nan)) (get_or powers (257 + k) nan)) (get_or powers (514 + k) nan))
    (get_or powers (771 + k) nan)

-- the far power worked out from the spectra, as the Rust does in every block that adapts
unfoldable pub far_power_to : List Float → ℕ → List Float
far_power_to spectra n = iter (λ slot sum. over 257 (λ k a. add binary64 a (power_at (part 514 slot spectra) k)) sum) (replicate 257 zero64) n

-- "each kept number is the one worked out from its bin", in a slot, and in the first n
abbrev pub TrueSlot : ℕ → List Float → List Float → Type 0
TrueSlot slot spectra powers = part 257 slot powers ≡ powers_of (part 514 slot spectra)

pub record TruePowers (n : ℕ) (spectra powers : List Float) : Type 0 where
  pub each : (slot : ℕ) → slot < n → TrueSlot slot spectra powers
