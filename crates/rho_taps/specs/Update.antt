-- The update of the weights, one definition a step and in the order of `step` in rho.rs. Definitions only.
use Rattle.std.specs.Prelude.{ℕ, Bool, true, ◌&&◌, List, eqb, Float, get_or, replicate}
use Rattle.std.specs.Float.{nan, binary32, binary64}
use Rattle.std.specs.Float.Ieee.{add, mul, div, of_bits}
use Rattle.laws.specs.Choice.{pick}
use Rattle.laws.specs.Loops.{iter, over}
use Rattle.laws.specs.Counting.{one_more}
use Rattle.numbers.specs.Finite.{plus, is_finite}
use Rattle.numbers.specs.Narrowing.{narrow_of}
use Rattle.rho_taps.specs.Ring.{lag_of}

-- (0.5 * error) / (1e-3 + energy)
unfoldable pub scale_of : Float → Float → Float
scale_of error energy =
    div binary64 (mul binary64 (of_bits binary64 0x3fe0_0000_0000_0000) error) (add binary64 (of_bits binary64 0x3f50_624d_d2f1_a9fc) energy)

-- a weight at its next value: w + (scale * x) as f32, an f32 addition
unfoldable pub nudge_of : Float → Float → Float → Float
nudge_of scale x weight = add binary32 weight (narrow_of (mul binary64 scale x))

-- every weight updated, by the history's sample of its lag
unfoldable pub updated_of : Float → List Float → ℕ → ℕ → List Float → List Float
updated_of scale history pos n weights = over n (λ k w. nudge_of scale (lag_of history pos n k) w) weights

-- whether all n are finite
unfoldable pub sound_of : ℕ → List Float → Bool
sound_of n weights = iter (λ k sound. sound && is_finite (get_or weights k nan)) true n

pub record Adapted : Type 0 where
  pub weights : List Float
  pub resets : ℕ

-- all weights cleared, and counted
unfoldable pub cleared_of : ℕ → ℕ → Adapted
cleared_of n resets = record { weights = replicate n plus; resets = one_more resets }

-- The update: after a divergence the filter is cleared; while frozen it stays; else it takes a step, and is cleared where a weight is then
-- not finite.
unfoldable pub adapted_of : Bool → ℕ → Float → List Float → ℕ → ℕ → List Float → ℕ → Adapted
adapted_of fine freeze scale history pos n weights resets =
    let next = updated_of scale history pos n weights in
    pick fine
    (pick (eqb freeze 0)
    (pick (sound_of n next) (record { weights = next; resets = resets }) (cleared_of n resets))
    (record { weights = weights; resets = resets }))
    (cleared_of n resets)
