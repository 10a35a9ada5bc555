-- The Rho sample, as `step` in rho.rs, one definition a step and in its order. Definitions only.
use Rattle.std.specs.Prelude.{ℕ, ◌-◌, Bool, List, Float, set}
use Rattle.std.specs.Float.{binary32, binary64}
use Rattle.std.specs.Float.Ieee.{add, sub, mul, lt, of_bits}
use Rattle.laws.specs.Choice.{pick}
use Rattle.numbers.specs.Finite.{is_finite, finite_or_zero}
use Rattle.numbers.specs.Narrowing.{narrow_of}
use Rattle.numbers.specs.Order.{abs_of}
use Rattle.rho_state.specs.declared.state.RhoCanceller.{RhoCanceller}
use Rattle.rho_taps.specs.Ring.{next_of, estimate_of, window_energy_of, peak_of}
use Rattle.rho_taps.specs.Update.{scale_of, adapted_of}

-- the engine whole: its state and the two lent buffers
pub record Engine : Type 0 where
  pub state : RhoCanceller
  pub weights : List Float
  pub history : List Float

-- "A pair is loud when |near| > 0.5*peak in f32"
unfoldable pub loud_of : Float → Float → Bool
loud_of near peak = lt (mul binary32 (of_bits binary32 0x3f00_0000) peak) (abs_of near)

-- "Loud sets the freeze to H; a quiet pair takes 1 off, if any is left."
unfoldable pub freeze_of : ℕ → ℕ → Bool → ℕ
freeze_of hangover remaining loud = pick loud hangover (remaining - 1)

-- a smoothed power: 0.999 * power + (1 - 0.999) * (x * x)
unfoldable pub smooth_of : Float → Float → Float
smooth_of power x =
    add binary64 (mul binary64 (of_bits binary64 0x3fef_f7ce_d916_872b) power)
    (mul binary64 (sub binary64 (of_bits binary64 0x3ff0_0000_0000_0000) (of_bits binary64 0x3fef_f7ce_d916_872b)) (mul binary64 x x))

-- the state after the pair
unfoldable pub after_of : RhoCanceller → ℕ → ℕ → Float → Float → ℕ → RhoCanceller
after_of s pos freeze near output resets =
    record {
      taps = s.taps;
      pos = pos;
      hangover_samples = s.hangover_samples;
      hangover_remaining = freeze;
      near_power = smooth_of s.near_power near;
      residual_power = smooth_of s.residual_power output;
      divergence_resets = resets;
    }

pub record Stepped : Type 0 where
  pub engine : Engine
  pub output : Float

-- `step`
unfoldable pub step_of : Engine → Float → Float → Stepped
step_of e near far =
    let s = e.state in
    let n = s.taps in
    let pos = next_of s.pos n in
    let history = set e.history pos far in
    let error = sub binary64 near (estimate_of e.weights history pos n) in
    let output = finite_or_zero (narrow_of error) in
    let freeze = freeze_of s.hangover_samples s.hangover_remaining (loud_of near (peak_of history pos n)) in
    let a = adapted_of (is_finite (narrow_of error)) freeze (scale_of error (window_energy_of history pos n)) history pos n e.weights s.divergence_resets in
    record {
      engine = record { state = after_of s pos freeze near output a.resets; weights = a.weights; history = history };
      output = output;
    }
