-- Step 5, the two-path comparison. Definitions only.
use Rattle.std.specs.Prelude.{Bool, true, false, not, ◌&&◌, List, ℕ, ltb, leb, Float}
use Rattle.std.specs.Float.{binary64}
use Rattle.std.specs.Float.Ieee.{sub, mul, div, lt, le}
use Rattle.laws.specs.Choice.{pick}
use Rattle.numbers.specs.Order.{min_of}
use Rattle.laws.specs.Counting.{one_more, one_more32}
use Rattle.tau_state.specs.Constants.{zero64, one, f0·1, f0·5, f0·75, f0·9, f4, smooth_by}
use Rattle.tau_state.specs.Sums.{energy_of}
use Rattle.tau_clears.specs.Weights.{leaked}
use Rattle.tau_state.specs.declared.state.Paths.{Paths}
use Rattle.tau_state.specs.declared.report.Outcome.{Outcome}
use Rattle.tau_state.specs.declared.report.Outcome.TheVariants.{NotRun, NoMove, Rescue, Move}
use Rattle.tau_state.specs.declared.report.Reason.{Reason}
use Rattle.tau_state.specs.declared.report.Reason.TheVariants.{FlushBlock, OutputDiverged, FarNotActive, NotEstablished, Rescued, QuietStreakShort, NoOutputPower, NoAdvantage, Moved}
use Rattle.tau_state.specs.Report.{outcome_of}
use Rattle.tau_paths.specs.declared.paths.Conditions.{Conditions}

-- "Both error powers are smoothed by 0.9. A shadow power above 4.0 times the output power lengthens the rescue streak"; a quiet block
-- lengthens the quiet streak; any other block sets them to 0
unfoldable pub weighed : Bool → Float → Float → Paths → Paths
weighed quiet shadow_energy output_energy paths =
    let shadow_power = smooth_by f0·9 paths.shadow_error_power shadow_energy in
    let output_power = smooth_by f0·9 paths.output_error_power output_energy in
    record {
      shadow_error_power = shadow_power;
      output_error_power = output_power;
      quiet_streak = pick quiet (one_more32 paths.quiet_streak) 0;
      rescue_streak = pick (lt (mul binary64 f4 output_power) shadow_power) (one_more32 paths.rescue_streak) 0;
    }

-- "leak = 0.75*min(advantage/0.5, 1)"
unfoldable pub leak_of : Float → Float
leak_of advantage = mul binary64 f0·75 (min_of (div binary64 advantage f0·5) one)

-- "advantage = 1 - shadow/output"
unfoldable pub advantage_of : Paths → Float
advantage_of paths = sub binary64 one (div binary64 paths.shadow_error_power paths.output_error_power)

-- "only if not flushing, not diverged in 3, far active and established, the two-path comparison"
abbrev pub runs : Conditions → Bool
runs asked = not asked.flushing && not asked.diverged && asked.far_is_active && asked.established

-- what is decided, of the powers and streaks as this block leaves them. Document 01: "at 8 the shadow becomes a copy of the output ..
-- Otherwise, with a quiet streak of at least 6 .. and output power above 0: .. at 0.1 or more, .. each weight moves". K2: "the first that
-- holds of .. flush block, output diverged, far not active, detector not established, rescued, quiet streak below 6, output power not above
-- 0, advantage not at least 0.1; otherwise moved, with its leak". A NaN is not above 0, and not at least 0.1.
unfoldable pub reason_of : Conditions → Paths → Reason
reason_of asked paths =
    pick asked.flushing FlushBlock
    (pick asked.diverged OutputDiverged
    (pick (not asked.far_is_active) FarNotActive
    (pick (not asked.established) NotEstablished
    (pick (leb 8 paths.rescue_streak) Rescued
    (pick (ltb paths.quiet_streak 6) QuietStreakShort
    (pick (not (lt zero64 paths.output_error_power)) NoOutputPower
    (pick (not (le f0·1 (advantage_of paths))) NoAdvantage
    (Moved (leak_of (advantage_of paths))))))))))

-- and what follows: for the powers and streaks, the count of transfers, the shadow's weights and the output's
unfoldable pub settled : Outcome → Paths → Paths
settled NotRun paths = paths
settled NoMove paths = paths
settled Rescue paths = record {
  shadow_error_power = paths.output_error_power;
  output_error_power = paths.output_error_power;
  quiet_streak = paths.quiet_streak;
  rescue_streak = 0;
}
settled (Move leak) paths = paths

unfoldable pub counted : Outcome → ℕ → ℕ
counted NotRun transfers = transfers
counted NoMove transfers = transfers
counted Rescue transfers = transfers
counted (Move leak) transfers = one_more transfers

unfoldable pub shadow_after : Outcome → List Float → List Float → List Float
shadow_after NotRun shadow output = shadow
shadow_after NoMove shadow output = shadow
shadow_after Rescue shadow output = output
shadow_after (Move leak) shadow output = shadow

unfoldable pub output_after : Outcome → List Float → List Float → List Float
output_after NotRun shadow output = output
output_after NoMove shadow output = output
output_after Rescue shadow output = output
output_after (Move leak) shadow output = leaked leak shadow output

unfoldable pub is_rescue : Outcome → Bool
is_rescue NotRun = false
is_rescue NoMove = false
is_rescue Rescue = true
is_rescue (Move leak) = false

pub record Comparison : Type 0 where
  pub paths : Paths
  pub transfers : ℕ
  pub rescued : Bool
  pub reason : Reason
  pub shadow : List Float
  pub output : List Float

-- the acted-on reason: all is what its outcome says
unfoldable pub acted : Reason → Paths → ℕ → List Float → List Float → Comparison
acted reason paths transfers shadow output =
    let outcome = outcome_of reason in
    record {
      paths = settled outcome paths;
      transfers = counted outcome transfers;
      rescued = is_rescue outcome;
      reason = reason;
      shadow = shadow_after outcome shadow output;
      output = output_after outcome shadow output;
    }

-- the powers and streaks that are decided on: of the two errors' first `valid` samples; where the comparison does not run they stay
unfoldable pub weighed_if : Conditions → Bool → List Float → List Float → ℕ → Paths → Paths
weighed_if asked quiet shadow_error error valid paths =
    pick (runs asked) (weighed quiet (energy_of shadow_error valid) (energy_of error valid) paths) paths

-- the whole comparison
unfoldable pub compared : Conditions → Bool → List Float → List Float → ℕ → Paths → ℕ → List Float → List Float → Comparison
compared asked quiet shadow_error error valid paths transfers shadow output =
    let after = weighed_if asked quiet shadow_error error valid paths in
    acted (reason_of asked after) after transfers shadow output
