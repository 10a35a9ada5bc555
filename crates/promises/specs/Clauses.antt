-- Sentences of document 01 that stand in none of the demands: on numbers, on the tables, on the bounds of a block, and on counters at their
-- largest. Statements; proved in proofs/Clauses.antt.
use Rattle.std.specs.Prelude.{◌≡◌, Bool, false, List, ℕ, ◌+◌, ◌-◌, ◌*◌, ◌^◌, ◌≤◌, ◌<◌, min, T, ℤ, pos, length, get_or, Float}
use Rattle.std.specs.Float.{nan, inf, fin, binary32}
use Rattle.std.specs.Float.Ieee.{up, down, fits, is_nan, to_bits}
use Rattle.numbers.specs.Order.{min_of, max_of, clamp_of}
use Rattle.numbers.specs.Narrowing.{narrow_of}
use Rattle.numbers.specs.Zeros.{Finite}
use Rattle.trig.specs.Trig.{◌⊗◌, ◌⊘◌, whole, half, pi, two_pi, half_pi, angle, turns, round_away, det_sin, det_cos}
use Rattle.trig.specs.Tables.{recombination, twiddle_re, twiddle_im}
use Rattle.complex_fft.specs.Reversal.{reversal_table, Reversed}
use Rattle.rho_taps.specs.Update.{cleared_of}
use Rattle.tau_steps.specs.Bounds.{Leak}
use Rattle.tau_paths.specs.Paths.{reason_of, counted}
use Rattle.tau_paths.specs.declared.paths.Conditions.{Conditions}
use Rattle.laws.specs.Counting.{one_more32}
use Rattle.tau_state.specs.declared.state.Paths.{Paths}
use Rattle.tau_state.specs.declared.report.Outcome.TheVariants.{Move}
use Rattle.tau_state.specs.declared.report.Reason.TheVariants.{Moved}
use Rattle.tau_block_laws.specs.Bounds.{Factor, Target}
use Rattle.tau_spectra.specs.Powers.{far_power_to}
use Rattle.tau_update.specs.Update.{factor_of}
use Rattle.tau_suppressor.specs.Suppressor.{target_of}

-- ---- numbers

-- "A size of 2^128 - 2^103 or more gives infinity of the same sign. 2^-150 or less gives zero of the same sign. A NaN gives bits
-- 7FC00000". `fin s m e` is the number m * 2^e, negative where s is true: m * up e / down e. And what is an f32 narrows to itself.
abbrev pub Narrowing : Type 0
Narrowing =
    ((s : Bool) (m : ℕ) (e : ℤ) → (2 ^ 128 - 2 ^ 103) * down e ≤ m * up e → narrow_of (fin s m e) ≡ inf s)
    × ((s : Bool) (m : ℕ) (e : ℤ) → m * up e * 2 ^ 150 ≤ down e → narrow_of (fin s m e) ≡ fin s 0 (pos 0))
    × (to_bits binary32 (narrow_of nan) ≡ 0x7fc0_0000)
    × ((x : Float) → T (fits binary32 x) → narrow_of x ≡ x)

-- "Minimum and maximum with one NaN give the other operand; a clamped NaN stays NaN."
abbrev pub Extremes : Type 0
Extremes = (x lo hi : Float)
    → (min_of nan x ≡ x) × (min_of x nan ≡ x) × (max_of nan x ≡ x) × (max_of x nan ≡ x) × (clamp_of nan lo hi ≡ nan)

-- ---- the tables

-- TWO_PI and HALF_PI, whose bits stand in the code, are the Rust's products of PI
abbrev pub Products : Type 0
Products = (two_pi ≡ whole 2 ⊗ pi) × (half_pi ≡ half ⊗ pi)

-- "For our angles, `(x / TWO_PI).round()` is -1 where the ratio is -0.5 and -0.0 otherwise": this rule, `turns`, is Rust's round at each of
-- the 257 angles, and the 128 angles of the twiddles are among them
abbrev pub Rounds : Type 0
Rounds =
    ((k : ℕ) → k < 257 → turns (angle 512 k) ≡ round_away (angle 512 k ⊘ two_pi))
    × ((r : ℕ) → r < 128 → angle 256 r ≡ angle 512 (2 * r))

-- "128 twiddles, entry r at angle -TWO_PI*r/256; 257 recombination entries, entry k at -TWO_PI*k/512"
abbrev pub Entries : Type 0
Entries =
    (length recombination ≡ 2 * 257)
    × ((k : ℕ) → k < 257
    → (get_or recombination (2 * k) nan ≡ det_cos (angle 512 k)) × (get_or recombination (2 * k + 1) nan ≡ det_sin (angle 512 k)))
    × ((r : ℕ) → r < 128
    → (get_or recombination (2 * (2 * r)) nan ≡ twiddle_re r) × (get_or recombination (2 * (2 * r) + 1) nan ≡ twiddle_im r))

-- "The 256-entry reversal table holds at i the eight bits of i in reverse order; it is its own inverse."
abbrev pub Reversal : Type 0
Reversal =
    (length reversal_table ≡ 256)
    × ((i : ℕ) → i < 256 → Reversed i (get_or reversal_table i 0))
    × ((i : ℕ) → i < 256 → get_or reversal_table (get_or reversal_table i 0) 0 ≡ i)

-- ---- the bounds of a block

-- "the leak is above 0 and at most 0.75": in every move that the comparison decides, whatever the powers; that it is so in every report is
-- Demand2's `Leaks`
abbrev pub MoveLeak : Type 0
MoveLeak = (asked : Conditions) (paths : Paths) (leak : Float) → reason_of asked paths ≡ Moved leak → Leak leak

-- "the step factor in 6 is 0.02 to 1": of every bin k, whatever the spectra and the means hold, by the powers worked out from the spectra;
-- by kept powers it is Powers' `KeptFactor`
abbrev pub StepFactor : Type 0
StepFactor = (spectra means : List Float) (parts k : ℕ) → Factor (factor_of (get_or means k nan) (get_or (far_power_to spectra parts) k nan))

-- "the suppressor's target is 0.1 to 1 where the error power is finite and the echo power no NaN"
abbrev pub SuppressorTarget : Type 0
SuppressorTarget = (protect : Bool) (echo err : Float) → Finite err → is_nan echo ≡ false → Target (target_of protect echo err)

-- ---- counters

-- "Quiet streak (32 bits), transfers and divergence resets (64 bits) stay at their largest number where Rust would wrap." Tau's resets are
-- Demand2's `Resets`; here are one more of the quiet streak, a move, and a clear of Rho's weights.
abbrev pub Counters : Type 0
Counters =
    ((n : ℕ) → n ≤ 2 ^ 32 - 1 → one_more32 n ≡ min (n + 1) (2 ^ 32 - 1))
    × ((n : ℕ) (leak : Float) → n ≤ 2 ^ 64 - 1 → counted (Move leak) n ≡ min (n + 1) (2 ^ 64 - 1))
    × ((taps n : ℕ) → n ≤ 2 ^ 64 - 1 → (cleared_of taps n).resets ≡ min (n + 1) (2 ^ 64 - 1))
