-- The bounds of what a block decides and of the counts that it leaves. Assumes nothing.
--     leak-bounds, leak-moves      the leak is above 0 and at most 0.75, from an advantage of 0.1 on, and so in every move, whatever the powers
--     leak-most                    from an advantage of 0.5 on it is 0.75
--     count_small, judged-count    the detector's count of blocks stays at 64 or below
--     compared-streak, .. -streak  the rescue streak stays below 8: after the comparison, after each clear, and after the guard
use mathlib.Core.Path.{◌≡◌, refl, sym, ap, subst, ◌∙◌}
use mathlib.Core.Bool.{Bool, true, false, not, true≢false}
use mathlib.Core.List.{List}
use Prim.Native.Nat.{ℕ, ◌*◌, ◌≤◌, ◌<◌}
use native.Mathlib.Nat.{mul-one, zero-mul, one-mul, mul-pos}
use native.Mathlib.Omega.{arith}
use lib.Dec.{T, ltb, leb, ltb→lt, lt→ltb}
use lib.IntN.{negsuc}
use borrow.Author.Tests.{ltb-true, leb-false}
use lib.Ieee.{Float, nan, inf, fin, binary64, up, down, round, mul, div, lt, le, fits, is_nan, of_bits}
use lib.Ieee.Fits.{up_pos, div-fits}
use lib.Ieee.Order.{round_mono}
use lib.Ieee.Positive.{num, den, den_pos, positive, above, le→cross, above_of_le, between, mul_mono}
use Rattle.laws.specs.Choice.{pick-if}
use Rattle.numbers.specs.Finite.{plus}
use Rattle.numbers.specs.Order.{min_of}
use Rattle.numbers.specs.Ranges.{one}
use Rattle.numbers.proofs.Ordered.{total, min-right, same-of-le}
use Rattle.tau_state.specs.Constants.{f0·1, f0·5, f0·75}
use Rattle.tau_steps.specs.Bounds.{Leak}
use Rattle.tau_state.specs.Sums.{energy_of}
use Rattle.tau_clears.specs.Clears.{diverge_shadow, diverge_of, retire_output}
use Rattle.tau_detector.specs.Detector.{count_of, evidence, learned, stands, judged}
use Rattle.tau_paths.specs.Paths.{runs, weighed, leak_of, advantage_of, reason_of, settled, acted, weighed_if, compared}
use Rattle.tau_paths.specs.declared.paths.Conditions.{Conditions}
use Rattle.tau_guard.specs.Guard.{watched, trips, Guarded, guarded}
use Rattle.tau_state.specs.declared.state.Detector.{Detector}
use Rattle.tau_state.specs.declared.state.Guard.{Guard}
use Rattle.tau_state.specs.declared.state.Paths.{Paths}
use Rattle.tau_state.specs.declared.state.Suppressor.{Suppressor}
use Rattle.tau_state.specs.declared.report.Outcome.{Outcome}
use Rattle.tau_state.specs.declared.report.Outcome.TheVariants.{NotRun, NoMove, Rescue, Move}
use Rattle.tau_state.specs.declared.report.Reason.TheVariants.{Moved}
use Rattle.tau_state.specs.Report.{outcome_of}
use Rattle.tau_steps.proofs.Reasons.{reason-if, reason-idle}

-- ---- the leak

-- 0.1, 0.5 and 0.75, and 0.1 / 0.5
abbrev tenth : Float
tenth = fin false 3602879701896397 (negsuc 54)

abbrev half : Float
half = fin false 1 (negsuc 0)

abbrev most : Float
most = fin false 3 (negsuc 1)

abbrev fifth : Float
fifth = fin false 3602879701896397 (negsuc 53)

-- a quotient by 0.5 is one rounding, so it grows with what is divided
twice : (x : Float) → T (positive x) → div binary64 x half ≡ round binary64 false (num x * 2) (1 * den x)
unfolding div
twice nan p = absurd p
twice (inf s) p = absurd p
twice (fin true m e) p = absurd p
twice (fin false m e) p = refl

doubled : (a b c d : ℕ) → a * d ≤ b * c → a * 2 * (1 * d) ≤ b * 2 * (1 * c)
doubled a b c d h = omega arith

one-den : (x : Float) → 0 < 1 * den x
one-den x = subst (λ (n : ℕ). 0 < n) (sym (one-mul (den x))) (den_pos x)

halves : (x y : Float) → T (positive x) → T (positive y) → T (le x y) → T (le (div binary64 x half) (div binary64 y half))
halves x y p q h =
    subst (λ (z : Float). T (le z (div binary64 y half))) (sym (twice x p))
    (subst (λ (z : Float). T (le (round binary64 false (num x * 2) (1 * den x)) z)) (sym (twice y q))
    (round_mono binary64 (num x * 2) (1 * den x) (num y * 2) (1 * den y) (one-den x) (one-den y) (doubled (num x) (num y) (den x) (den y) (le→cross x y p q h))))

-- and so from a number x on, whose quotient is lo, up to the infinity
from : (x lo : Float) → T (positive x) → div binary64 x half ≡ lo → T (le lo (inf false))
    → (a : Float) → T (le x a) → T (le lo (div binary64 a half))
unfolding div
from x lo p e i nan h = absurd (above_of_le x nan p h)
from x lo p e i (inf true) h = absurd (above_of_le x (inf true) p h)
from x lo p e i (inf false) h = i
from x lo p e i (fin true m d) h = absurd (above_of_le x (fin true m d) p h)
from x lo p e i (fin false m d) h =
    subst (λ (z : Float). T (le z (div binary64 (fin false m d) half))) e (halves x (fin false m d) p (above_of_le x (fin false m d) p h) h)

above-lt : (x : Float) → T (above x) → T (lt plus x)
unfolding lt
above-lt nan h = h
above-lt (inf true) h = h
above-lt (inf false) h = tt
above-lt (fin true m e) h = absurd h
above-lt (fin false m e) h = lt→ltb (0 * down e) (m * up e * 1) (rw (zero-mul, mul-one) (mul-pos (ltb→lt 0 m h) (up_pos e)))

-- 0.75 times a y from 0.2 to 1
scaled : (y : Float) → T (le fifth y) → T (le y one) → Leak (mul binary64 most y)
unfolding le mul of_bits
scaled y h k =
    let p : T (positive y) = between fifth y one tt tt h k in
    record {
      low =
          above-lt (mul binary64 most y)
          (above_of_le (mul binary64 most fifth) (mul binary64 most y) tt (mul_mono binary64 most most fifth y tt tt tt p tt h));
      high = mul_mono binary64 most most y one tt tt p tt tt k;
    }

capped : (q : Float) → T (le fifth q) → T (le fifth (min_of q one))
unfolding min_of le
capped q h = pick-if (λ r. T (le fifth r)) (is_nan q) (λ _. tt) (λ _. pick-if (λ r. T (le fifth r)) (lt one q) (λ _. tt) (λ _. h))

-- The leak from an advantage of 0.1 on.
pub leak-bounds : (a : Float) → T (le f0·1 a) → Leak (leak_of a)
unfolding leak_of of_bits div le is_nan
leak-bounds a h =
    let q = div binary64 a half in
    scaled (min_of q one) (capped q (from tenth fifth tt refl tt a h)) (min-right q one tt)

-- what a move carries
abbrev Carries : Outcome → Type 0
Carries NotRun = T true
Carries NoMove = T true
Carries Rescue = T true
Carries (Move leak) = Leak leak

-- So of every move, whatever the powers.
pub leak-moves : (asked : Conditions) (q : Paths) (leak : Float) → reason_of asked q ≡ Moved leak → Leak leak
unfolding outcome_of
leak-moves asked q leak h =
    subst Carries (ap outcome_of h) (reason-if Carries asked q (λ _. tt) (λ _ _. tt) (λ _ _. tt) (λ _ _ t. leak-bounds (advantage_of q) t))

-- at 1 or more the quotient is held to 1
held : (q : Float) → T (fits binary64 q) → T (le one q) → min_of q one ≡ one
unfolding min_of fits is_nan
held q f h =
    pick-if (λ r. r ≡ one) (is_nan q) (λ _. refl)
    (λ n. pick-if (λ r. r ≡ one) (lt one q) (λ _. refl)
    (λ l. let k : T (le q one) = total one q tt (subst (λ (b : Bool). T (not b)) (sym n) tt) l in same-of-le binary64 q one f tt (between one q one tt tt h k) tt k h))

-- From 0.5 on it is 0.75, at an infinite advantage too.
pub leak-most : (a : Float) → T (le f0·5 a) → leak_of a ≡ f0·75
unfolding leak_of of_bits div le mul
leak-most a h = ap (mul binary64 most) (held (div binary64 a half) (div-fits binary64 a half) (from half one tt refl tt a h))

-- ---- the counts

-- The detector's count of blocks is at most 64,
pub count_small : (n : ℕ) → count_of n ≤ 64
unfolding count_of
count_small n = pick-if (λ r. r ≤ 64) (ltb n 64) (λ h. omega (arith, ltb-true n 64 h)) (λ _. omega arith)

-- and stays so with every block.
pub judged-count : (active : Bool) (energy : Float) (near est : List Float) (n : ℕ) (d : Detector) → d.dtd_blocks ≤ 64
    → (judged active energy near est n d).dtd_blocks ≤ 64
unfolding judged learned stands
judged-count active energy near est n d h = pick-if (λ (r : Detector). r.dtd_blocks ≤ 64) (evidence active energy) (λ _. count_small d.dtd_blocks) (λ _. h)

-- ---- the rescue streak

-- At 8 the comparison rescues, which sets it to 0, so what it leaves is below 8, where it runs
weighed-streak : (asked : Conditions) (q : Paths) → runs asked ≡ true → (settled (outcome_of (reason_of asked q)) q).rescue_streak < 8
unfolding settled
weighed-streak asked q on =
    let small : leb 8 q.rescue_streak ≡ false → q.rescue_streak < 8 = leb-false 8 q.rescue_streak in
    reason-if (λ o. (settled o q).rescue_streak < 8) asked q (λ z. absurd (true≢false (sym on ∙ z))) (λ _ _. omega arith) (λ _ h. small h)
    (λ _ h _. small h)

-- and where it does not;
pub compared-streak : (asked : Conditions) (quiet : Bool) (es eo : List Float) (v : ℕ) (p : Paths) (n : ℕ) (sh ou : List Float) → p.rescue_streak < 8
    → (compared asked quiet es eo v p n sh ou).paths.rescue_streak < 8
unfolding compared acted weighed_if
compared-streak asked quiet es eo v p n sh ou h =
    pick-if (λ (q : Paths). (settled (outcome_of (reason_of asked q)) q).rescue_streak < 8) (runs asked)
    (λ on. weighed-streak asked (weighed quiet (energy_of es v) (energy_of eo v) p) on)
    (λ z. unfold settled in rw (reason-idle asked p z) h)

-- the clears set it to 0,
pub diverge-shadow-streak : (p : Paths) (m : ℕ) (sh : List Float) → (diverge_shadow p m sh).paths.rescue_streak < 8
unfolding diverge_shadow
diverge-shadow-streak p m sh = omega arith

pub diverge-streak : (p : Paths) (u : Suppressor) (m : ℕ) (sh ou : List Float) → (diverge_of p u m sh ou).paths.rescue_streak < 8
unfolding diverge_of
diverge-streak p u m sh ou = omega arith

pub retire-streak : (x : Float) (p : Paths) (u : Suppressor) (m : ℕ) (ou : List Float) → (retire_output x p u m ou).paths.rescue_streak < 8
unfolding retire_output
retire-streak x p u m ou = omega arith

-- and so does the guard where it trips; else it keeps it.
pub guarded-streak : (near : List Float) (en : Float) (n : ℕ) (g : Guard) (u : Suppressor) (p : Paths) (m : ℕ) (block ou : List Float)
    → p.rescue_streak < 8 → (guarded near en n g u p m block ou).paths.rescue_streak < 8
unfolding guarded
guarded-streak near en n g u p m block ou h =
    let w = watched en (energy_of block n) g in
    pick-if (λ (r : Guarded). r.paths.rescue_streak < 8) (trips w)
    (λ _. retire-streak w.divergence_near_power p u m ou) (λ _. h)
