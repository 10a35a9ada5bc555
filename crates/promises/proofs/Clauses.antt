-- Sentences of document 01, from what is proved in each crate. Assumes nothing.
use mathlib.Core.Path.{◌≡◌, refl, ◌∙◌}
use mathlib.Core.Bool.{true, false}
use Prim.Native.Nat.{ℕ, ◌+◌, ◌-◌, ◌^◌, ◌≤◌, ◌<◌, min}
use native.Mathlib.Omega.{arith}
use borrow.Author.Tests.{ltb-true, ltb-false}
use lib.Dec.{ltb}
use lib.ListN.{length, get_or}
use lib.Ieee.{Float, nan, inf, fin, binary32, lt, is_nan, to_bits}
use Rattle.laws.specs.Choice.{pick, pick-if}
use Rattle.laws.specs.Tables.{length-table}
use Rattle.numbers.specs.Order.{min_of, max_of}
use Rattle.numbers.specs.Narrowing.{narrow_of}
use Rattle.numbers.proofs.NarrowedLaws.{narrow_exact, narrow-huge, narrow-small}
use Rattle.numbers.proofs.Ordered.{clamp-nan}
use Rattle.trig.proofs.Angles.{two-pi, half-pi, turns-round, angle-even}
use Rattle.trig.proofs.Entries.{recombination-at, twiddle-at, length-recombination}
use Rattle.complex_fft.specs.Reversal.{rev8, reversal_table}
use Rattle.complex_fft.proofs.Reversing.{at_entry}
use Rattle.rho_taps.specs.Update as rho_update
use Rattle.tau_paths.specs.Paths.{counted}
use Rattle.laws.specs.Counting.{one_more, one_more32}
use Rattle.tau_steps.proofs.Bounds.{leak-moves}
use Rattle.tau_block_laws.proofs.Bounds.{step-factor, target-bounds}
use Rattle.promises.specs.Clauses.{Narrowing, Extremes, Products, Rounds, Entries, Reversal, MoveLeak, StepFactor, SuppressorTarget, Counters}

-- ---- numbers

nan-bits : to_bits binary32 (narrow_of nan) ≡ 0x7fc0_0000
unfolding narrow_of to_bits
nan-bits = refl

pub narrowing : Narrowing
narrowing = (narrow-huge, narrow-small, nan-bits, narrow_exact)

min-nan : (x : Float) → min_of x nan ≡ x
unfolding min_of pick is_nan lt
min-nan nan = refl
min-nan (inf s) = refl
min-nan (fin s m e) = refl

max-nan : (x : Float) → max_of x nan ≡ x
unfolding max_of pick is_nan lt
max-nan nan = refl
max-nan (inf true) = refl
max-nan (inf false) = refl
max-nan (fin s m e) = refl

pub extremes : Extremes
unfolding min_of max_of pick is_nan
extremes x lo hi = (refl, min-nan x, refl, max-nan x, clamp-nan lo hi)

-- ---- the tables

pub products : Products
products = (two-pi, half-pi)

pub rounds : Rounds
rounds = (turns-round, angle-even)

pub entries : Entries
entries = (length-recombination, λ k h. recombination-at k nan h, λ r h. twiddle-at r nan h)

length-reversal : length reversal_table ≡ 256
unfolding reversal_table
length-reversal = length-table 256 rev8

back : (i : ℕ) → i < 256 → get_or reversal_table (get_or reversal_table i 0) 0 ≡ i
back i h =
    let r = at_entry i h in
    (at_entry (get_or reversal_table i 0) r.small).is ∙ r.back

pub reversal : Reversal
reversal = (length-reversal, at_entry, back)

-- ---- the bounds of a block

pub move-leak : MoveLeak
move-leak = leak-moves

pub step-factors : StepFactor
step-factors = step-factor

pub suppressor-target : SuppressorTarget
suppressor-target = target-bounds

-- ---- counters

-- one more, held at the largest
held : (n m : ℕ) → n ≤ m → pick (ltb n m) (n + 1) n ≡ min (n + 1) m
held n m h = pick-if (λ (k : ℕ). k ≡ min (n + 1) m) (ltb n m) (λ t. omega (arith, ltb-true n m t)) (λ t. omega (arith, ltb-false n m t))

pub counters : Counters
unfolding one_more one_more32 counted rho_update.cleared_of
counters = (λ n h. held n (2 ^ 32 - 1) h, λ n leak h. held n (2 ^ 64 - 1) h, λ taps n h. held n (2 ^ 64 - 1) h)
