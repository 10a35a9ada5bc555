-- Pairs that fill no block. Assumes nothing.
--     filled_none, filled_next, filled-all     the loop that fills a carry: where it starts, a turn, and the end
--     wait-is         the run over such pairs: they lie in the carry, and no block is run
use mathlib.Core.Path.{◌≡◌, refl, sym, ap, ◌∙◌}
use mathlib.Core.List.{List, [], ◌∷◌}
use Prim.Native.Nat.{ℕ, ◌+◌, ◌≤◌, ◌<◌}
use native.Mathlib.Numerals.{add-one}
use native.Mathlib.Omega.{arith}
use borrow.Author.Tests.{ne_eqb}
use lib.Ieee.{Float, nan}
use lib.ListN.{length, get_or, set, drop, drop_of_length-le}
use lib.Seq.{drop-cons}
use Rattle.laws.specs.Choice.{pick_no}
use Rattle.numbers.specs.Finite.{finite_or_zero}
use Rattle.tau_frame.specs.Pairs.{Engine, waits_of, carrying, fill_of, pair_of, pairs_of, last_of}
use Rattle.tau_frame.specs.Filled.{filled_of}

-- ---- a carry

pub filled_none : (carry : List Float) (n : ℕ) (samples : List Float) → filled_of carry (n + 0) (drop 0 samples) ≡ filled_of carry n samples
filled_none carry n samples = let z : n + 0 ≡ n = omega arith in rw z

pub filled_next : (carry : List Float) (n j : ℕ) (samples : List Float) (u : Float) → j < length samples → u ≡ finite_or_zero (get_or samples j nan)
    → filled_of (set carry (n + j) u) (n + (j + 1)) (drop (j + 1) samples) ≡ filled_of carry (n + j) (drop j samples)
unfolding filled_of
filled_next carry n j samples u h eu =
    let x = get_or samples j nan in
    let split : drop j samples ≡ x ∷ drop (j + 1) samples = drop-cons samples j nan h ∙ ap (λ (i : ℕ). x ∷ drop i samples) (sym (add-one j)) in
    let place : n + (j + 1) ≡ n + j + 1 = omega arith in
    rw (split, place, eu)

pub filled-all : (carry : List Float) (n j : ℕ) (samples : List Float) → length samples ≤ j → filled_of carry (n + j) (drop j samples) ≡ carry
unfolding filled_of
filled-all carry n j samples h = rw (drop_of_length-le samples h)

-- ---- the run

-- the engine with such pairs in its carry
abbrev pub waiting : Engine → List Float → List Float → Engine
waiting e near far =
    let s = e.state in
    let n = s.carried in
    record {
      state = carrying s (filled_of s.near_carry n near) (filled_of s.far_carry n far) (n + length near);
      shadow = e.shadow;
      output = e.output;
      spectra = e.spectra;
      powers = e.powers;
    }

one-waits : (e : Engine) (x y : Float) → e.state.carried ≤ 254 → waits_of (fill_of e x y) ≡ pair_of e x y
unfolding pair_of
one-waits e x y h = pick_no _ _ _ (ne_eqb _ _ (λ (full : e.state.carried ≡ 255). omega (arith, full))) refl

pub wait-is : (e : Engine) (near far : List Float) → length near ≡ length far → e.state.carried + length near ≤ 255
    → pairs_of e near far ≡ waits_of (waiting e near far)
unfolding pairs_of filled_of last_of
wait-is e [] [] h room = let z : e.state.carried + 0 ≡ e.state.carried = omega arith in rw z
wait-is e [] (y ∷ far) h room = absurd (omega arith)
wait-is e (x ∷ near) [] h room = absurd (omega arith)
wait-is e (x ∷ near) (y ∷ far) h room =
    let n = e.state.carried in
    let rest = wait-is (fill_of e x y) near far (omega arith) (omega arith) in
    let count : n + 1 + length near ≡ n + length (x ∷ near) = omega arith in
    rw (← one-waits e x y (omega arith), rest, count)
