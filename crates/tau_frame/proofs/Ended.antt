-- How a flush ends: its block, and the delivered samples in the output buffer's first places (`flush-is`). Assumes nothing.
use mathlib.Core.Path.{◌≡◌, refl, ap, ◌∙◌}
use mathlib.Core.Bool.{false}
use mathlib.Core.List.{List, ◌++◌}
use Prim.Native.Nat.{ℕ, ◌+◌, ◌≤◌}
use native.Mathlib.Nat.{zero-add}
use native.Mathlib.Omega.{arith}
use borrow.Author.Tests.{ne_eqb}
use lib.Ieee.{Float}
use lib.ListN.{length, take, drop, length-append}
use lib.Seq.{take_at, drop_at, length-take-le}
use Rattle.laws.specs.Choice.{pick_no}
use Rattle.tau_state.specs.declared.state.TauCanceller.{TauCanceller}
use Rattle.tau_state.specs.declared.report.Last.TheVariants.{Did}
use Rattle.tau_block.specs.Block.{Ran, run_block}
use Rattle.tau_frame.specs.Pairs.{Run, emptied, block_of, padded, flushed_of}
use Rattle.tau_frame.proofs.Going.{block-long}

pub record Flushed (s : TauCanceller) (sh ou xs ps out : List Float) (r : Ran) (out' : List Float) : Type 0 where
  pub run : ◌≡◌ {A = Run} (record {
    engine = r.engine;
    samples = take s.carried out';
    last = Did r.told;
  }) (flushed_of (record { state = s; shadow = sh; output = ou; spectra = xs; powers = ps }))
  pub tail : drop s.carried out' ≡ drop s.carried out
  pub room : s.carried ≤ length out'

pub flush-is : (s : TauCanceller) (sh ou xs ps out pn pf : List Float) → pn ≡ padded s.near_carry s.carried → pf ≡ padded s.far_carry s.carried
    → (s.carried ≡ 0 → ⊥) → s.carried ≤ 255 → s.carried ≤ length out
    → (r : Ran) → r ≡ run_block (emptied (record { state = s; shadow = sh; output = ou; spectra = xs; powers = ps })) pf (record { near = pn; valid = s.carried; adapt = false })
    → (out' : List Float) → out' ≡ take 0 out ++ (take s.carried r.block ++ drop (0 + s.carried) out)
    → Flushed s sh ou xs ps out r out'
unfolding flushed_of block_of
flush-is s sh ou xs ps out pn pf en ef h few room r er out' eo =
    let n = s.carried in
    let blk = r.block in
    let l : length (take n blk) ≡ n = length-take-le n blk (block-long _ _ _ r er n (omega arith)) in
    let split : out' ≡ take n blk ++ drop n out = eo ∙ ap (λ (i : ℕ). take n blk ++ drop i out) (zero-add n) in
    let made : take n out' ≡ take n blk = ap (take n) split ∙ take_at (take n blk) (drop n out) n l in
    record {
      run = rw (made, er, en, ef) (pick_no _ _ _ (ne_eqb _ _ h) refl);
      tail = ap (drop n) split ∙ drop_at (take n blk) (drop n out) n l;
      room = rw split (omega (arith, length-append (take n blk) (drop n out), l));
    }
