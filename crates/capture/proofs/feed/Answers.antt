-- `capture::feed` meets its contract: the bytes taken are read as pairs, the call is TauCanceller's, and its samples' bytes are written. Assumes nothing.
use mathlib.Core.Path.{sym, ap, ◌∙◌}
use Prim.Native.Nat.{ℕ}
use native.Mathlib.Omega.{arith}
use lib.ListN.{take}
use lib.Seq.{length-take-le}
use Rattle.capture.proofs.Room.{roomy, taken, few, near-read, far-read, process-front, process-written}
use Rattle.capture.proofs.feed.Goals as goal

pub slice_bounds-near-end : goal.slice_bounds-near-end
slice_bounds-near-end c = let q = few _ _ _ c.whole_pairs-pairs.ensures c.min.ensures in omega (arith, q, c.read_near.auto.near)

pub slice_bounds-far-end : goal.slice_bounds-far-end
slice_bounds-far-end c = let q = few _ _ _ c.whole_pairs-pairs.ensures c.min.ensures in omega (arith, q, c.read_far.auto.far)

pub slice_bounds-out-end-2 : goal.slice_bounds-out-end-2
slice_bounds-out-end-2 c = process-front _ _ _ _ _ _ c.process-answer.ensures c.process-answer.auto.out

pub slice_bounds-write_samples-end : goal.slice_bounds-write_samples-end
slice_bounds-write_samples-end c = sym (length-take-le _ _ (process-front _ _ _ _ _ _ c.process-answer.ensures c.process-answer.auto.out))

pub returns : goal.returns
returns c = let q = few _ _ _ c.whole_pairs-pairs.ensures c.min.ensures in
    process-written _ _ _ _ _ _ _ c.args.held.now c.args.bytes.now _ c.process-answer.ensures c.process-answer.auto.out
    (near-read _ _ _ _ c.whole_pairs-pairs.ensures q c.read_near.ensures)
    (far-read _ _ _ _ c.whole_pairs-pairs.ensures q c.read_far.ensures)
    (ap (λ (n : ℕ). take n c.args.held.now) c.min.ensures ∙ taken 32768 c.args.held.now)
    (roomy _ c.args.bytes.now c.min-room.ensures)
    c.write_samples.ensures
