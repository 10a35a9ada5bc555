-- `capture::finish` meets its contract. Assumes nothing.
use mathlib.Core.Path.{sym}
use native.Mathlib.Omega.{arith}
use lib.Seq.{length-take-le}
use Rattle.capture.proofs.Room.{roomy, flush-front, flush-written}
use Rattle.capture.proofs.finish.Goals as goal

pub slice_bounds-flush-end : goal.slice_bounds-flush-end
slice_bounds-flush-end c = sym (length-take-le _ _ (omega arith))

pub slice_bounds-out-end-2 : goal.slice_bounds-out-end-2
slice_bounds-out-end-2 c = flush-front _ _ _ _ c.flush-answer.ensures c.flush-answer.auto.out

pub slice_bounds-write_samples-end : goal.slice_bounds-write_samples-end
slice_bounds-write_samples-end c = sym (length-take-le _ _ (flush-front _ _ _ _ c.flush-answer.ensures c.flush-answer.auto.out))

pub returns : goal.returns
returns c = flush-written _ _ _ _ _ _ c.flush-answer.ensures c.flush-answer.auto.out (roomy _ c.args.bytes.now c.min-room.ensures) c.write_samples.ensures
