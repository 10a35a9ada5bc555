-- `recorded::finish` meets its contract: the flush is the canceller's, and both records have room. Assumes nothing.
use mathlib.Core.Path.{refl, sym}
use Prim.Native.Nat.{ℕ}
use native.Mathlib.Omega.{arith}
use lib.ListN.{length-replicate}
use lib.Seq.{length-take-le}
use Rattle.capture.proofs.Room.{finished-sends}
use Rattle.recorded.proofs.Calls.{finish-refuses, finish-ready, finish-left}
use Rattle.recorded.proofs.finish.Goals as goal

pub returns-in_err-check : goal.returns-in_err-check
returns-in_err-check c = finish-refuses (record { state = c.args.s; shadow = c.args.shadow.now; output = c.args.output.now; spectra = c.args.spectra.now; powers = c.args.powers.now }) c.args.out.now _ c.in_err-check.field-0.0 c.from_residual.ensures.1 c.in_err-check.ensures

pub overflow_mul-bytes : goal.overflow_mul-bytes
overflow_mul-bytes c = let s = finished-sends _ _ _ c.finish-flushed.ensures c.finish-flushed.auto.bytes in omega (arith, s, c.finish-flushed.auto.bytes, length-replicate {A = ℕ} 1024 0)

pub slice_bounds-bytes-end : goal.slice_bounds-bytes-end
slice_bounds-bytes-end c = finished-sends _ _ _ c.finish-flushed.ensures c.finish-flushed.auto.bytes

pub slice_bounds-put-end-2 : goal.slice_bounds-put-end-2
slice_bounds-put-end-2 c = sym (length-take-le _ _ (finished-sends _ _ _ c.finish-flushed.ensures c.finish-flushed.auto.bytes))

pub put-written-requires : goal.put-written-requires
put-written-requires c = let r = finish-ready _ (record { state = c.args.s; shadow = c.args.shadow.now; output = c.args.output.now; spectra = c.args.spectra.now; powers = c.args.powers.now }) c.args.out.now _ refl c.in_ok-check.ensures c.finish-flushed.ensures c.finish-flushed.auto.bytes in
    record { payloads_fit = r.0; room = r.1 }

pub returns : goal.returns
returns c = finish-left _ (record { state = c.args.s; shadow = c.args.shadow.now; output = c.args.output.now; spectra = c.args.spectra.now; powers = c.args.powers.now }) c.args.out.now _ _ _ refl c.in_ok-check.ensures c.finish-flushed.ensures (c.put-written.ensures.written, c.put-written.ensures.out_after)
