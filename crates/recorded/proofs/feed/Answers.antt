-- `recorded::feed` meets its contract: the bytes taken go through the canceller's call, and both records have room. Assumes nothing.
use mathlib.Core.Path.{refl, sym}
use Prim.Native.Nat.{ℕ}
use native.Mathlib.Omega.{arith}
use lib.ListN.{length-replicate}
use lib.Seq.{length-take-le}
use Rattle.capture.proofs.Room.{fed-sends}
use Rattle.recorded.proofs.Calls.{feed-refuses, feed-ready, feed-left}
use Rattle.recorded.proofs.feed.Goals as goal

pub returns-in_err-check : goal.returns-in_err-check
returns-in_err-check c = feed-refuses (record { state = c.args.s; shadow = c.args.shadow.now; output = c.args.output.now; spectra = c.args.spectra.now; powers = c.args.powers.now }) c.args.pairs.now c.args.out.now _ c.in_err-check.field-0.0 c.from_residual.ensures.1 c.in_err-check.ensures

pub overflow_mul-bytes : goal.overflow_mul-bytes
overflow_mul-bytes c = let s = fed-sends _ _ _ _ c.feed-fed.ensures c.feed-fed.auto.bytes in omega (arith, s, c.feed-fed.auto.bytes, length-replicate {A = ℕ} 16384 0)

pub slice_bounds-bytes-end : goal.slice_bounds-bytes-end
slice_bounds-bytes-end c = fed-sends _ _ _ _ c.feed-fed.ensures c.feed-fed.auto.bytes

pub slice_bounds-put-end : goal.slice_bounds-put-end
slice_bounds-put-end c = sym (length-take-le _ _ (fed-sends _ _ _ _ c.feed-fed.ensures c.feed-fed.auto.bytes))

pub put-written-requires : goal.put-written-requires
put-written-requires c = let r = feed-ready _ (record { state = c.args.s; shadow = c.args.shadow.now; output = c.args.output.now; spectra = c.args.spectra.now; powers = c.args.powers.now }) c.args.out.now _ refl
    c.args.pairs.now _ c.in_ok-check.ensures c.min.ensures c.feed-fed.ensures c.feed-fed.auto.bytes in
    record { payloads_fit = r.0; room = r.1 }

pub returns : goal.returns
returns c = feed-left _ (record { state = c.args.s; shadow = c.args.shadow.now; output = c.args.output.now; spectra = c.args.spectra.now; powers = c.args.powers.now }) c.args.out.now _ _ c.args.pairs.now _ _
    refl c.in_ok-check.ensures c.min.ensures c.feed-fed.ensures (c.put-written.ensures.written, c.put-written.ensures.out_after)
