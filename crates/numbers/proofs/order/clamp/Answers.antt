-- `numbers::clamp` meets its contract: each way out is what the two tests of `clamp_of` pick. Assumes nothing.
use Rattle.std.proofs.Common.{◌≡◌, true, false}
use lib.Ieee.{lt}
use Rattle.laws.specs.Choice.{pick}
use Rattle.numbers.specs.Order.{clamp_of}
use Rattle.numbers.proofs.order.clamp.Goals as goal

pub returns-then-x-lo : goal.returns-then-x-lo
unfolding clamp_of pick
returns-then-x-lo c = let l : lt c.args.x c.args.lo ≡ true = c.if-x-lo.true in rw l

pub returns-then-hi-x : goal.returns-then-hi-x
unfolding clamp_of pick
returns-then-hi-x c = let l : lt c.args.x c.args.lo ≡ false = c.if-x-lo.false in
    let h : lt c.args.hi c.args.x ≡ true = c.if-hi-x.true in
    rw (l, h)

pub returns-else-hi-x : goal.returns-else-hi-x
unfolding clamp_of pick
returns-else-hi-x c = let l : lt c.args.x c.args.lo ≡ false = c.if-x-lo.false in
    let h : lt c.args.hi c.args.x ≡ false = c.if-hi-x.false in
    rw (l, h)
