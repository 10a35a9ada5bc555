use Rattle.std.proofs.Common.{◌-◌, length, ◌≡◌, zero-add, arith}
use Rattle.laws.specs.Loops.{iter-none, iter-next}
use Rattle.rho_taps.specs.Peak.{onward_of}
use Rattle.rho_taps.proofs.peak.onward.Goals as goal

pub loop-x-init : goal.loop-x-init
loop-x-init c = iter-none _ _

pub loop-x-preserved : goal.loop-x-preserved
loop-x-preserved c = iter-next _ _ _ c.loop-x.invariant (rw (c.with_size-m.ensures, zero-add c.loop-x.x-index))

pub returns : goal.returns
unfolding onward_of
returns c = let e : c.loop-x.x-index ≡ length c.args.xs.now - 0 = omega arith in rw e at c.loop-x.invariant
