use Rattle.std.proofs.Common.{rules, arith}
use Rattle.std.specs.Float.Ieee.{of_bits}
use Rattle.laws.specs.Loops.{loops, iter-next, over-turn, over-end}
use Rattle.rho_taps.specs.Peak.{lanes_of}
use Rattle.rho_taps.proofs.peak.lanes.Goals as goal

pub loop-b-init : goal.loop-b-init
unfolding lanes_of of_bits
loop-b-init c = search (rules, loops)

pub loop-q-init : goal.loop-q-init
unfolding lanes_of of_bits
loop-q-init c = search (rules, loops)

pub loop-q-preserved : goal.loop-q-preserved
loop-q-preserved c = over-turn _ _ _ c.loop-q.invariant (rw c.with_size.ensures)

pub loop-b-preserved : goal.loop-b-preserved
unfolding lanes_of
loop-b-preserved c = iter-next _ _ _ c.loop-b.invariant (over-end _ _ _ _ c.loop-q.invariant (omega arith) (omega arith))

pub returns : goal.returns
unfolding lanes_of of_bits
returns c = search (rules, loops)
