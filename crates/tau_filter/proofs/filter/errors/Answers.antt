use Rattle.std.proofs.Common.{rules, arith, ◌≡◌, ◌∙◌}
use Rattle.std.specs.Float.{nan}
use Rattle.laws.specs.Loops.{loops, iter-more, over-more}
use Rattle.laws.specs.Readings.{over-table}
use Rattle.tau_filter.specs.Filter.{errors_of, bad_to}
use Rattle.tau_filter.proofs.filter.errors.Goals as goal

pub loop-i-init : goal.loop-i-init
unfolding errors_of bad_to
loop-i-init c = search (rules, loops)

pub loop-i-preserved : goal.loop-i-preserved
unfolding errors_of bad_to
loop-i-preserved c = (rw iter-more (cc), rw (over-more nan) (cc))

pub returns : goal.returns
unfolding errors_of bad_to
returns c =
    let e : c.loop-i.i ≡ 256 = omega arith in
    record { errors = rw e at c.loop-i.invariant.1 ∙ over-table 256 _ _ (search rules); bad = rw e at c.loop-i.invariant.0 }
