-- `narrow_list::one_by_one` meets its contract. Assumes nothing.
use mathlib.Core.Path.{refl, sym, ap, ◌∙◌}
use native.Mathlib.Omega.{arith}
use lib.Seq.{take_all}
use Rattle.numbers.specs.Narrowing.{narrow_of}
use Rattle.narrow_list.specs.Overs.{over_count}
use Rattle.narrow_list.proofs.Groups.{front-none, front-next, front-whole}
use Rattle.narrow_list.proofs.OverCounts.{overs-take, overs-one, one-bit}
use Rattle.narrow_list.proofs.one_by_one.Goals as goal

pub loop-k-init : goal.loop-k-init
unfolding over_count
loop-k-init c = (front-none _ _ _, refl)

pub overflow_add-overs : goal.overflow_add-overs
overflow_add-overs c = omega (arith, c.loop-k.invariant.1, overs-take c.loop-k.k c.args.xs.now, c.from-overs.ensures, one-bit c.went_over.result)

pub loop-k-preserved : goal.loop-k-preserved
loop-k-preserved c = (
  front-next narrow_of _ _ _ c.loop-k.invariant.0 (omega arith) (omega arith) c.narrow-y.ensures,
  rw (c.loop-k.invariant.1, c.from-overs.ensures, c.went_over.ensures) (sym (overs-one c.loop-k.k c.args.xs.now (omega arith))),
)

pub returns : goal.returns
returns c = record {
  out_after = front-whole c.loop-k.invariant.0 (omega arith) c.requires;
  overs = c.loop-k.invariant.1 ∙ ap over_count (take_all c.loop-k.k c.args.xs.now (omega arith));
}
