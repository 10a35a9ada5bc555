-- `narrow_list::narrow_group` meets its contract. Assumes nothing.
use mathlib.Core.Path.{sym, ap, ◌∙◌}
use native.Mathlib.Omega.{arith}
use lib.ListN.{length}
use Rattle.numbers.specs.Narrowing.{narrow_of}
use Rattle.narrow_list.proofs.Fits.{fit-finite}
use Rattle.narrow_list.proofs.Groups.{mapped}
use Rattle.narrow_list.proofs.OverCounts.{overs-nowhere}
use Rattle.narrow_list.proofs.narrow_group.Goals as goal

pub returns-then-all_fit : goal.returns-then-all_fit
returns-then-all_fit c = record {
  out_after = c.copy_from_slice.ensures.after ∙ mapped narrow_of c.args.xs.now (omega (arith, ap length c.copy_from_slice.ensures.after)) (λ k l. c.all_short.ensures k (omega arith));
  overs = sym (overs-nowhere c.args.xs.now (λ k l. fit-finite _ (c.type_inv.xs k) (c.all_fit.ensures c.if-all_fit.true k (omega arith))));
}
