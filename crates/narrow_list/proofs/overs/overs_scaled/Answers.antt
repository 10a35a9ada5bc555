-- `narrow_list::overs::overs_scaled` meets its contract. Assumes nothing.
use mathlib.Core.Path.{sym, ◌∙◌}
use lib.Ieee.{binary64, mul, of_bits}
use Rattle.laws.specs.Choice.{both}
use Rattle.narrow_list.proofs.OverCounts.{overs-by-test}
use Rattle.narrow_list.proofs.Small.{shrunk-none}
use Rattle.narrow_list.proofs.overs.overs_scaled.Goals as goal

pub returns-then-shrinks-all_small : goal.returns-then-shrinks-all_small
unfolding of_bits
returns-then-shrinks-all_small c = let t = both _ _ c.if-shrinks-all_small.true in
    let u = both _ _ t.0 in shrunk-none c.args.xs.now c.args.scale c.type_inv.xs (c.all_small.ensures t.1) u.0 u.1

pub returns : goal.returns
unfolding of_bits
returns c = c.count_scaled.ensures ∙ sym (overs-by-test (λ x. mul binary64 x c.args.scale) c.args.xs.now)
