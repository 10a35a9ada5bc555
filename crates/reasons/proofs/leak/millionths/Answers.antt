-- `reasons::leak::millionths` meets its contract: the two tests are what the conversion asks. Assumes nothing.
use Rattle.std.proofs.Common.{T, sym, refl, subst}
use lib.Ieee.{of_bits, neg}
use Rattle.laws.specs.Choice.{pick_yes, pick_no}
use Rattle.reasons.specs.Leak.{millionths_of}
use Rattle.reasons.proofs.leak.millionths.Goals as goal

pub truncating_f64_to_u64-requires-clause-lower_bound : goal.truncating_f64_to_u64-requires-clause-lower_bound
unfolding of_bits neg millionths_of
truncating_f64_to_u64-requires-clause-lower_bound c = subst T (sym c.if-above.true) tt

pub truncating_f64_to_u64-requires-clause-upper_bound : goal.truncating_f64_to_u64-requires-clause-upper_bound
unfolding of_bits neg millionths_of
truncating_f64_to_u64-requires-clause-upper_bound c = subst T (sym c.if-above-2.true) tt

pub returns-then-above-2 : goal.returns-then-above-2
unfolding of_bits neg millionths_of
returns-then-above-2 c = pick_yes _ _ _ c.if-above.true (pick_yes _ _ _ c.if-above-2.true c.truncating_f64_to_u64.ensures)

pub returns-else-above-2 : goal.returns-else-above-2
unfolding of_bits neg millionths_of
returns-else-above-2 c = pick_yes _ _ _ c.if-above.true (pick_no _ _ _ c.if-above-2.false refl)

pub returns-else-above : goal.returns-else-above
unfolding of_bits neg millionths_of
returns-else-above c = pick_no _ _ _ c.if-above.false refl
