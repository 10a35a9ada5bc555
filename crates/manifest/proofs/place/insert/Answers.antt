-- `manifest::place::insert` meets its contract: the line comes in at the place that the search finds. Assumes nothing.
use Rattle.std.proofs.Common.{rules, ◌∙◌, Bor, ℕ, List, ap, slice_set, take}
use Rattle.std.proofs.lemmas.List.Sorted.{IsPartitionPoint-from_clause}
use lib.ListN.{length-set}
use Rattle.line_order.specs.Order.{at_most}
use Rattle.manifest.proofs.Places.{partitioned, holds-more}
use Rattle.manifest.proofs.place.insert.Goals as goal

pub returns : goal.returns
returns c =
    let found = IsPartitionPoint-from_clause (λ (y : Bor (List ℕ)). at_most y.now c.args.line.now) (take c.args.count c.args.lines.now) c.partition_point-place.result
    c.partition_point-place.ensures.partitioned (partitioned (take c.args.count c.args.lines.now) c.args.line c.requires.in_order) (λ a r f k. search rules) in
    holds-more c.args.lines.now c.args.line c.partition_point-place.result c.args.count c.requires.in_order c.partition_point-place.ensures.bound c.requires.room
    found (length-set _ _ _ ∙ c.copy_within.ensures.len) (ap (λ (z : List (Bor (List ℕ))). slice_set z c.partition_point-place.result c.args.line) c.copy_within.ensures.after)
