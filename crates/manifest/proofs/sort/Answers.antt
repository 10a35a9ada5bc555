-- `manifest::sort` meets its contract: each way out is what the tests of `answer_of` pick. Assumes nothing.
use Rattle.std.proofs.Common.{◌≡◌, ◌++◌, ◌<◌, ℕ, List, rules, arith, subst, sym, ap, ◌∙◌, Err, length, drop}
use Rattle.manifest.specs.declared.SortError.TheVariants.{TooManyLines}
use Rattle.manifest.specs.Lines.{lines_of, ends_in_newline}
use lib.Seq.{length-take-le}
use Rattle.line_order.specs.Order.{at_most}
use Rattle.manifest.specs.Sorting.{sort_of}
use Rattle.manifest.specs.Steps.{Holds}
use Rattle.manifest.specs.Promises.{Sort, sorted_by}
use Rattle.manifest.proofs.Answered.{too_long, too_many, no_room, sorted, few, as-long, joined-is}
use Rattle.manifest.proofs.sort.Goals as goal

pub returns-then-text-gt-MOST_BYTES : goal.returns-then-text-gt-MOST_BYTES
returns-then-text-gt-MOST_BYTES c = too_long c.args.text.now c.args.out.now (omega arith)

pub returns-in_err-count : goal.returns-in_err-count
returns-in_err-count c =
    let q : c.from_residual.result ≡ Err TooManyLines = search rules in
    let m : 4096 < length (lines_of c.args.text.now) = search rules in
    subst (λ r. Sort c.args.text.now c.args.out.now (sorted_by r) c.args.out.now) (sym q) (too_many c.args.text.now c.args.out.now (omega arith) m)

pub returns-then-count_lines-gt-MOST_LINES : goal.returns-then-count_lines-gt-MOST_LINES
returns-then-count_lines-gt-MOST_LINES c = too_many c.args.text.now c.args.out.now (omega arith) (omega arith)

pub returns-then-out-text : goal.returns-then-out-text
returns-then-out-text c = no_room c.args.text.now c.args.out.now (omega arith) (omega arith) (omega arith)

pub write_lines-requires : goal.write_lines-requires
write_lines-requires c =
    let h : Holds c.order_lines.new.lines (sort_of at_most (lines_of c.args.text.now)) c.in_ok-count.count = search rules in
    (ends_in_newline c.args.text.now, length-take-le (length c.args.text.now) c.args.out.now (omega arith) ∙ as-long c.args.text.now c.order_lines.new.lines c.in_ok-count.count h)

pub returns : goal.returns
returns c =
    let h : Holds c.order_lines.new.lines (sort_of at_most (lines_of c.args.text.now)) c.in_ok-count.count = search rules in
    let n = few c.args.text.now c.order_lines.new.lines c.in_ok-count.count h in
    let l = length-take-le (length c.args.text.now) c.args.out.now (omega arith) in
    let w = c.write_lines.ensures (ends_in_newline c.args.text.now) (l ∙ as-long c.args.text.now c.order_lines.new.lines c.in_ok-count.count h) in
    sorted c.args.text.now c.args.out.now
    (ap (λ (z : List ℕ). z ++ drop (length c.args.text.now) c.args.out.now) (w ∙ joined-is c.args.text.now c.order_lines.new.lines c.in_ok-count.count h))
    (omega arith) (omega arith) (omega arith)
