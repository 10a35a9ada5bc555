-- `manifest::place::order_lines` meets its contract: after `count` turns the first `count` lines are in order, and the others are those of
-- `rest`. Assumes nothing.
use Rattle.std.proofs.Common.{◌∷◌, ◌+◌, ◌≡◌, ◌∙◌, ◌<◌, List, ℕ, refl, ap, arith, rules, subst, length, take, drop, Bor}
use lib.ListN.{length}
use Rattle.line_order.specs.Order.{at_most}
use Rattle.manifest.specs.Lines.{lines_of}
use Rattle.manifest.specs.Sorting.{sort_of, insert_of}
use Rattle.manifest.specs.Steps.{up_to, lines_in, Holds}
use Rattle.manifest.proofs.Lines.{lines-split, lines-none}
use Rattle.manifest.proofs.Places.{sorted-more, rest-more, more-left, holds-all, holds-none, in-order}
use Rattle.manifest.proofs.place.order_lines.Goals as goal

-- a line more
next : (all : List (List ℕ)) (s : List ℕ) (n : ℕ) {lent after : List (Bor (List ℕ))} {line rest : List ℕ}
    → drop n all ≡ lines_of s → 0 < length s → line ≡ up_to s → rest ≡ drop (length (up_to s) + 1) s
    → Holds lent (sort_of at_most (take n all)) n → Holds after (insert_of at_most line (lines_in (take n lent))) (n + 1)
    → Holds after (sort_of at_most (take (n + 1) all)) (n + 1) × (drop (n + 1) all ≡ lines_of rest)
next all s n {lent} {after} {line} {rest} e h p q held put =
    let f : drop n all ≡ line ∷ lines_of rest = e ∙ lines-split s h p q in (
      subst (λ (ls : List (List ℕ)). Holds after ls (n + 1)) (ap (insert_of at_most line) held.same ∙ sorted-more all n line (lines_of rest) f) put,
      rest-more all n line (lines_of rest) f,
    )

pub loop-rest-init : goal.loop-rest-init
loop-rest-init c = (refl, holds-none c.args.lines.now, refl)

pub returns-then-count-lines : goal.returns-then-count-lines
returns-then-count-lines c =
    let m = more-left (lines_of c.args.text.now) c.loop-rest.count (up_to c.loop-rest.rest.now) _
    (c.loop-rest.invariant.2 ∙ lines-split c.loop-rest.rest.now (search rules) refl refl) in
    omega arith

pub insert-requires-clause-in_order : goal.insert-requires-clause-in_order
insert-requires-clause-in_order c = in-order _ _ _ c.loop-rest.invariant.1

pub loop-rest-preserved : goal.loop-rest-preserved
loop-rest-preserved c =
    let n = next (lines_of c.args.text.now) c.loop-rest.rest.now c.loop-rest.count c.loop-rest.invariant.2 (search rules) c.split_line.ensures.line
    c.split_line.ensures.rest c.loop-rest.invariant.1 c.insert.ensures in
    (c.insert.auto.lines ∙ c.loop-rest.invariant.0, n.0, n.1)

pub returns : goal.returns
returns c = holds-all _ _ c.loop-rest.count (c.loop-rest.invariant.2 ∙ lines-none c.loop-rest.rest.now (search rules)) c.loop-rest.invariant.1
