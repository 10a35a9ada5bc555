-- `reasons::tally::summary` meets its contract: the heading, and a row for each number. Assumes nothing.
use Rattle.std.proofs.Common.{ℕ, zero, suc, ◌+◌, ◌-◌, ◌≡◌, ◌≤◌, List, get_or, refl, subst, arith, rules}
use Rattle.reasons.specs.Tally.{Heading, Row, Rows}
use Rattle.reasons.proofs.tally.summary.Invariants.{Going}
use Rattle.reasons.proofs.tally.summary.Goals as goal

begun : {blocks : ℕ} (counts : List ℕ) {t : List ℕ} → Heading blocks t → Going blocks counts 0 t
unfolding Rows
begun counts {t} h = record { heading = t; is-heading = h; is-rows = refl }

next : {blocks : ℕ} {counts : List ℕ} (n : ℕ) {s t : List ℕ} → 1 ≤ n → Going blocks counts (n - 1) s → Row (get_or counts n 0) n s t
    → Going blocks counts (n + 1 - 1) t
unfolding Rows
next zero h g r = absurd (omega arith)
next {blocks} {counts} (suc n) {s} {t} h g r =
    subst (λ (k : ℕ). Going blocks counts k t) (more n)
    (let f : Going blocks counts n s = subst (λ (k : ℕ). Going blocks counts k s) (less n) g in
    record { heading = f.heading; is-heading = f.is-heading; is-rows = record { above = s; is-above = f.is-rows; is_row = r } })
  where
    less : (n : ℕ) → suc n - 1 ≡ n
    less n = omega arith

    more : (n : ℕ) → suc n ≡ suc n + 1 - 1
    more n = omega arith

pub loop-number-init : goal.loop-number-init
loop-number-init c = (search rules, begun c.args.counts.now c.push_heading.ensures.heading)

pub loop-number-preserved : goal.loop-number-preserved
loop-number-preserved c = (search rules, next c.loop-number.number (search rules) c.loop-number.invariant.1 c.push_row.ensures.row)
