-- `line_order::compare_by_value` meets its contract: what is left of the two lines has the order that they have. Assumes nothing.
use Rattle.std.proofs.Common.{sym, ◌∙◌, rules, inl, inr}
use Rattle.line_order.proofs.Walk.{part-digits, ended, number-settles, number-turn, byte-settles, byte-turn}
use Rattle.line_order.proofs.compare_by_value.Goals as goal
use Rattle.line_order.proofs.compare_by_value.Goals.{in_default, in_default-2}

pub compare_numbers-order-requires-clause-x_digits : goal.compare_numbers-order-requires-clause-x_digits
compare_numbers-order-requires-clause-x_digits c = rw c.split_at.ensures.front (part-digits c.loop-s.s.now c.digits_len.ensures.value)

pub compare_numbers-order-requires-clause-y_digits : goal.compare_numbers-order-requires-clause-y_digits
compare_numbers-order-requires-clause-y_digits c =
    rw c.split_at-then-both_digits.ensures.front (part-digits c.loop-s.t.now c.digits_len-then-both_digits.ensures.value)

pub returns-then-is_ne : goal.returns-then-is_ne
returns-then-is_ne c =
    sym
    (c.loop-s.invariant
    ∙ number-settles c.loop-s.s.now c.loop-s.t.now (search rules) (search rules) (sym c.both_digits.ensures ∙ c.if-both_digits.true)
    c.digits_len.ensures.value c.digits_len-then-both_digits.ensures.value c.split_at.ensures.front c.split_at-then-both_digits.ensures.front
    c.compare_numbers-order.ensures (sym c.is_ne.ensures ∙ c.if-is_ne.true))

pub loop-s-preserved-else-is_ne : goal.loop-s-preserved-else-is_ne
loop-s-preserved-else-is_ne c =
    c.loop-s.invariant
    ∙ number-turn c.loop-s.s.now c.loop-s.t.now (search rules) (search rules) (sym c.both_digits.ensures ∙ c.if-both_digits.true)
    c.digits_len.ensures.value c.digits_len-then-both_digits.ensures.value c.split_at.ensures.front c.split_at-then-both_digits.ensures.front
    c.compare_numbers-order.ensures (sym c.is_ne.ensures ∙ c.if-is_ne.false) c.split_at.ensures.back c.split_at-then-both_digits.ensures.back

pub returns-then-x-y : goal.returns-then-x-y
returns-then-x-y c =
    c.cmp.ensures
    ∙ sym
    (c.loop-s.invariant
    ∙ byte-settles c.loop-s.s.now c.loop-s.t.now (search rules) (search rules) (sym c.both_digits.ensures ∙ c.if-both_digits.false) c.if-x-y.true)

pub loop-s-preserved : goal.loop-s-preserved
loop-s-preserved c =
    c.loop-s.invariant
    ∙ byte-turn c.loop-s.s.now c.loop-s.t.now (search rules) (search rules) (sym c.both_digits.ensures ∙ c.if-both_digits.false) c.if-x-y.false

pub returns : goal.returns
returns c =
    c.cmp-2.ensures
    ∙ sym
    (c.loop-s.invariant
    ∙ elim c.if-s-lt1.branch [
      | in_default w ↦ ended c.loop-s.s.now c.loop-s.t.now (inl (search rules))
      | in_default-2 w ↦ ended c.loop-s.s.now c.loop-s.t.now (inr (search rules))
    ])
