-- `line_order::compare_numbers` meets its contract: behind the zeros that lead, the lengths decide, and then the digits. Assumes nothing.
use Rattle.std.proofs.Common.{rules}
use Rattle.line_order.proofs.Numbers.{numbers-compared}
use Rattle.line_order.proofs.compare_numbers.Goals as goal

pub returns : goal.returns
returns c =
    numbers-compared c.args.x.now c.args.y.now c.requires.x_digits c.requires.y_digits c.zeros_len.ensures.value c.zeros_len-2.ensures.value
    c.cmp.ensures c.then_with.ensures (λ k. search rules)
