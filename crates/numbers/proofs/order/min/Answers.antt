-- `numbers::min` meets its contract: each way out is what the two tests of `min_of` pick. Assumes nothing.
use Rattle.std.proofs.Common.{◌≡◌, true, false, sym, ◌∙◌}
use lib.Ieee.{is_nan, lt}
use Rattle.laws.specs.Choice.{pick}
use Rattle.numbers.specs.Order.{min_of}
use Rattle.numbers.proofs.Tests.{ne-self}
use Rattle.numbers.proofs.order.min.Goals as goal

pub returns-then-x : goal.returns-then-x
unfolding min_of pick
returns-then-x c = let n : is_nan c.args.x ≡ true = sym (ne-self c.args.x) ∙ c.if-x.true in rw n

pub returns-then-y-x : goal.returns-then-y-x
unfolding min_of pick
returns-then-y-x c = let n : is_nan c.args.x ≡ false = sym (ne-self c.args.x) ∙ c.if-x.false in
    let l : lt c.args.y c.args.x ≡ true = c.if-y-x.true in
    rw (n, l)

pub returns-else-y-x : goal.returns-else-y-x
unfolding min_of pick
returns-else-y-x c = let n : is_nan c.args.x ≡ false = sym (ne-self c.args.x) ∙ c.if-x.false in
    let l : lt c.args.y c.args.x ≡ false = c.if-y-x.false in
    rw (n, l)
