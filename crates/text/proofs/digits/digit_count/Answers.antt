-- `text::digits::digit_count` meets its contract: padded, the digits still hold the number. Assumes nothing.
use Rattle.std.proofs.Common.{rules}
use Rattle.text.proofs.Powers.{count-padded}
use Rattle.text.proofs.digits.digit_count.Goals as goal

pub returns : goal.returns
returns c = count-padded c.args.n c.args.base c.args.width c.least_count.result c.max.result (search rules) (search rules) c.least_count.ensures (search rules) (search rules) (search rules)
