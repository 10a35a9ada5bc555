-- `text::digits::least_count` meets its contract: the logarithm's power is not above n, and the next one is. Assumes nothing.
use Rattle.std.proofs.Common.{rules}
use Rattle.text.proofs.Powers.{count-some, count-none}
use Rattle.text.proofs.digits.least_count.Goals as goal

pub returns-in-Some : goal.returns-in-Some
returns-in-Some c = count-some c.args.n c.args.base c.in-Some.k (search rules) (search rules)

pub returns-in-None : goal.returns-in-None
returns-in-None c = count-none c.args.n c.args.base (search rules) (search rules)
