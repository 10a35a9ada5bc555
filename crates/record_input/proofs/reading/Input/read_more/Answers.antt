-- `Input::read_more` meets its contract. Assumes nothing.
use borrow.Author.Rules.{rules}
use Rattle.record_input.proofs.Turns.{grew}
use Rattle.record_input.proofs.reading.Input.read_more.Goals as goal

pub returns : goal.returns
returns g c =
    grew c.args.self.now c.copy_within.new.self c.read_some.new.block c.in-Some.more (search rules) (search rules)
    c.requires.ended_value.0 c.requires.ended_value.1 c.copy_within.ensures.after (search rules)
