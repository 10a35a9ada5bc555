-- `pipe::say_why` meets its contract: where the line has room, what is written is the string that it was put together in. Assumes nothing.
use Rattle.std.proofs.Common.{rules}
use Rattle.std.proofs.Output.{if_some_weaken}
use Rattle.pipe.proofs.Said.{line-written}
use Rattle.pipe.proofs.say_why.Goals as goal

pub returns-then-is_ok : goal.returns-then-is_ok
returns-then-is_ok g c = λ ok.
    if_some_weaken (g.D.Display.output c.args.why.now) _ _ (λ text e. search rules)
    (line-written c.writeln.result c.args.program.now (g.D.Display.output c.args.why.now) _ _ (search rules) c.new-line.ensures c.writeln.ensures.writes)
