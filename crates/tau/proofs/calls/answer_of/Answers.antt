use Rattle.tau.proofs.calls.answer_of.Goals as goal

pub returns : goal.returns
returns c = rw c.report_of.ensures
