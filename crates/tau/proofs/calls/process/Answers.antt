use Rattle.tau.proofs.calls.process.Goals as goal

pub returns : goal.returns
returns c = rw c.answer_of.ensures c.process_unreported.ensures
