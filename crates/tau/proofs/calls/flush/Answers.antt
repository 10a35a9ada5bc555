use Rattle.tau.proofs.calls.flush.Goals as goal

pub returns : goal.returns
returns c = rw c.answer_of.ensures c.flush_unreported.ensures
