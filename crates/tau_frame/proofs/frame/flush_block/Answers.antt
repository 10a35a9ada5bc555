use Rattle.std.proofs.Common.{refl}
use borrow.Author.Tests.{eq-eqb}
use Rattle.laws.specs.Choice.{pick_yes}
use Rattle.tau_frame.specs.Pairs.{flushed_of}
use Rattle.tau_frame.proofs.Ended.{flush-is}
use Rattle.tau_frame.proofs.frame.flush_block.Goals as goal

pub returns-then-carried-eq0-clause-framed : goal.returns-then-carried-eq0-clause-framed
unfolding flushed_of
returns-then-carried-eq0-clause-framed c = rw (c.stay.ensures.delivered, c.stay.ensures.last) (pick_yes _ _ _ (eq-eqb _ _ c.if-carried-eq0.true) refl)

pub returns-clause-framed : goal.returns-clause-framed
returns-clause-framed c =
    let flushed = flush-is _ _ _ _ _ _ _ _ c.pad-near.ensures c.pad-far.ensures c.if-carried-eq0.false c.requires.ranged.waiting c.requires.room
    _ c.run_block-told.ensures.ran _ c.put.ensures in
    flushed.run
