-- A call that waits, or runs, is the accepted process. Each return is shown by itself: together they are too much for one. Assumes nothing.
use Rattle.std.proofs.Common.{arith, refl, sym, ◌∙◌}
use borrow.Author.Tests.{eq-eqb, ne_eqb}
use Rattle.laws.specs.Choice.{pick_yes, pick_no}
use Rattle.tau_run.specs.Ran.{engine_of}
use Rattle.tau_fresh.proofs.Accepted.{accepted-pairs}
use Rattle.tau.specs.Calls.{process_of}
use Rattle.tau.proofs.Served.{served-is, served-waits}
use Rattle.tau.proofs.calls.process_in_place.Goals as goal

pub returns-then-refusal-ne0 : goal.returns-then-refusal-ne0
unfolding process_of
returns-then-refusal-ne0 c =
    rw (c.stay.ensures.delivered, c.stay.ensures.last, ← c.requires) (pick_no _ _ _ (ne_eqb _ _ c.if-refusal-ne0.true) refl)

pub overflow_add-state : goal.overflow_add-state
overflow_add-state c =
    let accepted = accepted-pairs _ _ _ _ _ _ _ _ (sym c.requires ∙ c.if-refusal-ne0.false) in
    omega (arith, accepted.state.ranged.waiting, accepted.pairs.few)

pub wait-requires : goal.wait-requires
wait-requires c =
    let accepted = accepted-pairs _ _ _ _ _ _ _ _ (sym c.requires ∙ c.if-refusal-ne0.false) in
    record { room = omega (arith, c.if-state-near-lt256.true); level = accepted.pairs.level }

pub returns-then-state-near-lt256 : goal.returns-then-state-near-lt256
unfolding process_of
returns-then-state-near-lt256 c =
    let accepted = accepted-pairs _ _ _ _ _ _ _ _ (sym c.requires ∙ c.if-refusal-ne0.false) in
    let e = engine_of c.args.state.now c.args.shadow.now c.args.output.now c.args.spectra.now c.args.powers.now in
    rw (c.wait.ensures.delivered, c.wait.ensures.last, c.wait.ensures.waits, ← c.requires) (pick_yes _ _ _ (eq-eqb _ _ c.if-refusal-ne0.false)
    (served-waits c.args.refusal e c.args.near.now c.args.far.now c.args.out.now c.if-refusal-ne0.false accepted.pairs.level (omega (arith, c.if-state-near-lt256.true))))

pub run-requires : goal.run-requires
run-requires c =
    let accepted = accepted-pairs _ _ _ _ _ _ _ _ (sym c.requires ∙ c.if-refusal-ne0.false) in
    record {
      ranged = accepted.state.ranged;
      shadow_len = accepted.state.sizes.shadow;
      output_len = accepted.state.sizes.output;
      spectra_len = accepted.state.sizes.spectra;
      powers_len = accepted.state.sizes.powers;
      level = accepted.pairs.level;
      few = accepted.pairs.few;
      room = accepted.pairs.room;
    }

pub returns : goal.returns
unfolding process_of
returns c =
    rw (← c.requires) (pick_yes _ _ _ (eq-eqb _ _ c.if-refusal-ne0.false)
    (served-is _ _ _ _ _ _ c.run.ensures.framed c.run.ensures.out_unchanged c.run.ensures.delivered_in_bounds _ (rw c.if-refusal-ne0.false)))
