use Rattle.std.proofs.Common.{refl, sym, ◌∙◌}
use borrow.Author.Tests.{eq-eqb, ne_eqb}
use Rattle.laws.specs.Choice.{pick_yes, pick_no}
use Rattle.tau_fresh.proofs.Accepted.{accepted-flush}
use Rattle.tau.specs.Calls.{flush_of}
use Rattle.tau.proofs.Served.{served-is}
use Rattle.tau.proofs.calls.flush_in_place.Goals as goal

pub returns-then-refusal-ne0 : goal.returns-then-refusal-ne0
unfolding flush_of
returns-then-refusal-ne0 c =
    rw (c.stay.ensures.delivered, c.stay.ensures.last, ← c.requires) (pick_no _ _ _ (ne_eqb _ _ c.if-refusal-ne0.true) refl)

pub flush_block-requires : goal.flush_block-requires
flush_block-requires c =
    let accepted = accepted-flush _ _ _ _ _ _ (sym c.requires ∙ c.if-refusal-ne0.false) in
    record {
      ranged = accepted.state.ranged;
      shadow_len = accepted.state.sizes.shadow;
      output_len = accepted.state.sizes.output;
      spectra_len = accepted.state.sizes.spectra;
      powers_len = accepted.state.sizes.powers;
      room = accepted.room;
    }

pub returns : goal.returns
unfolding flush_of
returns c =
    rw (← c.requires) (pick_yes _ _ _ (eq-eqb _ _ c.if-refusal-ne0.false)
    (served-is _ _ _ _ _ _ c.flush_block.ensures.framed c.flush_block.ensures.out_unchanged c.flush_block.ensures.delivered_in_bounds _ (rw c.if-refusal-ne0.false)))
