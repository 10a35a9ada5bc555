use Rattle.std.proofs.Common.{arith, rules}
use Rattle.tau_frame.proofs.Going.{going_start, going-wait, going-room, going-block, going_end}
use Rattle.tau_frame.proofs.frame.run.Goals.{then-at-eq255, else-at-eq255}
use Rattle.tau_frame.proofs.frame.run.Goals as goal

pub loop-k-init : goal.loop-k-init
loop-k-init c =
    going_start _ _ _ _ c.requires.ranged (record { shadow = c.requires.shadow_len; output = c.requires.output_len; spectra = c.requires.spectra_len; powers = c.requires.powers_len })
    (search rules) (search rules)

pub loop-k-preserved : goal.loop-k-preserved
loop-k-preserved c =
    let going = c.loop-k.invariant in
    let near-more = c.loop-k-test.true in
    elim c.if-at-eq255.branch [
      | then-at-eq255 w ↦
          rw (w.state-is, w.shadow-is, w.output-is, w.spectra-is, w.powers-is, w.out-is, w.last-is, w.done-is)
          (going-block going near-more (omega (arith, near-more, c.requires.level)) _ _ c.finite_or_zero.ensures c.finite_or_zero-in-loop-k.ensures w.if-at-eq255.true
          (going-room going near-more (omega (arith, near-more, c.requires.level)) _ _ c.finite_or_zero.ensures c.finite_or_zero-in-loop-k.ensures w.if-at-eq255.true c.requires.room)
          _ w.full_block-told.ensures _ w.put.ensures)
      | else-at-eq255 w ↦
          rw (w.state-is, w.shadow-is, w.output-is, w.spectra-is, w.powers-is, w.out-is, w.last-is, w.done-is)
          (going-wait going near-more (omega (arith, near-more, c.requires.level)) _ _ c.finite_or_zero.ensures c.finite_or_zero-in-loop-k.ensures w.if-at-eq255.false)
    ]

pub returns-clause-framed : goal.returns-clause-framed
returns-clause-framed c = let ended = going_end c.loop-k.invariant (omega arith) in ended.run
