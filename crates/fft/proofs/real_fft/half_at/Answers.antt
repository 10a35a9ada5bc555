-- The half that is given and the half that is only counted are the two halves. Assumes nothing.
use Rattle.std.proofs.Common.{◌≡◌, ◌+◌, ◌∙◌, arith, add_comm}
use Rattle.narrow_list.specs.Overs.{over_count}
use Rattle.fft.specs.Scratch.{points_in}
use Rattle.fft.proofs.Halves.{points-few, both_halves, later-half, first-half}
use Rattle.fft.proofs.real_fft.half_at.Goals.{then-later, else-later}
use Rattle.fft.proofs.real_fft.half_at.Goals as goal

pub returns-clause-half_after : goal.returns-clause-half_after
returns-clause-half_after c =
    rw c.samples_at.ensures.out_after
    (elim c.if-later.branch [
      | then-later w ↦ rw w.given-is (later-half c.args.z.now c.args.later w.if-later.true)
      | else-later w ↦ rw w.given-is (first-half c.args.z.now c.args.later w.if-later.false)
    ])

pub returns-clause-value : goal.returns-clause-value
returns-clause-value c =
    rw (c.overs_at-overs.ensures, c.samples_at.ensures.value)
    (elim c.if-later.branch [
      | then-later w ↦ rw w.given-is (both_halves c.args.z.now)
      | else-later w ↦ rw w.given-is (add_comm _ _ ∙ both_halves c.args.z.now)
    ])

pub overflow_add-result : goal.overflow_add-result
overflow_add-result c =
    let all : c.overs_at-overs.result + c.samples_at.result ≡ over_count (points_in c.args.z.now) =
    rw (c.overs_at-overs.ensures, c.samples_at.ensures.value)
    (elim c.if-later.branch [
      | then-later w ↦ rw w.given-is (both_halves c.args.z.now)
      | else-later w ↦ rw w.given-is (add_comm _ _ ∙ both_halves c.args.z.now)
    ]) in
    omega (arith, all, points-few c.args.z.now)
