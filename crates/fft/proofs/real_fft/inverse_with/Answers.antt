use Rattle.std.proofs.Common.{◌≡◌, ◌≢◌, ◌∙◌, arith, length, true, ap, Err}
use Rattle.refusal.specs.declared.Refusal.TheVariants.{WrongLength}
use Rattle.narrow_list.specs.Overs.{over_count}
use Rattle.complex_fft.specs.ComplexFft.{run_of}
use Rattle.complex_fft.specs.Reversal.{reversal_table}
use Rattle.fft.specs.RealFft.{halves_of}
use Rattle.fft.specs.Scratch.{points_in}
use Rattle.fft.proofs.Halves.{all-points, all-samples}
use Rattle.fft.proofs.Served.{inverse_made, inverse_refused}
use Rattle.fft.proofs.real_fft.inverse_with.Goals as goal

pub returns-in_err-target-clause-inverse_with : goal.returns-in_err-target-clause-inverse_with
returns-in_err-target-clause-inverse_with c =
    let h : length c.args.target.now ≢ 512 = grind arith in
    let e : c.from_residual-in_err-target.result ≡ Err WrongLength = grind arith in
    rw e (inverse_refused _ _ _ _ h)

pub returns-clause-inverse_with : goal.returns-clause-inverse_with
returns-clause-inverse_with c =
    let t : length c.args.table.now ≡ 514 = grind arith in
    let z : length c.args.scratch.now ≡ 1024 = grind arith in
    let s : length c.args.source.now ≡ 514 = grind arith in
    let h : length c.args.target.now ≡ 512 = grind arith in
    let p : points_in c.load_points.new.z ≡ run_of c.args.table.now reversal_table true (halves_of c.args.table.now c.args.source.now) = grind arith in
    inverse_made _ _ t z _ _ _ _ _ s h p (c.samples_at.ensures.out_after ∙ all-samples c.load_points.new.z) (c.samples_at.ensures.value ∙ ap over_count (all-points c.load_points.new.z))
