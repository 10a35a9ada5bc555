use Rattle.std.proofs.Common.{◌≡◌, ◌≢◌, arith, length, true, Err}
use Rattle.refusal.specs.declared.Refusal.TheVariants.{WrongLength}
use Rattle.complex_fft.specs.ComplexFft.{run_of}
use Rattle.complex_fft.specs.Reversal.{reversal_table}
use Rattle.fft.specs.RealFft.{halves_of}
use Rattle.fft.specs.Scratch.{points_in}
use Rattle.fft.proofs.Served.{half_made, half_refused, half_refused_out}
use Rattle.fft.proofs.real_fft.half_as.Goals as goal

pub returns-in_err-source-clause-inverse_half_with : goal.returns-in_err-source-clause-inverse_half_with
returns-in_err-source-clause-inverse_half_with g c =
    let k = g.met.B.Bins.keeps_length c.args.source.now in
    let s : length (g.B.Bins.in_pairs c.args.source.now) ≢ 514 = grind (arith, k) in
    let e : c.from_residual-in_err-source.result ≡ Err WrongLength = grind arith in
    rw e (half_refused _ _ _ _ _ s)

pub returns-in_err-half-clause-inverse_half_with : goal.returns-in_err-half-clause-inverse_half_with
returns-in_err-half-clause-inverse_half_with g c =
    let h : length c.args.half.now ≢ 256 = grind arith in
    let e : c.from_residual-in_err-half.result ≡ Err WrongLength = grind arith in
    rw e (half_refused_out _ _ _ _ _ h)

pub returns-clause-inverse_half_with : goal.returns-clause-inverse_half_with
returns-clause-inverse_half_with g c =
    let t : length c.args.table.now ≡ 514 = grind arith in
    let z : length c.args.scratch.now ≡ 1024 = grind arith in
    let k = g.met.B.Bins.keeps_length c.args.source.now in
    let s : length (g.B.Bins.in_pairs c.args.source.now) ≡ 514 = grind (arith, k) in
    let h : length c.args.half.now ≡ 256 = grind arith in
    let p : points_in c.load_points.new.z ≡ run_of c.args.table.now reversal_table true (halves_of c.args.table.now (g.B.Bins.in_pairs c.args.source.now)) = grind arith in
    half_made _ _ t z _ _ _ _ _ _ s h p c.half_at.ensures.half_after c.half_at.ensures.value
