use Rattle.std.proofs.Common.{◌≡◌, ◌≢◌, arith, length, false}
use Rattle.refusal.specs.Refusal.{number_in}
use Rattle.self_sorting.specs.Passes.{loaded, points_of, passes}
use Rattle.fft.specs.RealFft.{bins_of}
use Rattle.fft.proofs.Served.{forward_made, forward_refused}
use Rattle.fft.proofs.real_fft.forward_as.Goals as goal

pub returns-in_err-bins-clause-forward_with : goal.returns-in_err-bins-clause-forward_with
returns-in_err-bins-clause-forward_with g c =
    let k = g.met.B.Bins.keeps_length c.args.bins.now in
    let b : length (g.B.Bins.in_pairs c.args.bins.now) ≢ 514 = grind (arith, k) in
    let two : number_in c.from_residual-in_err-bins.result ≡ 2 = grind arith in
    rw two (forward_refused _ _ _ _ b)

pub returns-clause-forward_with : goal.returns-clause-forward_with
returns-clause-forward_with g c =
    let t : length c.args.table.now ≡ 514 = grind arith in
    let z : length c.args.scratch.now ≡ 1024 = grind arith in
    let x : length c.args.samples.now ≡ 512 = grind arith in
    let k = g.met.B.Bins.keeps_length c.args.bins.now in
    let b : length (g.B.Bins.in_pairs c.args.bins.now) ≡ 514 = grind (arith, k) in
    let e : g.B.Bins.in_pairs c.transform_loaded.new.out ≡ bins_of c.args.table.now (points_of (passes c.args.table.now false (loaded c.args.samples.now c.args.scratch.now))) = grind arith in
    forward_made _ _ t z _ _ _ x b e
