use Rattle.std.proofs.Common.{◌≡◌, ◌∙◌, arith, rules, length}
use Rattle.std.specs.Float.{nan}
use Rattle.laws.specs.Loops.{over2-next}
use Rattle.laws.specs.Readings.{over2-table}
use Rattle.self_sorting.specs.Passes.{points_of}
use Rattle.fft.specs.RealFft.{bin_of, bins_of}
use Rattle.fft.proofs.Ends.{over2-first}
use Rattle.fft.proofs.real_fft.recombine.Goals as goal

pub loop-k-init : goal.loop-k-init
loop-k-init g c =
    let bins = bin_of c.args.table.now (points_of c.args.z.now) in
    let out = g.B.Bins.in_pairs c.args.out.now in
    let n : length c.args.out.now ≡ 514 = search rules in
    rw (c.put.ensures, c.bin.ensures) (over2-first (λ k. (bins k).re) (λ k. (bins k).im) out (omega (arith, n, g.met.B.Bins.keeps_length c.args.out.now)))

pub loop-k-preserved : goal.loop-k-preserved
loop-k-preserved g c = over2-next nan _ _ _ _ c.loop-k.invariant (rw (c.put-in-loop-k.ensures, c.bin-in-loop-k.ensures))

pub returns : goal.returns
unfolding bins_of
returns g c =
    let e : c.loop-k.k ≡ 256 = omega arith in
    let n : length c.put.new.s ≡ 514 = search rules in
    over2-next nan _ _ _ 256 (rw e at c.loop-k.invariant) (rw (c.put-2.ensures, c.bin-2.ensures)) ∙ over2-table nan 257 _ _ _ (g.met.B.Bins.keeps_length c.put.new.s ∙ n)
