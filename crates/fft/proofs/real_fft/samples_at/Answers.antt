use Rattle.std.proofs.Common.{◌≡◌, ◌∙◌, ◌+◌, ◌-◌, ◌*◌, ℕ, take, drop, ap, arith, rules, length}
use Rattle.fft.proofs.Scaled.{narrowed-part, counted-part}
use Rattle.fft.proofs.real_fft.samples_at.Goals as goal

pub returns : goal.returns
returns c =
    let long : length c.args.z.now ≡ 1024 = search rules in
    let e : 512 + 2 * c.args.n - 512 ≡ 2 * c.args.n = omega arith in
    let ex = ap (λ (k : ℕ). take k (drop 512 c.scale_points.new.z)) e in
    record {
      out_after = c.narrow_into.ensures.0 ∙ narrowed-part c.args.z.now long c.args.first c.args.n c.requires.within c.scale_points.new.z _ c.args.out.now c.scale_points.ensures ex c.requires.out_len;
      value = c.narrow_into.ensures.1 ∙ counted-part c.args.z.now long c.args.first c.args.n c.requires.within c.scale_points.new.z _ c.args.out.now c.scale_points.ensures ex c.requires.out_len;
    }
