use Rattle.std.proofs.Common.{◌≡◌, ◌+◌, ◌-◌, ℕ, List, take, drop, ap, arith, rules, length}
use Rattle.std.specs.Prelude.{Float}
use Rattle.fft.proofs.Halves.{dropped-count, slice-few}
use Rattle.fft.proofs.real_fft.overs_at.Goals as goal

-- the two slices, and what is counted in each
slices : (z : List Float) (first n : ℕ)
    → (take (first + n - first) (drop first z) ≡ take n (drop first z))
    × (take (256 + first + n - (256 + first)) (drop (256 + first) z) ≡ take n (drop (256 + first) z))
slices z first n =
    let e : first + n - first ≡ n = omega arith in
    let f : 256 + first + n - (256 + first) ≡ n = omega arith in
    (ap (λ (k : ℕ). take k (drop first z)) e, ap (λ (k : ℕ). take k (drop (256 + first) z)) f)

pub overflow_add-result : goal.overflow_add-result
overflow_add-result c =
    let long : length c.args.z.now ≡ 1024 = search rules in
    let few = slice-few c.args.z.now long c.args.first c.args.n c.requires in
    let s = slices c.args.z.now c.args.first c.args.n in
    omega (arith, c.overs_scaled-re.ensures, c.overs_scaled-im.ensures, few c.args.first _ (omega arith) s.0, few (256 + c.args.first) _ (omega arith) s.1)

pub returns : goal.returns
returns c =
    let long : length c.args.z.now ≡ 1024 = search rules in
    let s = slices c.args.z.now c.args.first c.args.n in
    rw (c.overs_scaled-re.ensures, c.overs_scaled-im.ensures) (dropped-count c.args.z.now long c.args.first c.args.n c.requires _ _ s.0 s.1)
