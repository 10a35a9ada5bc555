-- `narrow_list::narrow_into` meets its contract: a group is 32 places more, and what is left goes to the end of the shorter list. Assumes nothing.
use mathlib.Core.Path.{◌≡◌, refl, ap, ◌∙◌, subst}
use mathlib.Core.List.{[], map}
use Prim.Native.Nat.{ℕ, ◌+◌, ◌-◌, ◌*◌, ◌/◌, ◌≤◌, min}
use native.Mathlib.Omega.{arith}
use lib.ListN.{length, get_or, take}
use Rattle.std.proofs.lemmas.List.{length-take, take_min}
use Rattle.numbers.specs.Narrowing.{narrow_of}
use Rattle.narrow_list.specs.Overs.{over_count}
use Rattle.narrow_list.proofs.Groups.{Front, front-none, front-more, front-all, group-is, rest-is}
use Rattle.narrow_list.proofs.OverCounts.{overs-take, overs-few, overs-part}
use Rattle.narrow_list.proofs.narrow_into.Goals as goal

pub loop-i-init : goal.loop-i-init
unfolding over_count
loop-i-init c = (front-none _ _ _, refl)

pub overflow_add-overs : goal.overflow_add-overs
overflow_add-overs c = omega (arith, c.loop-i.invariant.1, overs-take (32 * c.loop-i.i) c.args.xs.now, c.narrow_group-overs.ensures.overs, overs-few (get_or c.as_chunks.result.0.now c.loop-i.i []))

pub loop-i-preserved : goal.loop-i-preserved
loop-i-preserved c =
    let xs = c.args.xs.now in
    let i = c.loop-i.i in
    let fits : c.lesser-n.result ≤ length xs = omega (arith, c.lesser-n.ensures) in
    let g = group-is xs c.lesser-n.result fits i [] c.as_chunks.ensures.front (omega (arith, c.as_chunks.ensures.front_len)) in
    let e : 32 * i + 32 ≤ c.lesser-n.result = omega (arith, length-take c.lesser-n.result xs, c.as_chunks.ensures.front_len) in
    let more : 32 * i + 32 ≡ 32 * (i + 1) = omega arith in (
      front-more c.loop-i.invariant.0 (32 * i + 32) (32 * (i + 1)) _ (omega arith) (omega arith) (omega (arith, c.lesser-n.ensures)) more (c.narrow_group-overs.ensures.out_after ∙ ap (map narrow_of) g),
      overs-part (32 * i) (32 * i + 32) (32 * (i + 1)) xs (omega arith) more c.loop-i.invariant.1 (c.narrow_group-overs.ensures.overs ∙ ap over_count g),
    )

pub overflow_add-result : goal.overflow_add-result
overflow_add-result c = omega (arith, c.loop-i.invariant.1, overs-take (32 * c.loop-i.i) c.args.xs.now, c.one_by_one.ensures.overs, overs-few c.as_chunks.result.1.now)

pub returns : goal.returns
returns c =
    let xs = c.args.xs.now in
    let n = c.lesser-n.result in
    let rest = c.as_chunks.result.1.now in
    let fits : n ≤ length xs = omega (arith, c.lesser-n.ensures) in
    let cut : length (take n xs) ≡ n = omega (arith, length-take n xs) in
    let i : c.loop-i.i ≡ length (take n xs) / 32 = omega (arith, c.as_chunks.ensures.front_len) in
    let m : 32 * c.loop-i.i ≡ n - length rest = omega (arith, c.as_chunks.ensures.back_len) in
    let r = rest-is xs n fits (n - length rest) c.as_chunks.ensures.back (omega arith) in
    let least : n ≡ min (length c.args.out.now) (length xs) = omega (arith, c.lesser-n.ensures) in
    let front = subst (λ (j : ℕ). Front narrow_of xs c.args.out.now j c.loop-i.out) m c.loop-i.invariant.0 in (
      front-all (front-more front n n _ (omega arith) fits (omega (arith, c.lesser-n.ensures)) refl (c.one_by_one.ensures.out_after ∙ ap (map narrow_of) r)) c.lesser-n.ensures,
      overs-part (n - length rest) n n xs (omega arith) refl (c.loop-i.invariant.1 ∙ ap (λ (j : ℕ). over_count (take j xs)) m) (c.one_by_one.ensures.overs ∙ ap over_count r) ∙ ap (λ (j : ℕ). over_count (take j xs)) least ∙ ap over_count (take_min (length c.args.out.now) xs),
    )
