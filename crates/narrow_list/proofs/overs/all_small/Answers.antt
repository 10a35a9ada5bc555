-- `narrow_list::overs::all_small` meets its contract: a group is 32 numbers more. Assumes nothing.
use mathlib.Core.Path.{◌≡◌, ◌∙◌, ap}
use mathlib.Core.List.{List, []}
use Prim.Native.Nat.{ℕ, ◌+◌, ◌*◌, ◌/◌, ◌<◌}
use native.Mathlib.Omega.{arith}
use lib.Ieee.{Float, nan, binary64, add, of_bits}
use lib.ListN.{length, get_or, take, drop}
use lib.Seq.{get_or-take, get_or-drop}
use Rattle.narrow_list.specs.Lanes.{lane}
use Rattle.narrow_list.specs.Short.{square_of}
use Rattle.narrow_list.proofs.Groups.{chunk-at}
use Rattle.narrow_list.proofs.Small.{small-more}
use Rattle.narrow_list.proofs.overs.all_small.Goals as goal

lane-at : (xs : List Float) (m : ℕ) {g : List Float} → g ≡ take 32 (drop m xs) → (k : ℕ) → k < 8
    → lane (add binary64) (λ j. square_of (get_or g j nan)) k ≡ lane (add binary64) (λ j. square_of (get_or xs (m + j) nan)) k
lane-at xs m {g} e k h =
    let at : (j : ℕ) → j < 32 → get_or g j nan ≡ get_or xs (m + j) nan = λ j l. ap (λ (l : List Float). get_or l j nan) e ∙ get_or-take 32 (drop m xs) j nan l ∙ get_or-drop m xs j nan in
    let a = at k (omega arith) in
    let b = at (k + 8) (omega arith) in
    let c = at (k + 16) (omega arith) in
    let d = at (k + 24) (omega arith) in
    cc

pub loop-group-preserved : goal.loop-group-preserved
unfolding of_bits
loop-group-preserved c h k l =
    let xs = c.args.xs.now in
    let i = c.loop-group.group-index in
    let below : i < length xs / 32 = omega (arith, c.as_chunks.ensures.front_len) in
    let g = ap (λ (g : List (List Float)). get_or g i []) c.as_chunks.ensures.front ∙ chunk-at 32 (length xs / 32) i xs [] below in
    let more : k < 32 * i + 32 = omega arith in
    small-more xs (λ j. get_or c.square_sums.result j nan) (32 * i) c.loop-group.small c.total.result c.loop-group.invariant
    (λ j b. c.square_sums.ensures j b ∙ lane-at xs (32 * i) g j b) c.total.ensures h k more
