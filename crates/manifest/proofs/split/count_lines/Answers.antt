-- `manifest::split::count_lines` meets its contract: the lines counted and those that are left are the text's. Assumes nothing.
use Rattle.std.proofs.Common.{◌≡◌, ◌∙◌, ◌+◌, ◌-◌, ◌<◌, ap, arith, refl, rules, length}
use lib.ListN.{length-drop}
use Rattle.manifest.specs.Steps.{up_to}
use Rattle.manifest.proofs.Lines.{lines-split, lines-none}
use Rattle.manifest.proofs.split.count_lines.Goals as goal

pub loop-rest-preserved : goal.loop-rest-preserved
loop-rest-preserved c =
    let s = c.loop-rest.rest.now in
    let k = length (up_to s) in
    let h : 0 < length s = search rules in
    let n = ap length (lines-split s h refl c.split_line.ensures.rest) in
    let l : length c.split_line.result.1.now ≡ length s - (k + 1) = ap length c.split_line.ensures.rest ∙ length-drop (k + 1) s in
    let i = c.loop-rest.invariant.0 in
    let j = c.loop-rest.invariant.1 in
    (omega arith, omega arith)

pub returns : goal.returns
returns c =
    let n = ap length (lines-none c.loop-rest.rest.now (search rules)) in
    let j = c.loop-rest.invariant.1 in
    omega arith
