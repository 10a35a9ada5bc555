use Rattle.std.proofs.Common.{rules, arith, ◌≡◌}
use Rattle.std.specs.Float.{nan}
use Rattle.laws.specs.Loops.{loops, over-more, over-later}
use Rattle.laws.specs.Readings.{slide as slide-law}
use Rattle.tau_spectra.specs.Windows.{slid}
use Rattle.tau_spectra.proofs.windows.slide.Goals as goal

pub loop-i-init : goal.loop-i-init
loop-i-init c = search (rules, loops)

pub loop-i-preserved : goal.loop-i-preserved
loop-i-preserved c = rw (over-more nan, c.loop-i.invariant, over-later nan)

pub loop-j-init : goal.loop-j-init
loop-j-init c = search (rules, loops)

pub loop-j-preserved : goal.loop-j-preserved
loop-j-preserved c = search (rules, loops)

pub returns : goal.returns
unfolding slid
returns c =
    let i256 : c.loop-i.i ≡ 256 = omega arith in
    let j256 : c.loop-j.j ≡ 256 = omega arith in
    rw (c.loop-j.invariant, c.loop-i.invariant, i256, j256) (slide-law nan 256 c.args.window.now c.args.block.now (search rules) (search rules))
