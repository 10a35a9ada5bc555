use Rattle.std.proofs.Common.{rules, refl, ◌≡◌, ℕ, List}
use Rattle.std.specs.Float.{Float}
use Rattle.laws.specs.Loops.{loops, iter-next}
use Rattle.laws.specs.Parts.{part, part-is}
use Rattle.tau_spectra.specs.Ring.{Ring, met_by}
use Rattle.tau_filter.specs.Filter.{added, echo_to}
use Rattle.tau_filter.proofs.filter.echo.Goals as goal

-- one partition, from what the calls give
turn : (ring : Ring) (weights acc : List Float) (p : ℕ) {w x after : List Float}
    → after ≡ added w x 257 acc → w ≡ part 514 p weights → x ≡ met_by ring p → after ≡ added (part 514 p weights) (met_by ring p) 257 acc
turn ring weights acc p e w x = rw (e, w, x)

pub loop-p-init : goal.loop-p-init
unfolding echo_to
loop-p-init c = search (rules, loops)

pub loop-p-preserved : goal.loop-p-preserved
unfolding echo_to
loop-p-preserved c = iter-next _ _ _ c.loop-p.invariant (turn _ _ _ _ c.multiply_add.ensures (part-is 514 _ _ _ refl) c.met_by.ensures.spectrum)

pub returns : goal.returns
unfolding echo_to
returns c = search (rules, loops)
