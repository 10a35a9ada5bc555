use Rattle.tau_update.specs.Update.{gradient_at, gradient_of}
use mathlib.Core.Path.{◌≡◌, ◌∙◌}
use native.Mathlib.Omega.{arith}
use lib.Ieee.{nan}
use Rattle.laws.specs.Loops.{over2-none, over2-next}
use Rattle.laws.specs.Readings.{over2-table}
use borrow.Author.Rules.{rules}
use Rattle.tau_update.proofs.update.gradient.Goals as goal

pub loop-k-init : goal.loop-k-init
unfolding gradient_of gradient_at
loop-k-init c = (search rules, over2-none nan _ _ _)

pub loop-k-preserved : goal.loop-k-preserved
unfolding gradient_of gradient_at
loop-k-preserved c = (search rules, over2-next nan _ _ _ _ c.loop-k.invariant.1 (rw (c.put.ensures, c.scale.ensures, c.new-z.ensures, c.get-v.ensures, c.get-u.ensures)))

pub returns : goal.returns
unfolding gradient_of gradient_at
returns c = let n : c.loop-k.k ≡ 257 = omega arith in rw n at c.loop-k.invariant.1 ∙ over2-table nan 257 _ _ _ (search rules)
