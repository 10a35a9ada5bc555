use Rattle.std.proofs.Common.{rules, arith, refl, sym, ap, subst, ◌≤◌, ℕ}
use Rattle.laws.specs.Loops.{iter-none, iter-next, iter_end}
use Rattle.laws.specs.Parts.{part-is, with-is}
use Rattle.fft.proofs.Sizes.{overs-512}
use Rattle.tau_spectra.specs.FarRing.{ring_in}
use Rattle.tau_update.specs.Update.{Learnt, learnt_to}
use Rattle.tau_update.proofs.Learning.{learnt-turn, learnt-few}
use Rattle.tau_update.proofs.update.learn.Goals as goal

pub loop-p-init : goal.loop-p-init
unfolding learnt_to
loop-p-init c = (search rules, iter-none _ _)

pub overflow_add-overs : goal.overflow_add-overs
unfolding learnt_to
overflow_add-overs c =
    let few = learnt-few (ring_in c.args.ring.now) c.args.e.now c.args.rates.now c.args.shadow.now c.loop-p.p in
    let more : c.constrain-overs.result ≤ 512 = subst (λ (n : ℕ). n ≤ 512) (sym c.constrain-overs.ensures.overs) (overs-512 _) in
    omega (arith, ap (λ (l : Learnt). l.overs) c.loop-p.invariant.1, few, more)

pub loop-p-preserved : goal.loop-p-preserved
unfolding learnt_to
loop-p-preserved c = (
  search rules,
  iter-next _ _ _ c.loop-p.invariant.1
      (learnt-turn _ _ _ _ _ _ _ c.met_by.ensures.spectrum c.gradient.ensures c.constrain-overs.ensures.g_after (part-is 514 _ _ _ refl) c.take_step-fine.ensures.w_after c.take_step-fine.ensures.finite (with-is 514 _ _ _ _ refl) c.constrain-overs.ensures.overs),
)

pub returns : goal.returns
unfolding learnt_to
returns c = iter_end _ _ _ _ c.loop-p.invariant.1 (omega arith) (omega arith)
