use Rattle.std.proofs.Common.{ℕ, ◌<◌, ◌∙◌, sym, ap, subst, arith}
use Rattle.rho_sample.specs.Sample.{Stepped}
use Rattle.rho.proofs.Going.{going-turn, going_end, step-taps, step-ring}
use Rattle.rho.proofs.calls.run.Goals as goal

pub loop-k-preserved : goal.loop-k-preserved
loop-k-preserved c =
    let q = rw (c.finite_or_zero-x.ensures, c.finite_or_zero-y.ensures) at c.step.ensures in
    let taps = ap (λ (z : Stepped). z.engine.state.taps) c.step.ensures ∙ step-taps _ _ _ in
    let ring = subst (λ (p : ℕ). p < c.loop-k.state.taps) (sym (ap (λ (z : Stepped). z.engine.state.pos) c.step.ensures)) (step-ring _ _ _ c.loop-k.invariant.pos_lt_taps) in
    record {
      weights_len = omega (arith, taps, c.loop-k.invariant.weights_len);
      history_len = omega (arith, taps, c.loop-k.invariant.history_len);
      pos_lt_taps = subst (λ (n : ℕ). c.step.new.state.pos < n) (sym taps) ring;
      going = going-turn c.loop-k.invariant.going (omega arith) (omega arith) (omega arith) _ _ (ap (λ (z : Stepped). z.engine) q) (ap (λ (z : Stepped). z.output) q);
    }

pub returns : goal.returns
returns c = let q = going_end c.loop-k.invariant.going (omega arith) in record { engine_after = q.0; out_after = q.1 }
