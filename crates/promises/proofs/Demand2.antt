-- Demand 2, from what each crate proves of its calls. Assumes nothing.
use mathlib.Core.Path.{◌≡◌, refl, sym, ap, ◌∙◌}
use Rattle.laws.specs.Choice.{pick-if}
use Rattle.complex_fft.proofs.Served.{complex-served}
use Rattle.fft.proofs.Served.{forward-served, inverse-served, forward-with-served, inverse-with-served, half-with-served}
use Rattle.rho_streams.proofs.Counts as rho_counts
use Rattle.tau_block_laws.specs.Resets.{clears_of, how_many}
use Rattle.tau_block_laws.proofs.Ran.{ran-transfers}
use Rattle.tau_block_laws.proofs.Resets.{ran-resets, more-held, shadow-clears, output-clears, update-clears, guard-clears}
use Rattle.rho_state.specs.State as rho_states
use Rattle.rho.specs.Calls as rho
use Rattle.tau_state.specs.Report.{reason_in, outcome_of, report_of}
use Rattle.tau.specs.Calls as tau
use Rattle.tau.proofs.Accepted as accepted
use Rattle.tau_streams.proofs.Counts as tau_counts
use Rattle.tau_streams.proofs.Outcomes.{process-reports, flush-reports, process-outcome, flush-outcome, process-none, process-some, flush-none, flush-some, none-outcome, process-idle, flush-idle, process-leak, flush-leak}
use Rattle.promises.specs.Demand2.{TransformRuns, ComplexRuns, LentRuns, TauBegins, RhoBegins, TauRuns, RhoRuns, TauWrites, RhoWrites, TauIdle, TauReports, RhoReports, Leaks, Transfers, Resets, StepsClear}

pub transform-runs : TransformRuns
transform-runs x s out h k = (forward-served x out h, inverse-served s out k)

pub complex-runs : ComplexRuns
complex-runs = complex-served

pub lent_runs : LentRuns
lent_runs t scratch x s out later a b h k =
    (forward-with-served t scratch a b x out h, inverse-with-served t scratch a b s out k, half-with-served t scratch a b s later out k)

-- ---- accepted calls

pub tau-begins : TauBegins
tau-begins = (
  λ parts flag sh ou xs ps h. accepted.create-began parts flag sh ou xs ps (sym (accepted.create-answers parts flag sh ou xs ps) ∙ h),
  λ e h. accepted.reset-began e (sym (accepted.reset-answers e) ∙ h),
)

pub rho-begins : RhoBegins
rho-begins = (rho_counts.create-began, rho_counts.reset-began)

pub tau-runs : TauRuns
tau-runs e near far out =
    (λ h. accepted.process-ran e near far out (sym (accepted.process-answers e near far out) ∙ h), λ h. accepted.flush-ran e out (sym (accepted.flush-answers e out) ∙ h))

pub rho-runs : RhoRuns
rho-runs e near far out h = rho_counts.process-ran e near far out (sym (rho_counts.process-answers e near far out) ∙ h)

pub tau-writes : TauWrites
tau-writes e near far out = (
  λ h. tau_counts.process-delivers e near far out (sym (accepted.process-answers e near far out) ∙ h),
  λ h. tau_counts.flush-delivers e out (sym (accepted.flush-answers e out) ∙ h),
)

pub rho-writes : RhoWrites
rho-writes e near far out h = rho_counts.process-delivers e near far out (sym (rho_counts.process-answers e near far out) ∙ h)

pub tau-idle : TauIdle
tau-idle e out h z = tau_counts.flush-idle e out (sym (accepted.flush-answers e out) ∙ h) z

-- ---- reports

pub tau-reports : TauReports
unfolding report_of reason_in outcome_of
tau-reports e near far out =
    let p = accepted.process-answers e near far out in
    let f = accepted.flush-answers e out in
    record {
      process = process-reports e near far out;
      flush = flush-reports e out;
      process_refused = λ h. ap (λ (c : tau.Called). c.answer.report.outcome) (accepted.process-refused e near far out (λ z. h (p ∙ z)));
      flush_refused = λ h. ap (λ (c : tau.Called). c.answer.report.outcome) (accepted.flush-refused e out (λ z. h (f ∙ z)));
      process_waits = λ h k. process-outcome e near far out ∙ none-outcome _ (process-none e near far out (sym p ∙ h) k);
      process_ran = λ h k z. process-some e near far out (sym p ∙ h) k (process-idle e near far out z);
      flush_waits = λ h k. flush-outcome e out ∙ none-outcome _ (flush-none e out (sym f ∙ h) k);
      flush_ran = λ h k z. flush-some e out (sym f ∙ h) k (flush-idle e out z);
    }

pub rho-reports : RhoReports
unfolding rho.process_of rho.flush_of
rho-reports e near far out =
    (pick-if (λ (c : rho.Called). c.answer.report ≡ rho_states.report_of c.answer.state) _ (λ _. refl) (λ _. refl), refl)

pub leaks : Leaks
leaks e near far out leak = (process-leak e near far out leak, flush-leak e out leak)

-- ---- the counters

pub transfers : Transfers
transfers = ran-transfers

pub resets : Resets
resets e far b =
    let z = ran-resets e far b in
    (z, λ h. z ∙ more-held (how_many (clears_of e far b)) e.state.mic.divergence_resets h)

pub steps-clear : StepsClear
steps-clear = (shadow-clears, output-clears, update-clears, guard-clears)
