-- No step tells more overs than its inverses have samples, from what the code's functions answer: their sum is one of 32 bits. Assumes nothing.
use Rattle.std.proofs.Common.{◌≡◌, sym, ap, subst, Bool, List, ℕ, ◌*◌, ◌≤◌}
use Rattle.std.specs.Prelude.{Float}
use Rattle.tau_state.specs.declared.state.Mic.{Mic}
use Rattle.tau_state.specs.declared.state.Paths.{Paths}
use Rattle.tau_spectra.specs.Ring.{Ring}
use Rattle.tau_filter.specs.Filter.{Estimated}
use Rattle.tau_filter.proofs.Few.{shadowed-few, estimated-few}
use Rattle.tau_update.specs.Update.{Updated, updated}
use Rattle.tau_update.proofs.Learning.{updated-few}
use Rattle.tau_suppressor.proofs.Few.{suppressed-few}
use Rattle.tau_block.specs.Groups.{Filtered, Delivered, filtered, delivered}
use Rattle.tau_block.specs.Left.{filtered_of, updated_of, delivered_of}
use Rattle.tau_block.specs.declared.block.BothChecked.{BothChecked}
use Rattle.tau_block.specs.declared.block.Estimates.{Estimates}

pub filter-few : (checked : BothChecked) (m : Mic) {heard : Estimates} {a b c : List Float} (ring : Ring) (near : List Float) (mic : Mic) (shadow output : List Float)
    → filtered_of checked m heard a b c ≡ filtered ring near mic shadow output → (checked.shadow.overs ≤ 512) × (checked.output.overs ≤ 512)
unfolding filtered
filter-few checked m ring near mic shadow output h = (
  subst (λ (n : ℕ). n ≤ 512) (sym (ap (λ (z : Filtered). z.shadow_overs) h)) (shadowed-few _ _ _ _ _),
  subst (λ (n : ℕ). n ≤ 512) (sym (ap (λ (z : Filtered). z.output.overs) h)) (estimated-few _ _ _ _ _ _ _),
)

pub update-few : (m : Mic) {overs : ℕ} {a : List Float} (runs : Bool) (ring : Ring) (far_power error : List Float) (scale : Float) (means : List Float) (paths : Paths) (resets : ℕ) (shadow : List Float)
    → updated_of overs m a ≡ updated runs ring far_power error scale means paths resets shadow → overs ≤ 512 * ring.partitions
update-few m runs ring far_power error scale means paths resets shadow h =
    subst (λ (n : ℕ). n ≤ 512 * ring.partitions) (sym (ap (λ (z : Updated). z.overs) h))
    (updated-few runs ring far_power error scale means paths resets shadow)

pub deliver-few : (m : Mic) {overs : ℕ} {a b : List Float} (runs protect : Bool) (near : List Float) (energy : Float) (valid : ℕ) (estimate : Estimated) (mic : Mic) (paths : Paths) (resets : ℕ) (output : List Float)
    → delivered_of overs m a b ≡ delivered runs protect near energy valid estimate mic paths resets output → overs ≤ 512
unfolding delivered
deliver-few m runs protect near energy valid estimate mic paths resets output h = subst (λ (n : ℕ). n ≤ 512) (sym (ap (λ (z : Delivered). z.overs) h)) (suppressed-few _ _ _ _ _)
