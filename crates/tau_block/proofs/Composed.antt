-- The microphone's part from its groups, and these from what the calls of `run_mic` ensure, in the code's order, over any answers. Assumes
-- nothing.
use Rattle.std.proofs.Common.{◌≡◌, refl, ◌∙◌, Bool, List, [], ℕ, ◌+◌}
use Rattle.std.specs.Prelude.{not, ◌&&◌, Float}
use Rattle.tau_state.specs.Sums.{energy_of}
use Rattle.tau_state.specs.declared.state.Mic.{Mic}
use Rattle.tau_paths.specs.declared.paths.Compared.{Compared}
use Rattle.tau_filter.specs.Left.{estimated_of}
use Rattle.tau_update.specs.Update.{Updated, updated}
use Rattle.tau_block.specs.Block.{Block, Playing, Microphone, listen}
use Rattle.tau_block.specs.Groups.{Filtered, Judgement, Delivered, filtered, compares, delivered, gathered, updates, suppresses, grouped}
use Rattle.tau_block.specs.Left.{filtered_of, judgement_of, updated_of, delivered_of, listened_of, FiltersOnly, JudgesOnly, UpdatesOnly, DeliversOnly}
use Rattle.tau_block.specs.declared.block.BothChecked.{BothChecked}
use Rattle.tau_block.specs.declared.block.Estimates.{Estimates}

-- the groups are the steps
pub listen-grouped : (flagged : Bool) (playing : Playing) (b : Block) (m : Microphone) → grouped flagged playing b m ≡ listen flagged playing b m
unfolding grouped listen filtered compares delivered
listen-grouped flagged playing b m = refl

-- from any answers that are the groups'
grouped-is : (flagged : Bool) (playing : Playing) (b : Block) (m : Microphone)
    {energy : Float} {f : Filtered} {j : Judgement} {u : Updated} {g : Delivered}
    → energy ≡ energy_of b.near b.valid
    → f ≡ filtered playing.ring b.near m.mic m.shadow m.output
    → j ≡ compares b.adapt playing.active b.near energy b.valid f m.mic
    → u ≡ updated (updates b.adapt f j) playing.ring playing.far_power f.shadow_error j.detector.step_scale m.mic.far_power_mean j.comparison.paths f.output.resets j.comparison.shadow
    → g ≡ delivered (suppresses flagged playing.sounded f) j.detector.protect_output b.near energy b.valid f.output m.mic u.paths u.resets j.comparison.output
    → gathered f j u g ≡ grouped flagged playing b m
unfolding grouped
grouped-is flagged playing b m e1 e2 e3 e4 e5 = rw (← e1, ← e2, ← e3, ← e4, ← e5)

-- the same where each step reads the microphone that the step before it left: m1 to m4
pub listen-left : (flagged : Bool) (playing : Playing) (b : Block) (m : Microphone) (checked : BothChecked) (heard : Estimates) (compared : Compared)
    {energy : Float} {m1 m2 m3 m4 : Mic} {error sh1 ou1 sh2 ou2 sh3 block ou3 : List Float} {learned suppressed : ℕ}
    → energy ≡ energy_of b.near b.valid
    → filtered_of checked m1 heard error sh1 ou1 ≡ filtered playing.ring b.near m.mic m.shadow m.output
    → FiltersOnly m.mic m1
    → judgement_of compared m2 sh2 ou2 ≡ compares b.adapt playing.active b.near energy b.valid (filtered_of checked m1 heard error sh1 ou1) m1
    → JudgesOnly m1 m2
    → updated_of learned m3 sh3
    ≡ updated (b.adapt && not checked.output.diverged && not checked.shadow.diverged && not compared.rescued) playing.ring playing.far_power heard.shadow_error
    m2.detector.step_scale m2.far_power_mean m2.paths m2.divergence_resets sh2
    → UpdatesOnly m2 m3
    → delivered_of suppressed m4 block ou3
    ≡ delivered (flagged && playing.sounded && not checked.output.diverged) m3.detector.protect_output b.near energy b.valid
    (estimated_of checked.output m3.paths m3.suppressor m3.divergence_resets heard.bins error [] []) m3 m3.paths m3.divergence_resets ou2
    → DeliversOnly m3 m4
    → listened_of m4 block (record { reason = compared.reason; overs = checked.shadow.overs + checked.output.overs + learned + suppressed }) sh3 ou3
    ≡ listen flagged playing b m
unfolding compares delivered
listen-left flagged playing b m checked heard compared {energy} {m1} {m2} {m3} {m4} {error} {sh1} {ou1} {sh2} {ou2} {sh3} {block} {ou3} {learned} {suppressed} e1 e2 k1 e3 k2 e4 k3 e5 k4 =
    let f = filtered_of checked m1 heard error sh1 ou1 in
    let j = judgement_of compared m2 sh2 ou2 in
    let u = updated_of learned m3 sh3 in
    let g = delivered_of suppressed m4 block ou3 in
    let judged : j ≡ compares b.adapt playing.active b.near energy b.valid f m.mic = rw (k1.detector, k1.transfers) at e3 in
    let learns : u ≡ updated (updates b.adapt f j) playing.ring playing.far_power heard.shadow_error m2.detector.step_scale m.mic.far_power_mean m2.paths m1.divergence_resets sh2 =
    rw (k2.means, k1.means, k2.resets) at e4 in
    let gives : g ≡ delivered (suppresses flagged playing.sounded f) m2.detector.protect_output b.near energy b.valid f.output m.mic m3.paths m3.divergence_resets ou2 =
    rw (k3.detector, k3.suppressor, k2.suppressor, k3.guard, k2.guard, k1.guard, k3.powers, k2.powers, k1.powers) at e5 in
    let all : listened_of m4 block (record { reason = compared.reason; overs = checked.shadow.overs + checked.output.overs + learned + suppressed }) sh3 ou3 ≡ gathered f j u g =
    rw (← k3.detector, ← k4.detector, ← k4.means, ← k3.transfers, ← k4.transfers) refl in
    all ∙ grouped-is flagged playing b m e1 e2 judged learns gives ∙ listen-grouped flagged playing b m
