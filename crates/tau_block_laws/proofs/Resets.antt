-- The counter of resets counts the clears. Assumes nothing.
--     shadow-clears, output-clears,     each of the four tests that are counted says whether its step does its clear
--     update-clears, guard-clears
--     ran-resets                        after a block the counter is one more for each clear of the block
--     more-held                         k times one more is k more, held at the largest number of 64 bits
use mathlib.Core.Path.{◌≡◌, refl, sym, ap, ◌∙◌}
use mathlib.Core.Bool.{Bool, true, false, not, ◌&&◌}
use mathlib.Core.List.{List}
use Prim.Native.Nat.{ℕ, zero, suc, ◌+◌, ◌-◌, ◌^◌, ◌≤◌, min}
use native.Mathlib.Nat.{add-zero}
use native.Mathlib.Omega.{arith}
use lib.Dec.{ltb}
use lib.Ieee.{Float}
use borrow.Author.Tests.{ltb-true, ltb-false}
use Rattle.laws.specs.Choice.{pick, pick_yes, pick_no, pick-if}
use Rattle.laws.specs.Loops.{iter, iter-more}
use Rattle.laws.specs.Counting.{one_more}
use Rattle.tau_state.specs.Sums.{energy_of}
use Rattle.tau_state.specs.declared.state.Mic.{Mic}
use Rattle.tau_state.specs.declared.state.Paths.{Paths}
use Rattle.tau_state.specs.declared.state.Suppressor.{Suppressor}
use Rattle.tau_state.specs.declared.state.Guard.{Guard}
use Rattle.tau_clears.specs.Clears.{ShadowClear, BothClear, OutputHalved, diverge_shadow, diverge_of, retire_output}
use Rattle.tau_guard.specs.Guard.{Guarded, watched, trips, guarded}
use Rattle.tau_spectra.specs.Ring.{Ring}
use Rattle.tau_filter.specs.Filter.{Shadowed, Estimated, block_estimate, bad_to, shadowed, estimated}
use Rattle.tau_update.specs.Update.{Updated, learnt_by, updated}
use Rattle.tau_suppressor.specs.Suppressor.{suppressed}
use Rattle.tau_block.specs.Block.{Block, Playing, Microphone, Listened, Engine, listen, run_block}
use Rattle.tau_block.specs.Groups.{filtered, delivered, grouped}
use Rattle.tau_block.proofs.Composed.{listen-grouped}
use Rattle.tau_block_laws.specs.Resets.{ShadowClears, OutputClears, UpdateClears, GuardClears, Clears, clears_in, clears_of, told, how_many, more_by}

-- ---- each step does its clear or leaves the counter

picked : {A B : Type 0} (f : A → B) (b : Bool) (x y : A) → f (pick b x y) ≡ pick b (f x) (f y)
unfolding pick
picked f true x y = refl
picked f false x y = refl

-- step 2
pub shadow-clears : ShadowClears
unfolding shadowed
shadow-clears ring near p m sh =
    let kept : ShadowClear = record { paths = p; resets = m; shadow = sh } in
    pick-if
    (λ (w : Shadowed). ◌≡◌ {A = ShadowClear} (record { paths = w.paths; resets = w.resets; shadow = w.shadow }) (pick w.diverged (diverge_shadow p m sh) kept))
    (bad_to near (block_estimate sh ring) 256)
    (λ _. pick_yes true (diverge_shadow p m sh) kept refl refl) (λ _. pick_no false (diverge_shadow p m sh) kept refl refl)

-- step 3
pub output-clears : OutputClears
unfolding estimated
output-clears ring near p u m sh ou =
    let kept : BothClear = record { paths = p; suppressor = u; resets = m; shadow = sh; output = ou } in
    pick-if
    (λ (w : Estimated). ◌≡◌ {A = BothClear}
    (record { paths = w.paths; suppressor = w.suppressor; resets = w.resets; shadow = w.shadow; output = w.output })
    (pick w.diverged (diverge_of p u m sh ou) kept))
    (bad_to near (block_estimate ou ring) 256)
    (λ _. pick_yes true (diverge_of p u m sh ou) kept refl refl) (λ _. pick_no false (diverge_of p u m sh ou) kept refl refl)

-- step 6, of any weights learnt, finite or not
learnt-clears : (runs finite : Bool) (new means : List Float) (p : Paths) (m overs : ℕ) (w sh : List Float)
    → let clear = diverge_shadow p m w in
    let r : Updated = pick runs
    (pick finite (record { means = new; paths = p; resets = m; shadow = w; overs = overs })
    (record { means = new; paths = clear.paths; resets = clear.resets; shadow = clear.shadow; overs = overs }))
    (record { means = means; paths = p; resets = m; shadow = sh; overs = 0 }) in
    ◌≡◌ {A = ShadowClear} (record { paths = r.paths; resets = r.resets; shadow = r.shadow })
    (pick (runs && not finite) clear (record { paths = p; resets = m; shadow = pick runs w sh }))
unfolding pick
learnt-clears true true new means p m overs w sh = refl
learnt-clears true false new means p m overs w sh = refl
learnt-clears false finite new means p m overs w sh = refl

pub update-clears : UpdateClears
unfolding updated
update-clears runs ring far_power error scale means p m sh = learnt-clears runs (learnt_by ring far_power error scale means sh).finite _ means p m _ _ sh

-- step 8
pub guard-clears : GuardClears
unfolding guarded
guard-clears near en n g u p m block ou =
    picked {A = Guarded} {B = OutputHalved} (λ w. record { paths = w.paths; suppressor = w.suppressor; resets = w.resets; output = w.output }) _ _ _

-- ---- so the counter goes by each step's test

-- the counter after a place where a clear may happen
by : Bool → ℕ → ℕ
by b m = pick b (one_more m) m

shadowed-resets : (ring : Ring) (near : List Float) (p : Paths) (m : ℕ) (sh : List Float)
    → (shadowed ring near p m sh).resets ≡ by (shadowed ring near p m sh).diverged m
unfolding by diverge_shadow
shadowed-resets ring near p m sh =
    ap (λ (r : ShadowClear). r.resets) (shadow-clears ring near p m sh) ∙ picked (λ (r : ShadowClear). r.resets) _ _ _

estimated-resets : (ring : Ring) (near : List Float) (p : Paths) (u : Suppressor) (m : ℕ) (sh ou : List Float)
    → (estimated ring near p u m sh ou).resets ≡ by (estimated ring near p u m sh ou).diverged m
unfolding by diverge_of
estimated-resets ring near p u m sh ou =
    ap (λ (r : BothClear). r.resets) (output-clears ring near p u m sh ou) ∙ picked (λ (r : BothClear). r.resets) _ _ _

filtered-resets : (ring : Ring) (near : List Float) (m : Mic) (sh ou : List Float)
    → (filtered ring near m sh ou).output.resets
    ≡ by (filtered ring near m sh ou).output.diverged (by (filtered ring near m sh ou).shadow_diverged m.divergence_resets)
unfolding filtered
filtered-resets ring near m sh ou =
    estimated-resets ring near _ _ _ _ ou ∙ ap (by _) (shadowed-resets ring near m.paths m.divergence_resets sh)

updated-resets : (runs : Bool) (ring : Ring) (far_power error : List Float) (scale : Float) (means : List Float) (p : Paths) (m : ℕ) (sh : List Float)
    → (updated runs ring far_power error scale means p m sh).resets ≡ by (runs && not (learnt_by ring far_power error scale means sh).finite) m
unfolding by diverge_shadow
updated-resets runs ring far_power error scale means p m sh =
    ap (λ (r : ShadowClear). r.resets) (update-clears runs ring far_power error scale means p m sh) ∙ picked (λ (r : ShadowClear). r.resets) _ _ _

guarded-resets : (near : List Float) (en : Float) (n : ℕ) (g : Guard) (u : Suppressor) (p : Paths) (m : ℕ) (block ou : List Float)
    → (guarded near en n g u p m block ou).resets ≡ by (trips (watched en (energy_of block n) g)) m
unfolding by retire_output
guarded-resets near en n g u p m block ou =
    ap (λ (r : OutputHalved). r.resets) (guard-clears near en n g u p m block ou) ∙ picked (λ (r : OutputHalved). r.resets) _ _ _

delivered-resets : (runs protect : Bool) (near : List Float) (energy : Float) (n : ℕ) (b : Estimated) (m : Mic) (p : Paths) (resets : ℕ) (ou : List Float)
    → (delivered runs protect near energy n b m p resets ou).guarded.resets
    ≡ by (trips (watched energy (energy_of (suppressed runs protect b.error b.spectrum b.suppressor).block n) m.guard)) resets
unfolding delivered
delivered-resets runs protect near energy n b m p resets ou = guarded-resets near energy n m.guard _ p resets _ ou

-- ---- all four

-- one more clear to count
counts : (b : Bool) (k m : ℕ) → by b (more_by k m) ≡ more_by (k + told b) m
unfolding by pick told
counts true k m = sym (iter-more _ m k)
counts false k m = rw add-zero

first : (b : Bool) (m : ℕ) → by b m ≡ more_by (told b) m
unfolding by pick told iter
first true m = refl
first false m = refl

four : (c : Clears) (m : ℕ) → by c.guard (by c.update (by c.output (by c.shadow m))) ≡ more_by (how_many c) m
unfolding how_many
four c m =
    let a = first c.shadow m in
    let b = ap (by c.output) a ∙ counts c.output _ m in
    let d = ap (by c.update) b ∙ counts c.update _ m in
    ap (by c.guard) d ∙ counts c.guard _ m

grouped-resets : (flagged : Bool) (playing : Playing) (b : Block) (m : Microphone)
    → (grouped flagged playing b m).microphone.mic.divergence_resets ≡ more_by (how_many (clears_in flagged playing b m)) m.mic.divergence_resets
unfolding grouped clears_in
grouped-resets flagged playing b m =
    delivered-resets _ _ b.near _ b.valid _ m.mic _ _ _
    ∙ ap (by _) (updated-resets _ playing.ring _ _ _ _ _ _ _ ∙ ap (by _) (filtered-resets playing.ring b.near m.mic m.shadow m.output))
    ∙ four (clears_in flagged playing b m) m.mic.divergence_resets

listen-resets : (flagged : Bool) (playing : Playing) (b : Block) (m : Microphone)
    → (listen flagged playing b m).microphone.mic.divergence_resets ≡ more_by (how_many (clears_in flagged playing b m)) m.mic.divergence_resets
listen-resets flagged playing b m =
    ap (λ (r : Listened). r.microphone.mic.divergence_resets) (sym (listen-grouped flagged playing b m)) ∙ grouped-resets flagged playing b m

-- The counter of resets after a block: one more for each clear.
pub ran-resets : (e : Engine) (far : List Float) (b : Block)
    → (run_block e far b).engine.state.mic.divergence_resets ≡ more_by (how_many (clears_of e far b)) e.state.mic.divergence_resets
unfolding run_block clears_of
ran-resets e far b = listen-resets e.state.suppress _ b (record { mic = e.state.mic; shadow = e.shadow; output = e.output })

-- ---- and in numbers

one-held : (m k : ℕ) → one_more (min (m + k) (2 ^ 64 - 1)) ≡ min (m + suc k) (2 ^ 64 - 1)
unfolding one_more
one-held m k =
    pick-if (λ r. r ≡ min (m + suc k) (2 ^ 64 - 1)) (ltb (min (m + k) (2 ^ 64 - 1)) (2 ^ 64 - 1)) (λ h. omega (arith, ltb-true, h)) (λ h. omega (arith, ltb-false, h))

-- A counter of 64 bits, k times one more, is k more, held at its largest.
pub more-held : (k m : ℕ) → m ≤ 2 ^ 64 - 1 → more_by k m ≡ min (m + k) (2 ^ 64 - 1)
unfolding iter
more-held zero m h = omega arith
more-held (suc k) m h = rw (more-held k m h) (one-held m k)
