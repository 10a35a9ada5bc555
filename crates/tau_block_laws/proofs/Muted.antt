-- A muted microphone, for a block (request K5). Assumes nothing.
--     muted-block    where near has no energy, the detector stands,
--     heard-block    and from every other far-active block it learns, by that block's coherence
use mathlib.Core.Path.{◌≡◌}
use mathlib.Core.Bool.{true, false}
use mathlib.Core.List.{List}
use lib.Dec.{T}
use lib.Ieee.{Float, eq}
use Rattle.tau_state.specs.Constants.{zero64}
use Rattle.tau_state.specs.Sums.{energy_of, cross_of}
use Rattle.tau_detector.specs.Detector.{coherence_of, learned, stands}
use Rattle.tau_steps.proofs.Muted.{judged-muted, judged-heard}
use Rattle.tau_spectra.specs.Ring.{ring_of}
use Rattle.tau_filter.specs.Filter.{shadowed}
use Rattle.tau_block.specs.Block.{Block, Engine, heard_in, run_block, listen}

pub muted-block : (e : Engine) (far : List Float) (b : Block) → T (eq (energy_of b.near b.valid) zero64)
    → (run_block e far b).engine.state.mic.detector ≡ stands e.state.mic.detector
unfolding run_block listen
muted-block e far b h = judged-muted _ (energy_of b.near b.valid) b.near _ b.valid e.state.mic.detector h

pub heard-block : (e : Engine) (far : List Float) (b : Block) → let s = e.state in
    let heard = heard_in e far in
    let ring = ring_of s.partitions heard.far.head heard.spectra in
    let estimate = (shadowed ring b.near s.mic.paths s.mic.divergence_resets e.shadow).estimate in
    let energy = energy_of b.near b.valid in
    heard.active ≡ true → eq energy zero64 ≡ false
    → (run_block e far b).engine.state.mic.detector
    ≡ learned s.mic.detector (coherence_of (cross_of b.near estimate b.valid) energy (energy_of estimate b.valid))
unfolding run_block listen
heard-block e far b a h = judged-heard _ (energy_of b.near b.valid) b.near _ b.valid e.state.mic.detector a h
