-- The refusals of TauCanceller, each number "given exactly when". Definitions only.
use Rattle.std.specs.Prelude.{ℕ, ◌+◌, ◌*◌, ◌/◌, Bool, ◌&&◌, eqb, leb}
use Rattle.laws.specs.Choice.{pick}
use Rattle.tau_state.specs.Ranges.{ranged_of}
use Rattle.tau_state.specs.declared.state.TauCanceller.{TauCanceller}

-- what a process of so many pairs would deliver: the whole blocks
abbrev pub delivers_of : ℕ → ℕ → ℕ
delivers_of carried pairs = (carried + pairs) / 256 * 256

-- 1: "a setting .. outside the ranges"
unfoldable pub settings_of : ℕ → Bool
settings_of parts = leb 1 parts && leb parts 32

-- 2: "a lent state .. buffer has not exactly the needed length"
unfoldable pub sized_of : ℕ → ℕ → ℕ → ℕ → ℕ → Bool
sized_of parts shadow output spectra powers =
    eqb shadow (514 * parts) && (eqb output (514 * parts) && (eqb spectra (514 * parts) && eqb powers (257 * parts)))

-- creation 1, 2
unfoldable pub create_refusal : ℕ → ℕ → ℕ → ℕ → ℕ → ℕ
create_refusal parts shadow output spectra powers = pick (settings_of parts) (pick (sized_of parts shadow output spectra powers) 0 2) 1

-- reset 6, 2 (6: "a stored state holds a number outside its range")
unfoldable pub state_refusal : TauCanceller → ℕ → ℕ → ℕ → ℕ → ℕ
state_refusal s shadow output spectra powers = pick (ranged_of s) (pick (sized_of s.partitions shadow output spectra powers) 0 2) 6

-- 3 "near and far lengths differ", 4 "more than 4,096 pairs in one call", 5 "the output buffer is shorter than this call would deliver"
unfoldable pub pairs_refusal : ℕ → ℕ → ℕ → ℕ → ℕ
pairs_refusal carried near far out = pick (eqb near far) (pick (leb near 4096) (pick (leb (delivers_of carried near) out) 0 5) 4) 3

-- process 6, 2, 3, 4, 5
unfoldable pub process_refusal : TauCanceller → ℕ → ℕ → ℕ → ℕ → ℕ → ℕ → ℕ → ℕ
process_refusal s shadow output spectra powers near far out =
    let first = state_refusal s shadow output spectra powers in
    pick (eqb first 0) (pairs_refusal s.carried near far out) first

-- flush 6, 2, 5
unfoldable pub flush_refusal : TauCanceller → ℕ → ℕ → ℕ → ℕ → ℕ → ℕ
flush_refusal s shadow output spectra powers out =
    let first = state_refusal s shadow output spectra powers in
    pick (eqb first 0) (pick (leb s.carried out) 0 5) first
