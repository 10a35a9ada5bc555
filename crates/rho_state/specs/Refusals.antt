-- The refusals of RhoCanceller, each number "given exactly when". Definitions only.
use Rattle.std.specs.Prelude.{ℕ, Bool, ◌&&◌, eqb, ltb, leb}
use Rattle.laws.specs.Choice.{pick}
use Rattle.rho_state.specs.declared.state.RhoCanceller.{RhoCanceller}
use Rattle.rho_state.specs.State.{taps_of}

-- 1: "a setting or tap count outside the ranges"
unfoldable pub settings_of : ℕ → ℕ → Bool
settings_of rate tail = leb 8000 rate && (leb rate 48000 && (leb tail 1000 && leb (taps_of rate tail) 8192))

-- 2: "a lent state .. buffer has not exactly the needed length"
unfoldable pub sized_of : ℕ → ℕ → ℕ → Bool
sized_of taps weights history = eqb weights taps && eqb history taps

-- 6: "a stored state holds a number outside its range"
unfoldable pub ranged_of : RhoCanceller → Bool
ranged_of s =
    leb 1 s.taps
    && (leb s.taps 8192
    && (ltb s.pos s.taps
    && (leb 120 s.hangover_samples && (leb s.hangover_samples 720 && leb s.hangover_remaining s.hangover_samples))))

-- creation 1, 2
unfoldable pub create_refusal : ℕ → ℕ → ℕ → ℕ → ℕ
create_refusal rate tail weights history = pick (settings_of rate tail) (pick (sized_of (taps_of rate tail) weights history) 0 2) 1

-- flush and reset 6, 2 (a flush delivers nothing, so 5 never applies)
unfoldable pub state_refusal : RhoCanceller → ℕ → ℕ → ℕ
state_refusal s weights history = pick (ranged_of s) (pick (sized_of s.taps weights history) 0 2) 6

-- 3 "near and far lengths differ", 4 "more than 4,096 pairs in one call", 5 "the output buffer is shorter than this call would deliver"
unfoldable pub pairs_refusal : ℕ → ℕ → ℕ → ℕ
pairs_refusal near far out = pick (eqb near far) (pick (leb near 4096) (pick (leb near out) 0 5) 4) 3

-- process 6, 2, 3, 4, 5
unfoldable pub process_refusal : RhoCanceller → ℕ → ℕ → ℕ → ℕ → ℕ → ℕ
process_refusal s weights history near far out =
    let first = state_refusal s weights history in
    pick (eqb first 0) (pairs_refusal near far out) first
