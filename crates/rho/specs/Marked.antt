-- The marked case M10 of document 01, as a statement about the settings and about what creation leaves. Proved in proofs/Marked.antt.
use Rattle.std.specs.Prelude.{◌≡◌, [], ◌∷◌, Float}
use Rattle.rho_state.specs.State.{taps_of, hangover_of}
use Rattle.rho.specs.Calls.{begun_of, create_of}

-- M10 rate 16,000, tail 0: 1 tap, H 240. So creation with two buffers of one number, whatever they hold, is not refused, and leaves
-- the fresh state of 1 tap, H 240 and 0 resets.
abbrev pub M10 : Type 0
M10 = (taps_of 16000 0 ≡ 1) × (hangover_of 16000 ≡ 240) × ((w h : Float) → create_of 16000 0 (w ∷ []) (h ∷ []) ≡ begun_of 1 240 0)
