-- The engine, and what a block leaves of it, from the state and what lies lent beside it. Definitions only.
use Rattle.std.specs.Prelude.{List, Float}
use Rattle.tau_state.specs.declared.state.TauCanceller.{TauCanceller}
use Rattle.tau_state.specs.declared.report.Told.{Told}
use Rattle.tau_block.specs.Block.{Engine, Ran}

-- the state; then shadow, output, spectra and powers
abbrev pub engine_of : TauCanceller → List Float → List Float → List Float → List Float → Engine
engine_of state shadow output spectra powers =
    record { state = state; shadow = shadow; output = output; spectra = spectra; powers = powers }

abbrev pub ran_of : Engine → List Float → Told → Ran
ran_of engine block told = record { engine = engine; block = block; told = told }
