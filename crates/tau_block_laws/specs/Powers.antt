-- Engines whose kept powers are true (K10), and the block by the rule that squares the spectra. Definitions; no contract cites them, and
-- proofs/Powers.antt has that the two rules agree on such engines.
use Rattle.std.specs.Prelude.{List, Float}
use Rattle.tau_spectra.specs.Powers.{far_power_to, TruePowers}
use Rattle.tau_block.specs.Block.{Block, Engine, Ran, ran_on, heard_in}

-- "each kept number is the one worked out from its bin"
abbrev pub True : Engine → Type 0
True e = TruePowers e.state.partitions e.spectra e.powers

-- The block of the Rust, and ours before K10: the far power of each bin is worked out from all stored spectra, and no kept power is read.
unfoldable pub squared_block : Engine → List Float → Block → Ran
squared_block e far b =
    let heard = heard_in e far in
    ran_on e
    (record {
      far = heard.far;
      active = heard.active;
      spectra = heard.spectra;
      powers = heard.powers;
      far_power = far_power_to heard.spectra e.state.partitions;
    })
    b

-- the engine with other powers
abbrev pub with_powers : Engine → List Float → Engine
with_powers e ps = record { state = e.state; shadow = e.shadow; output = e.output; spectra = e.spectra; powers = ps }
