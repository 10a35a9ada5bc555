-- What the code is given, in the words of `listen`. Definitions only.
use Rattle.tau_spectra.specs.FarRing.{ring_in}
use Rattle.tau_block.specs.Block.{Block, Playing}
use Rattle.tau_block.specs.declared.given.MicBlock.{MicBlock}
use Rattle.tau_block.specs.declared.given.Played.{Played}

abbrev pub playing_in : Played → Playing
playing_in played = record { ring = ring_in played.ring; far_power = played.far_power.now; sounded = played.sounded; active = played.active }

abbrev pub block_in : MicBlock → Block
block_in given = record { near = given.near.now; valid = given.valid; adapt = given.adapt }
