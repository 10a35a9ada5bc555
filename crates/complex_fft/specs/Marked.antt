-- The marked case M7 of document 01. Proved in proofs/Marked.antt.
use Rattle.std.specs.Prelude.{◌≡◌, get_or}
use Rattle.complex_fft.specs.Reversal.{reversal_table}

-- M7 reversal of 1: 128; of 3: 192; of 255: 255
abbrev pub M7 : Type 0
M7 = (get_or reversal_table 1 0 ≡ 128) × (get_or reversal_table 3 0 ≡ 192) × (get_or reversal_table 255 0 ≡ 255)
