-- The marked cases M8 and M9 of document 01, each as a statement about `recombination`, whose entry k has its real part at 2k and
-- its imaginary part at 2k + 1. `fin s m e` is the number m * 2 ^ e, negative where s is true. Proved in proofs/Marked.antt.
use Rattle.std.specs.Prelude.{◌≡◌, true, false, pos, get_or}
use Rattle.std.specs.Float.{nan, fin}
use Rattle.trig.specs.Tables.{recombination}

-- M8 recombination entry 0: (1, +0.0)
abbrev pub M8 : Type 0
M8 = (get_or recombination 0 nan ≡ fin false 1 (pos 0)) × (get_or recombination 1 nan ≡ fin false 0 (pos 0))

-- M9 entry 256: (-1, +0.0)
abbrev pub M9 : Type 0
M9 = (get_or recombination 512 nan ≡ fin true 1 (pos 0)) × (get_or recombination 513 nan ≡ fin false 0 (pos 0))
