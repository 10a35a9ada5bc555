-- The marked case M11 of document 01, as a statement about `leak_of`. `fin false m e` is the number m * 2 ^ e, and `negsuc k` is the
-- exponent -(k + 1). Proved in proofs/Marked.antt.
use Rattle.std.specs.Prelude.{◌≡◌, false, T, negsuc, Float}
use Rattle.std.specs.Float.{fin}
use Rattle.std.specs.Float.Ieee.{le}
use Rattle.tau_paths.specs.Paths.{leak_of}

-- M11 leak at advantage 0.25: 0.375; at 0.5 and above: 0.75. So at every advantage from 0.5 on, an infinite one too.
abbrev pub M11 : Type 0
M11 = (leak_of (fin false 1 (negsuc 1)) ≡ fin false 3 (negsuc 2)) × ((a : Float) → T (le (fin false 1 (negsuc 0)) a) → leak_of a ≡ fin false 3 (negsuc 1))
