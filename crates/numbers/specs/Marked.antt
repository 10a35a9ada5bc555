-- The marked cases M1 to M6 of document 01, each as a statement about `narrow_of`. `fin s m e` is the number m * 2 ^ e, negative
-- where s is true, and `negsuc k` is the exponent -(k + 1). Proved in proofs/Marked.antt.
use Rattle.std.specs.Prelude.{◌≡◌, ◌+◌, ◌-◌, ◌^◌, true, false, pos, negsuc, to_bits, Float}
use Rattle.std.specs.Float.{inf, fin, binary64}
use Rattle.numbers.specs.Narrowing.{narrow_of}

-- M1 narrow 1 + 2^-24: 1
abbrev pub M1 : Type 0
M1 = narrow_of (fin false (2 ^ 24 + 1) (negsuc 23)) ≡ fin false 1 (pos 0)

-- M2 narrow 1 + 3 * 2^-24: 1 + 2^-22
abbrev pub M2 : Type 0
M2 = narrow_of (fin false (2 ^ 24 + 3) (negsuc 23)) ≡ fin false (2 ^ 22 + 1) (negsuc 21)

-- 2^128 - 2^103, which is (2^25 - 1) * 2^103
abbrev pub limit : Float
limit = fin false (2 ^ 25 - 1) (pos 103)

-- M3 narrow 2^128 - 2^103: infinity
abbrev pub M3 : Type 0
M3 = narrow_of limit ≡ inf false

-- 2^128 - 2^103 - 2^75, which is (2^53 - 2^28 - 1) * 2^75
abbrev pub under : Float
under = fin false (2 ^ 53 - 2 ^ 28 - 1) (pos 75)

-- M4 narrow the f64 just below (its pattern is one less): 2^128 - 2^104
abbrev pub M4 : Type 0
M4 = (to_bits binary64 under + 1 ≡ to_bits binary64 limit) × (narrow_of under ≡ fin false (2 ^ 24 - 1) (pos 104))

-- M5 narrow -2^-150: -0.0
abbrev pub M5 : Type 0
M5 = narrow_of (fin true 1 (negsuc 149)) ≡ fin true 0 (pos 0)

-- M6 narrow 3 * 2^-151: 2^-149
abbrev pub M6 : Type 0
M6 = narrow_of (fin false 3 (negsuc 150)) ≡ fin false 1 (negsuc 148)
