-- The two orders of a lent buffer's numbers (K9). Document 01's definitions read weights and spectra in pairs, each bin's real part and then
-- its imaginary part. They are stored "with all 257 real parts of a partition first, then its 257 imaginary parts". Definitions only.
use Rattle.std.specs.Prelude.{List, ℕ, ◌+◌, ◌*◌, ◌/◌, ◌%◌, eqb, length, get_or, Float}
use Rattle.std.specs.Float.{nan}
use Rattle.laws.specs.Choice.{pick}
use Rattle.laws.specs.Tables.{table}

-- where number i of the pairs lies in the stored buffer: in the same partition of 514 numbers, the even ones first
unfoldable pub place : ℕ → ℕ
place i = 514 * (i / 514) + (257 * (i % 514 % 2) + i % 514 / 2)

-- and back
unfoldable pub back : ℕ → ℕ
back i = 514 * (i / 514) + (2 * (i % 514 % 257) + i % 514 / 257)

-- The list whose number i is number `from i` of w. Nothing is computed; a list that is not of whole partitions is as it is.
unfoldable pub moved : (ℕ → ℕ) → List Float → List Float
moved from w = pick (eqb (length w % 514) 0) (table (length w) (λ i. get_or w (from i) nan)) w

-- a stored buffer in pairs; and pairs as they are stored
abbrev pub paired : List Float → List Float
paired w = moved place w

abbrev pub stored : List Float → List Float
stored w = moved back w
