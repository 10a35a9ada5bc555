-- The ring of far spectra: the slot that the next spectrum goes to, and the spectrum that a partition meets. Definitions only.
use Rattle.std.specs.Prelude.{List, ℕ, ◌+◌, ◌-◌, ◌%◌, eqb, Float}
use Rattle.laws.specs.Choice.{pick}
use Rattle.laws.specs.Parts.{part}

-- as the filters read it: `partitions` slots of 514 numbers in `spectra`, the newest spectrum in slot `head`
pub record Ring : Type 0 where
  pub partitions : ℕ
  pub head : ℕ
  pub spectra : List Float

abbrev pub ring_of : ℕ → ℕ → List Float → Ring
ring_of partitions head spectra = record { partitions = partitions; head = head; spectra = spectra }

-- "advance the ring"
unfoldable pub next_slot : ℕ → ℕ → ℕ
next_slot partitions head = pick (eqb (head + 1) partitions) 0 (head + 1)

-- the slot of the spectrum that partition p meets: the newest for the first, then by age
unfoldable pub slot_of : ℕ → ℕ → ℕ → ℕ
slot_of head partitions p = (head + partitions - p) % partitions

-- and that spectrum
abbrev pub met_by : Ring → ℕ → List Float
met_by ring p = part 514 (slot_of ring.head ring.partitions p) ring.spectra
