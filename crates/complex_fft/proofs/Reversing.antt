-- The reversal table's rule: ONE test, which antt computes at each of its 256 entries, gives that entry i is the eight bits of i
-- reversed, that the table is its own inverse, and that an entry is below 256. `at_entry` carries it to each swap. Assumes nothing.
use mathlib.Core.Bool.{Bool, ◌&&◌}
use Prim.Native.Nat.{ℕ, ◌<◌}
use lib.Dec.{T, eqb, eqb→eq, ltb, ltb→lt}
use lib.Ieee.Fits.{and_l, and_r}
use lib.ListN.{get_or}
use Rattle.laws.specs.Tables.{table, entry_at}
use Rattle.complex_fft.specs.Reversal.{rev8, reversal_table, Reversed}

right : ℕ → ℕ → Bool
right i x = eqb x (rev8 i) && (eqb (rev8 x) i && ltb x 256)

entry : (i x : ℕ) → T (right i x) → Reversed i x
unfolding right
entry i x t =
    let u = and_r (eqb x (rev8 i)) (eqb (rev8 x) i && ltb x 256) t in
    record {
      is = eqb→eq x (rev8 i) (and_l (eqb x (rev8 i)) (eqb (rev8 x) i && ltb x 256) t);
      back = eqb→eq (rev8 x) i (and_l (eqb (rev8 x) i) (ltb x 256) u);
      small = ltb→lt x 256 (and_r (eqb (rev8 x) i) (ltb x 256) u);
    }

pub at_entry : (i : ℕ) → i < 256 → Reversed i (get_or reversal_table i 0)
unfolding right reversal_table table
at_entry i h = entry i (get_or reversal_table i 0) (entry_at right reversal_table i 0 tt h)
