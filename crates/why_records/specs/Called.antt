-- The call that a record tells of, by its kind: what it leaves. Definitions only.
--     Called kind payload w written r     r is what the record leaves of w, where all was written
use Rattle.std.specs.Prelude.{◌≡◌, Bool, true, List, ℕ, length}
use Rattle.watch.specs.Watched.{Watched, Begun, pieces_of, flushed_by, reset_by}

-- a reset leaves the counts
abbrev pub with_counts : Begun → List ℕ → Watched
with_counts b counts = record { engine = b.engine; course = b.course; counts = counts }

-- pairs, output, a flush and a reset
pub record Called (kind : ℕ) (payload : List ℕ) (w : Watched) (written : Bool) (r : Watched) : Type 0 where
  pub pairs : kind ≡ 1 → written ≡ true → r ≡ pieces_of (length payload) w payload
  pub output : kind ≡ 2 → r ≡ w
  pub flush : kind ≡ 3 → r ≡ flushed_by w
  pub reset : kind ≡ 4 → r ≡ with_counts (reset_by w.engine w.course) w.counts
