-- Refusal 6, the ranges of a stored state: as a test, and as what it tells. proofs/Ranged.antt has that the two say the same.
-- Definitions only.
use Rattle.std.specs.Prelude.{Bool, ◌&&◌, ◌≤◌, ◌<◌, ltb, leb}
use Rattle.tau_state.specs.declared.state.TauCanceller.{TauCanceller}

-- 6: "a stored state holds a number outside its range". "Ranges for 6: P 1 to 32, head below P, carried pairs 0 to 255, rescue streak
-- 0 to 7, detector count 0 to 64."
unfoldable pub ranged_of : TauCanceller → Bool
ranged_of s =
    leb 1 s.partitions
    && (leb s.partitions 32
    && (ltb s.far.head s.partitions
    && (leb s.carried 255 && (leb s.mic.paths.rescue_streak 7 && leb s.mic.detector.dtd_blocks 64))))

pub record Ranged (s : TauCanceller) : Type 0 where
  pub some : 1 ≤ s.partitions
  pub most : s.partitions ≤ 32
  pub inring : s.far.head < s.partitions
  pub waiting : s.carried ≤ 255
  pub streak : s.mic.paths.rescue_streak ≤ 7
  pub count : s.mic.detector.dtd_blocks ≤ 64
