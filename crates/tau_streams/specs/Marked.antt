-- The marked case M12 of document 01, as a statement about streams and as one about calls. Proved in proofs/Marked.antt.
use Rattle.std.specs.Prelude.{◌≡◌, Bool, List, ℕ, Float, length}
use Rattle.tau_frame.specs.Pairs.{Engine, pairs_of, flushed_of}
use Rattle.tau.specs.Calls.{create_of, flush_of}
use Rattle.streams.specs.Parts.{Part, all_near}
use Rattle.tau_streams.specs.Stream.{begun_by, processed_of, AllAccepted}

-- an engine as an accepted creation leaves it, with any settings and whatever the buffers held
pub record Created (e : Engine) : Type 0 where
  pub parts : ℕ
  pub flag : Bool
  pub shadow : List Float
  pub output : List Float
  pub spectra : List Float
  pub powers : List Float
  pub accepted : (create_of parts flag shadow output spectra powers).answer.refusal ≡ 0
  pub left : e ≡ begun_by (create_of parts flag shadow output spectra powers)

-- how many samples a stream of pairs delivers, and a flush after it
abbrev pub gives : Engine → List Float → List Float → ℕ
gives e near far = length (pairs_of e near far).samples

abbrev pub flush_gives : Engine → List Float → List Float → ℕ
flush_gives e near far = length (flushed_of (pairs_of e near far).engine).samples

-- M12 after 255 pairs 0 delivered; after 256, 256; after 600, 512, then flush gives 88.
abbrev pub M12 : Type 0
M12 =
    (e : Engine) (near far : List Float) → Created e → length near ≡ length far
    → (length near ≡ 255 → gives e near far ≡ 0)
    × (length near ≡ 256 → gives e near far ≡ 256)
    × (length near ≡ 600 → (gives e near far ≡ 512) × (flush_gives e near far ≡ 88))

-- The same of calls: however the pairs are cut into accepted calls, and then an accepted flush.
abbrev pub M12Calls : Type 0
M12Calls =
    (e : Engine) (ps : List Part) → Created e → AllAccepted e ps
    → (length (all_near ps) ≡ 255 → length (processed_of e ps).run.samples ≡ 0)
    × (length (all_near ps) ≡ 256 → length (processed_of e ps).run.samples ≡ 256)
    × (length (all_near ps) ≡ 600
    → (length (processed_of e ps).run.samples ≡ 512)
    × ((out : List Float) → (flush_of (processed_of e ps).run.engine out).answer.refusal ≡ 0 → (flush_of (processed_of e ps).run.engine out).answer.delivered ≡ 88))
