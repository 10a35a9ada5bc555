-- The program as a whole: it reads pairs in blocks of 512, runs Tau with P = 4, suppression on, and writes a record of each block's pairs,
-- behind it a record of what they delivered, and last a record of the flush and one of what that delivered. An unfinished last pair is
-- dropped. Definitions and the statement that the theorem of proofs/Program proves; no contract cites the whole, since none can speak of
-- what is read and written.
use Rattle.std.specs.Prelude.{◌≡◌, List, [], ◌∷◌, ◌++◌, ℕ, ◌≤◌, eqb, leb, Float, length, take, replicate}
use Rattle.laws.specs.Choice.{pick}
use Rattle.laws.specs.Kinds.{All}
use Rattle.tau_frame.specs.Pairs.{Engine}
use Rattle.wire.specs.Wire.{bytes_of}
use Rattle.capture.specs.Feeds.{Fed, fed_of}
use Rattle.capture.specs.Program.{start_of, samples_of, left_by, sent_by, buffer, ended_of, capture_of}
use Rattle.record.specs.Capture.{Record, Fits, joined_of, capture_of as held_in}
use Rattle.recorded.specs.Recorded.{whole_in, Left, feed_of, finish_of}

-- ---- what its calls write

-- what a call leaves of the engine, and the bytes that are written then
abbrev pub engine_by : Left → Engine
engine_by l = record { state = l.answer.state; shadow = l.shadow; output = l.output; spectra = l.spectra; powers = l.powers }

abbrev pub written_by : Left → List ℕ
written_by l = take l.answer.written l.out

-- a block's call and the flush, with the program's buffers; and of a flush the four lent buffers
abbrev pub block_of : Engine → List ℕ → Left
block_of e block = feed_of e block (replicate 6156 0)

abbrev pub flush_of : Engine → Left
flush_of e = finish_of e (replicate 1036 0)

pub record Buffers : Type 0 where
  pub shadow : List Float
  pub output : List Float
  pub spectra : List Float
  pub powers : List Float

abbrev pub buffers_by : Left → Buffers
buffers_by l = record { shadow = l.shadow; output = l.output; spectra = l.spectra; powers = l.powers }

-- where it is: its engine, all bytes written so far, and the refusals of its calls
pub record Going : Type 0 where
  pub engine : Engine
  pub written : List ℕ
  pub refusals : List ℕ

abbrev pub after_of : Going → Left → Going
after_of g l = record { engine = engine_by l; written = g.written ++ written_by l; refusals = g.refusals ++ (l.answer.refusal ∷ []) }

-- a block with no whole pair is none
unfoldable pub blocks_of : Going → List (List ℕ) → Going
blocks_of g [] = g
blocks_of g (b ∷ bs) = blocks_of (pick (leb 8 (length b)) (after_of g (block_of g.engine b)) g) bs

abbrev pub end_of : Going → Going
end_of g = after_of g (flush_of g.engine)

-- all of it
abbrev pub ran_of : List (List ℕ) → Going
ran_of bs = end_of (blocks_of (record { engine = start_of; written = []; refusals = [] }) bs)

-- ---- the records that it should write

-- what a call was given, by its kind, and behind it what it delivered
abbrev pub call_of : ℕ → List ℕ → Fed → List Record → List Record
call_of kind payload f rs = record { kind = kind; payload = payload } ∷ record { kind = 2; payload = sent_by f } ∷ rs

unfoldable pub records_of : Engine → List (List ℕ) → List Record
records_of e [] = call_of 3 [] (ended_of e) []
records_of e (b ∷ bs) =
    let f = fed_of e (whole_in b) buffer in
    pick (leb 8 (length b)) (call_of 1 (whole_in b) f (records_of (left_by f) bs)) (records_of e bs)

-- the payloads of one kind in a row
unfoldable pub payloads_of : ℕ → List Record → List ℕ
payloads_of kind [] = []
payloads_of kind (r ∷ rs) = pick (eqb r.kind kind) (r.payload ++ payloads_of kind rs) (payloads_of kind rs)

-- ---- the two are the same

-- all blocks are full but the last, which may be anything up to full
unfoldable pub Filled : List (List ℕ) → Type 0
Filled [] = Unit {0}
Filled (b ∷ []) = length b ≤ 4096
Filled (b ∷ c ∷ bs) = (length b ≡ 4096) × Filled (c ∷ bs)

-- Of an input in blocks: the bytes written are those of the records, which all fit; the payloads of pairs in a row are the whole pairs'
-- bytes as they came; the payloads of output in a row are what the program of capture writes; no call is refused; and who reads the
-- bytes finds these records and nothing else.
pub record Ran (bs : List (List ℕ)) : Type 0 where
  pub written : (ran_of bs).written ≡ joined_of (records_of start_of bs)
  pub fit : All Fits (records_of start_of bs)
  pub pairs : payloads_of 1 (records_of start_of bs) ≡ whole_in (capture_of bs)
  pub output : payloads_of 2 (records_of start_of bs) ≡ bytes_of (samples_of (capture_of bs))
  pub taken : All (λ n. n ≡ 0) (ran_of bs).refusals
  pub read : held_in (ran_of bs).written ≡ record { records = records_of start_of bs; refusal = 0; place = length (ran_of bs).written }

abbrev pub Program : Type 0
Program = (bs : List (List ℕ)) → Filled bs → Ran bs
