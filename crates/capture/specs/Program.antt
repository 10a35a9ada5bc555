-- The program as a whole: "reads pairs from standard input, near then far, f32 little-endian; runs Tau with P = 4, suppression on; writes
-- output f32 little-endian, flush last. An unfinished last pair is dropped." Definitions and the statement that the theorem of
-- proofs/Program proves; no contract cites them, since none can speak of what is read and written.
use Rattle.std.specs.Prelude.{◌≡◌, true, List, [], ◌∷◌, ◌++◌, map, ℕ, ◌*◌, ◌≤◌, Float, length, take, replicate}
use Rattle.laws.specs.Kinds.{All}
use Rattle.numbers.specs.Finite.{finite_or_zero}
use Rattle.numbers.specs.Zeros.{Still}
use Rattle.tau_state.specs.Constants.{zero64}
use Rattle.tau_frame.specs.Pairs.{Engine, pairs_of, flushed_of}
use Rattle.tau.specs.Calls.{create_of}
use Rattle.tau_streams.specs.Stream.{begun_by}
use Rattle.wire.specs.Wire.{near_in, far_in, rest_in, bytes_of}
use Rattle.capture.specs.Feeds.{Fed, fed_of, finished_of}

-- "Tau with P = 4, suppression on"
unfoldable pub start_of : Engine
start_of = begun_by (create_of 4 true (replicate 2056 zero64) (replicate 2056 zero64) (replicate 2056 zero64) (replicate 1028 zero64))

-- ---- what the program should write

-- the samples of a whole capture, flush last
abbrev pub samples_of : List ℕ → List Float
samples_of s = let r = pairs_of start_of (near_in s) (far_in s) in r.samples ++ (flushed_of r.engine).samples

-- ---- what its calls write

-- where it is: its engine, the bytes that wait for the rest of their pair, all bytes written so far, and the refusals of its calls
pub record Going : Type 0 where
  pub engine : Engine
  pub rest : List ℕ
  pub written : List ℕ
  pub refusals : List ℕ

-- what a call leaves of the engine, and the bytes that are written then
abbrev pub left_by : Fed → Engine
left_by f = record { state = f.answer.state; shadow = f.shadow; output = f.output; spectra = f.spectra; powers = f.powers }

abbrev pub sent_by : Fed → List ℕ
sent_by f = take (4 * f.answer.delivered) f.bytes

-- the program's buffers: for the bytes of 4,096 samples, and at the end for those of 256
abbrev pub buffer : List ℕ
buffer = replicate 16384 0

abbrev pub last_buffer : List ℕ
last_buffer = replicate 1024 0

-- a turn on the bytes held: they are fed, and what is behind the last whole pair waits
pub record Turned : Type 0 where
  pub engine : Engine
  pub rest : List ℕ

abbrev pub turn_of : Engine → List ℕ → Turned
turn_of e held = record { engine = left_by (fed_of e held buffer); rest = rest_in held }

-- a read: its bytes go behind those that wait
unfoldable pub read_of : Going → List ℕ → Going
read_of g r =
    let held = g.rest ++ r in
    let f = fed_of g.engine held buffer in
    let t = turn_of g.engine held in
    record { engine = t.engine; rest = t.rest; written = g.written ++ sent_by f; refusals = g.refusals ++ (f.answer.refusal ∷ []) }

unfoldable pub reads_of : Going → List (List ℕ) → Going
reads_of g [] = g
reads_of g (r ∷ rs) = reads_of (read_of g r) rs

-- the flush at the end, and of it the four lent buffers
abbrev pub ended_of : Engine → Fed
ended_of e = finished_of e last_buffer

pub record Buffers : Type 0 where
  pub shadow : List Float
  pub output : List Float
  pub spectra : List Float
  pub powers : List Float

abbrev pub buffers_by : Fed → Buffers
buffers_by f = record { shadow = f.shadow; output = f.output; spectra = f.spectra; powers = f.powers }

-- after it an unfinished pair is dropped
unfoldable pub end_of : Going → Going
end_of g =
    let f = ended_of g.engine in
    record { engine = left_by f; rest = []; written = g.written ++ sent_by f; refusals = g.refusals ++ (f.answer.refusal ∷ []) }

-- all of it
abbrev pub ran_of : List (List ℕ) → Going
ran_of rs = end_of (reads_of (record { engine = start_of; rest = []; written = []; refusals = [] }) rs)

-- ---- the two are the same

-- the reads in a row
unfoldable pub capture_of : List (List ℕ) → List ℕ
capture_of [] = []
capture_of (r ∷ rs) = r ++ capture_of rs

-- However the capture comes in reads, of at most 32,768 bytes each, the program writes the bytes of its samples, and no call is refused.
abbrev pub Program : Type 0
Program = (rs : List (List ℕ)) → All (λ r. length r ≤ 32768) rs
    → ((ran_of rs).written ≡ bytes_of (samples_of (capture_of rs))) × All (λ n. n ≡ 0) (ran_of rs).refusals

-- The singer: of a capture with no far sound it writes the near samples, bit for bit, non-finite ones read as 0.0.
abbrev pub Singer : Type 0
Singer = (rs : List (List ℕ)) → All (λ r. length r ≤ 32768) rs → All Still (far_in (capture_of rs))
    → (ran_of rs).written ≡ bytes_of (map finite_or_zero (near_in (capture_of rs)))
