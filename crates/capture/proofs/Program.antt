-- However a capture comes in reads, the program writes the bytes of the whole capture's samples, and no call is refused: a read's pairs
-- are those that the whole capture has next, and TauCanceller does not depend on how a stream is cut. Assumes nothing.
use mathlib.Core.Path.{◌≡◌, refl, sym, ap, ◌∙◌, subst}
use mathlib.Core.Bool.{true}
use mathlib.Core.List.{List, [], ◌∷◌, ◌++◌, append_assoc, append-nil}
use Prim.Native.Nat.{ℕ, ◌+◌, ◌*◌, ◌/◌, ◌%◌, ◌≤◌, ◌<◌, min}
use native.Mathlib.Omega.{arith}
use lib.Ieee.{Float, binary32}
use lib.Ieee.Bits.{of_bits-fits}
use lib.ListN.{length, take, drop, replicate, length-append, length-take, length-drop, length-replicate, take-append-drop}
use lib.Seq.{take_at, take-append_seam}
use Rattle.laws.specs.Kinds.{All, all_none, all_cons, all_append, all-table}
use Rattle.laws.specs.Tables.{table}
use Rattle.numbers.specs.Zeros.{Fits}
use Rattle.tau_state.specs.Constants.{zero32, zero64}
use Rattle.tau_frame.specs.Pairs.{Engine, Run, pairs_of, flushed_of}
use Rattle.tau.specs.Calls.{create_refusal, Called, served_of, process_of, flush_of}
use Rattle.tau_streams.specs.Stream.{Good, joined}
use Rattle.tau_fresh.proofs.Accepted.{State, settings-accepted, process-accepted, flush-accepted}
use Rattle.tau.proofs.Accepted.{create-answers, process-ran, flush-ran}
use Rattle.tau_streams.proofs.Counts.{created-good, pairs-intact}
use Rattle.tau_streams.specs.Silence.{Begins, created}
use Rattle.tau_streams.proofs.Cut.{cut}
use Rattle.tau_streams.proofs.Silence.{singer-stream}
use Rattle.wire.specs.Wire.{pattern_at, sample_at, pairs_in, near_in, far_in, rest_in, bytes_of}
use Rattle.wire.proofs.Captures.{near-cut, far-cut, rest-cut, near_same, far-same, rest-short, length-near, length-far, length-bytes, bytes-join}
use Rattle.capture.specs.Feeds.{Fed, room_of, written_by, fed_of, finished_of}
use Rattle.capture.specs.Program.{start_of, Going, left_by, sent_by, buffer, last_buffer, ended_of, read_of, reads_of, end_of, capture_of, Program, Singer}

-- ---- a call that is accepted

-- the run that an accepted call made, as a feed leaves and sends it
module _ (r : Run) (out : List Float) (bytes : List ℕ) where
  served-left : left_by (written_by (served_of r out) bytes) ≡ r.engine
  served-left = refl

  served-sent : sent_by (written_by (served_of r out) bytes) ≡ bytes_of r.samples
  served-sent =
      let s = r.samples in
      ap (λ (l : List Float). take (4 * length s) (bytes_of l ++ drop (4 * length l) bytes)) (take-append_seam s (drop (length s) out))
      ∙ take_at (bytes_of s) (drop (4 * length s) bytes) (4 * length s) (length-bytes s)

-- ---- the bytes held make at most 4,096 pairs, and are all taken

module _ (n : ℕ) (held : List ℕ) (whole : n % 8 ≡ 0) (h : length held ≤ n + 7) where
  short : length (rest_in (take n held) ++ drop n held) < 8
  short =
      let a = take n held in
      let b = drop n held in
      rw (length-append (rest_in a) b, length-drop (8 * pairs_in a) a, length-take n held, length-drop n held) (omega arith)

  near-taken : near_in (take n held) ≡ near_in held
  near-taken = sym (near_same (take n held) (drop n held) short) ∙ ap near_in (take-append-drop n held)

  far-taken : far_in (take n held) ≡ far_in held
  far-taken = sym (far-same (take n held) (drop n held) short) ∙ ap far_in (take-append-drop n held)

-- ---- one feed, and the flush, of an engine in order

-- f is what the run r leaves, sends and answers
record Ran (r : Run) (f : Fed) : Type 0 where
  left : left_by f ≡ r.engine
  sent : sent_by f ≡ bytes_of r.samples
  taken : f.answer.refusal ≡ 0

served : (r : Run) (out : List Float) (bytes : List ℕ) → Ran r (written_by (served_of r out) bytes)
served r out bytes = record { left = served-left r out bytes; sent = served-sent r out bytes; taken = refl }

module _ (e : Engine) (good : Good e) where
  state : State e.state (length e.shadow) (length e.output) (length e.spectra) (length e.powers)
  state = record { ranged = good.ranged; sizes = record { shadow = good.shadow; output = good.output; spectra = good.spectra; powers = good.powers } }

module _ (e : Engine) (good : Good e) (bytes : List ℕ) (b : length bytes ≡ 16384) where
  room : length (room_of bytes) ≡ 4096
  room = length-replicate (min (length bytes / 4) 4096) zero32 ∙ rw b refl

  -- at most 4,096 pairs
  pairs-ran : (near far : List Float) → length near ≡ length far → length near ≤ 4096 → process_of e near far (room_of bytes) ≡ served_of (pairs_of e near far) (room_of bytes)
  pairs-ran near far level few =
      process-ran e near far (room_of bytes)
      (process-accepted e.state _ _ _ _ _ _ _
      (record { state = state e good; pairs = record { level = level; few = few; room = rw room (fits e.state.carried (length near) good.ranged.waiting few) } }))
    where
      fits : (c n : ℕ) → c ≤ 255 → n ≤ 4096 → (c + n) / 256 * 256 ≤ 4096
      fits c n h k = omega arith

  feed-ran : (held : List ℕ) → length held ≤ 32775 → Ran (pairs_of e (near_in held) (far_in held)) (fed_of e held bytes)
  unfolding fed_of
  feed-ran held h =
      let t = take 32768 held in
      let nears : near_in t ≡ near_in held = near-taken 32768 held refl h in
      let fars : far_in t ≡ far_in held = far-taken 32768 held refl h in
      let near = near_in held in
      let far = far_in held in
      let l = length-near held in
      let q : process_of e (near_in t) (far_in t) (room_of bytes) ≡ served_of (pairs_of e near far) (room_of bytes) =
      (λ i. process_of e (nears i) (fars i) (room_of bytes)) ∙ pairs-ran near far (l ∙ sym (length-far held)) (omega (arith, l, h)) in
      subst (λ (c : Called). Ran (pairs_of e near far) (written_by c bytes)) (sym q) (served (pairs_of e near far) (room_of bytes) bytes)

-- and at the end, with room for the bytes of 256 samples
module _ (e : Engine) (good : Good e) (bytes : List ℕ) (b : length bytes ≡ 1024) where
  last-room : length (room_of bytes) ≡ 256
  last-room = length-replicate (min (length bytes / 4) 4096) zero32 ∙ rw b refl

  end-ran : Ran (flushed_of e) (finished_of e bytes)
  unfolding finished_of
  end-ran =
      let w = good.ranged.waiting in
      let q : flush_of e (room_of bytes) ≡ served_of (flushed_of e) (room_of bytes) =
      flush-ran e (room_of bytes) (flush-accepted e.state _ _ _ _ _ (record { state = state e good; room = rw last-room (omega (arith, w)) })) in
      subst (λ (c : Called). Ran (flushed_of e) (written_by c bytes)) (sym q) (served (flushed_of e) (room_of bytes) bytes)

-- ---- reads in a row

long-buffer : length buffer ≡ 16384
long-buffer = length-replicate {A = ℕ} 16384 0

long-last : length last_buffer ≡ 1024
long-last = length-replicate {A = ℕ} 1024 0

-- the run over the whole pairs of s, from the start
abbrev run_of : List ℕ → Run
run_of s = pairs_of start_of (near_in s) (far_in s)

module _ (z y : List Float) (l : length z ≡ 2056) (k : length y ≡ 1028) where
  start_fits : create_refusal 4 (length z) (length z) (length z) (length y) ≡ 0
  start_fits =
      settings-accepted 4 (length z) (length z) (length z) (length y)
      (record { some = omega arith; most = omega arith; sizes = record { shadow = l; output = l; spectra = l; powers = k } })

abbrev zeros : List Float
zeros = replicate 2056 zero64

abbrev powers : List Float
powers = replicate 1028 zero64

start-accepted : create_refusal 4 (length zeros) (length zeros) (length zeros) (length powers) ≡ 0
start-accepted = start_fits zeros powers (length-replicate 2056 zero64) (length-replicate 1028 zero64)

start-good : Good start_of
unfolding start_of
start-good = created-good 4 true zeros zeros zeros powers start-accepted

start-begins : Begins start_of
unfolding start_of
start-begins = created 4 true zeros zeros zeros powers (create-answers 4 true zeros zeros zeros powers ∙ start-accepted) refl

-- a part more: its pairs, with what was left before them, come after
run-cut : (s r : List ℕ) → run_of (s ++ r) ≡ joined (run_of s) (pairs_of (run_of s).engine (near_in (rest_in s ++ r)) (far_in (rest_in s ++ r)))
run-cut s r =
    (λ i. pairs_of start_of (near-cut s r i) (far-cut s r i))
    ∙ cut start_of (near_in s) (near_in (rest_in s ++ r)) (far_in s) (far_in (rest_in s ++ r)) (length-near s ∙ sym (length-far s))

-- where the program is when it has read s
record Reached (s : List ℕ) (g : Going) : Type 0 where
  engine : g.engine ≡ (run_of s).engine
  rest : g.rest ≡ rest_in s
  written : g.written ≡ bytes_of (run_of s).samples
  taken : All (λ n. n ≡ 0) g.refusals

read-reached : (s r : List ℕ) (g : Going) → length r ≤ 32768 → Reached s g → Reached (s ++ r) (read_of g r)
unfolding read_of
read-reached s r g h at =
    let e = (run_of s).engine in
    let held = rest_in s ++ r in
    let R = pairs_of e (near_in held) (far_in held) in
    let good = pairs-intact start_of (near_in s) (far_in s) start-good in
    let long : length held ≤ 32775 = rw (length-append (rest_in s) r) (omega (arith, rest-short s, h)) in
    let same : fed_of g.engine (g.rest ++ r) buffer ≡ fed_of e held buffer = λ i. fed_of (at.engine i) (at.rest i ++ r) buffer in
    let ran : Ran R (fed_of g.engine (g.rest ++ r) buffer) = subst (Ran R) (sym same) (feed-ran e good buffer long-buffer held long) in
    let next = sym (run-cut s r) in
    record {
      engine = ran.left ∙ ap (λ (x : Run). x.engine) next;
      rest = ap (λ (l : List ℕ). rest_in (l ++ r)) at.rest ∙ sym (rest-cut s r);
      written = (λ i. at.written i ++ ran.sent i) ∙ sym (bytes-join (run_of s).samples R.samples) ∙ ap (λ (x : Run). bytes_of x.samples) next;
      taken = all_append at.taken (all_cons ran.taken all_none);
    }

reads-reached : (s : List ℕ) (g : Going) (rs : List (List ℕ)) → All (λ r. length r ≤ 32768) rs → Reached s g → Reached (s ++ capture_of rs) (reads_of g rs)
unfolding reads_of capture_of
reads-reached s g [] h at = subst (λ (x : List ℕ). Reached x g) (sym (append-nil s)) at
reads-reached s g (r ∷ rs) h at =
    subst (λ (x : List ℕ). Reached x (reads_of (read_of g r) rs)) (append_assoc s r (capture_of rs))
    (reads-reached (s ++ r) (read_of g r) rs (record { each = h.each.1 }) (read-reached s r g h.each.0 at))

-- ---- and the flush

none : Reached [] (record { engine = start_of; rest = []; written = []; refusals = [] })
unfolding near_in table bytes_of pairs_of
none = record { engine = refl; rest = refl; written = refl; taken = all_none }

pub program : Program
unfolding end_of
program rs h =
    let s = capture_of rs in
    let g = reads_of (record { engine = start_of; rest = []; written = []; refusals = [] }) rs in
    let at : Reached s g = reads-reached [] _ rs h none in
    let e = (run_of s).engine in
    let F = flushed_of e in
    let same : ended_of g.engine ≡ ended_of e = ap ended_of at.engine in
    let ran : Ran F (ended_of g.engine) = subst (Ran F) (sym same) (end-ran e (pairs-intact start_of (near_in s) (far_in s) start-good) last_buffer long-last) in
    ((λ i. at.written i ++ ran.sent i) ∙ sym (bytes-join (run_of s).samples F.samples), all_append at.taken (all_cons ran.taken all_none))

-- what is read is an f32, whatever the bytes
read_fits : (s : List ℕ) → All Fits (near_in s)
unfolding near_in sample_at
read_fits s = all-table (pairs_in s) (λ k. sample_at s (2 * k)) (λ k l. record { fit = of_bits-fits binary32 (pattern_at s (2 * k)) })

pub singer : Singer
singer rs h still =
    let s = capture_of rs in
    (program rs h).0 ∙ ap bytes_of (singer-stream start_of (near_in s) (far_in s) start-begins (length-near s ∙ sym (length-far s)) (read_fits s) still)
