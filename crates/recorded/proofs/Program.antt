-- However long the input is: what the program writes is the bytes of its records, block by block and then the flush; they hold the whole
-- pairs and what the canceller makes of them; and no call is refused. Assumes nothing.
use mathlib.Core.Path.{◌≡◌, refl, sym, ap, ◌∙◌, subst}
use mathlib.Core.Bool.{Bool, true, false}
use mathlib.Core.List.{List, [], ◌∷◌, ◌++◌, append_assoc, append-nil}
use Prim.Native.Nat.{ℕ, ◌+◌, ◌*◌, ◌%◌, ◌≤◌, ◌<◌}
use native.Mathlib.Omega.{arith}
use borrow.Author.Tests.{leb-false}
use lib.Dec.{leb}
use lib.ListN.{length, take, drop, replicate, length-append, length-take, length-drop, length-replicate, take-append-drop, drop_of_length-le}
use lib.Seq.{take_all, take-append_seam, take-append-add}
use Rattle.laws.specs.Choice.{pick, pick-if}
use Rattle.laws.specs.Kinds.{All, all_none, all_cons, all_append}
use Rattle.laws.specs.Tables.{table}
use Rattle.tau_frame.specs.Pairs.{Engine, pairs_of}
use Rattle.tau.specs.Calls.{Called, served_of, process_of, state_number}
use Rattle.tau.specs.Calls as tau-calls
use Rattle.tau_streams.specs.Stream.{delivered_by}
use Rattle.tau.proofs.Accepted.{process-ran}
use Rattle.tau_streams.proofs.Counts.{state-intact, pairs-intact, intact-accepted}
use Rattle.wire.specs.Wire.{pairs_in, near_in, far_in, rest_in, bytes_of}
use Rattle.wire.proofs.Captures.{near_same, far-same, length-bytes}
use Rattle.capture.specs.Feeds as feeds
use Rattle.capture.specs.Feeds.{Fed, room_of, fed_of, finished_of}
use Rattle.capture.specs.Program as plain
use Rattle.capture.specs.Program.{start_of, left_by, sent_by, buffer, last_buffer, ended_of, capture_of}
use Rattle.capture.proofs.Program as plain-proofs
use Rattle.record.specs.Record.{fits_of, record_of}
use Rattle.record.specs.Capture.{Record, Fits, joined_of, capture_of as held_in}
use Rattle.record.proofs.Captures.{ahead_of, capture-none, capture-joined}
use Rattle.recorded.specs.Recorded.{whole_in, taken_of, Left, accepted_of, both_of}
use Rattle.recorded.specs.Program.{engine_by, written_by, block_of, flush_of, Going, after_of, blocks_of, end_of, ran_of, call_of, records_of, payloads_of, Filled, Program}
use Rattle.record.proofs.Accepted.{fits-pairs, fits-samples, fits-flush}
use Rattle.recorded.proofs.Calls.{fed-accepted, fed-few, finished-few, finished-number, feed-runs, finish-runs}

-- ---- a block's whole pairs

module _ (b : List ℕ) where
  whole-few : length (whole_in b) ≤ length b
  whole-few = rw (length-take (8 * pairs_in b) b) (omega arith)

  whole-none : length b < 8 → whole_in b ≡ []
  whole-none h = let n : 8 * pairs_in b ≡ 0 = omega arith in ap (λ (k : ℕ). take k b) n

  rest-none : length b ≡ 4096 → rest_in b ≡ []
  rest-none h = drop_of_length-le b {i = 8 * pairs_in b} (omega arith)

-- a full block, and what follows
whole-next : (b s : List ℕ) → length b ≡ 4096 → whole_in (b ++ s) ≡ whole_in b ++ whole_in s
whole-next b s h =
    let l = length-append b s in
    let n : 8 * pairs_in (b ++ s) ≡ length b + 8 * pairs_in s = omega (arith, l) in
    let w : whole_in b ≡ b = take_all (8 * pairs_in b) b (omega arith) in
    ap (λ (k : ℕ). take k (b ++ s)) n ∙ take-append-add b s (8 * pairs_in s) ∙ ap (λ (x : List ℕ). x ++ whole_in s) (sym w)

-- ---- one call: of an engine in order, and a block b

-- what a call sends fits a record of samples
sent-fits : (c : Called) (bytes : List ℕ) → length bytes % 4 ≡ 0 → c.answer.delivered ≤ 512 → fits_of 2 (length (sent_by (feeds.written_by c bytes))) ≡ true
sent-fits c bytes whole few =
    let samples = delivered_by c in
    let back = drop (4 * length samples) bytes in
    let n = length-bytes samples in
    let d = length-drop (4 * length samples) bytes in
    let l = length-append (bytes_of samples) back in
    let t = length-take (4 * c.answer.delivered) (bytes_of samples ++ back) in
    fits-samples (length (sent_by (feeds.written_by c bytes))) (omega (arith, n, d, l, t)) (omega (arith, n, d, l, t))

module _ (e : Engine) (ok : state_number e ≡ 0) where
  -- the flush, and its records
  ended : flush_of e ≡ accepted_of (ended_of e) (both_of 3 [] (sent_by (ended_of e))) (replicate 1036 0)
  ended = let l = length-replicate {A = ℕ} 1036 0 in finish-runs e (replicate 1036 0) ok (omega (arith, l))

  -- what a feed of t leaves, and sends
  fed-ran : (t : List ℕ) → length t ≤ 4096
      → fed_of e t buffer ≡ feeds.written_by (served_of (pairs_of e (near_in (take 32768 t)) (far_in (take 32768 t))) (room_of buffer)) buffer
  unfolding fed_of
  fed-ran t h =
      ap (λ (c : Called). feeds.written_by c buffer)
      (process-ran e (near_in (take 32768 t)) (far_in (take 32768 t)) (room_of buffer) (fed-accepted e t h ok))

  fed-next : (t : List ℕ) → length t ≤ 4096 → state_number (left_by (fed_of e t buffer)) ≡ 0
  fed-next t h =
      let near = near_in (take 32768 t) in
      let far = far_in (take 32768 t) in
      subst (λ (f : Fed). state_number (left_by f) ≡ 0) (sym (fed-ran t h))
      (intact-accepted (pairs_of e near far).engine (pairs-intact e near far (state-intact e ok)))

  -- a feed of nothing
  none_left : left_by (fed_of e [] buffer) ≡ e
  unfolding pairs_of near_in table
  none_left = ap left_by (fed-ran [] (omega arith))

  none-sent : sent_by (fed_of e [] buffer) ≡ []
  unfolding pairs_of near_in table bytes_of
  none-sent = ap sent_by (fed-ran [] (omega arith))

  module _ (b : List ℕ) (few : length b ≤ 4096) where
    abbrev fed : Fed
    fed = fed_of e (whole_in b) buffer

    few-whole : length (whole_in b) ≤ 4096
    few-whole = let w = whole-few b in omega (arith, w)

    blocked : block_of e b ≡ accepted_of fed (both_of 1 (whole_in b) (sent_by fed)) (replicate 6156 0)
    blocked =
        let l = length-replicate {A = ℕ} 6156 0 in
        let t : taken_of b ≡ whole_in b = ap whole_in (take_all 4096 b few) in
        feed-runs e (replicate 6156 0) ok b (omega (arith, l))
        ∙ ap (λ (x : List ℕ). accepted_of (fed_of e x buffer) (both_of 1 x (sent_by (fed_of e x buffer))) (replicate 6156 0)) t

    -- an unfinished pair does not count
    fed-whole : fed_of e b buffer ≡ fed
    unfolding fed_of
    fed-whole =
        let w = whole-few b in
        let l = length-take (8 * pairs_in b) b in
        let t : take 32768 b ≡ b = take_all 32768 b (omega arith) in
        let u : take 32768 (whole_in b) ≡ whole_in b = take_all 32768 (whole_in b) (omega (arith, w)) in
        let parts : whole_in b ++ rest_in b ≡ b = take-append-drop (8 * pairs_in b) b in
        let short : length (rest_in (whole_in b) ++ rest_in b) < 8 =
        rw (length-append (rest_in (whole_in b)) (rest_in b), length-drop (8 * pairs_in (whole_in b)) (whole_in b), length-drop (8 * pairs_in b) b) (omega (arith, l)) in
        let nears : near_in (take 32768 b) ≡ near_in (take 32768 (whole_in b)) =
        ap near_in (t ∙ sym parts) ∙ near_same (whole_in b) (rest_in b) short ∙ ap near_in (sym u) in
        let fars : far_in (take 32768 b) ≡ far_in (take 32768 (whole_in b)) =
        ap far_in (t ∙ sym parts) ∙ far-same (whole_in b) (rest_in b) short ∙ ap far_in (sym u) in
        λ i. feeds.written_by (process_of e (nears i) (fars i) (room_of buffer)) buffer

    block-next : state_number (engine_by (block_of e b)) ≡ 0
    block-next = subst (λ (l : Left). state_number (engine_by l) ≡ 0) (sym blocked) (fed-next (whole_in b) few-whole)

    -- where the block has no whole pair its call would do nothing
    idle : length b < 8 → (left_by fed ≡ e) × (sent_by fed ≡ [])
    idle h =
        let f : fed ≡ fed_of e [] buffer = ap (λ (x : List ℕ). fed_of e x buffer) (whole-none b h) in
        (ap left_by f ∙ none_left, ap sent_by f ∙ none-sent)

    pairs-fit : fits_of 1 (length (whole_in b)) ≡ true
    pairs-fit = let w = few-whole in let l = length-take (8 * pairs_in b) b in fits-pairs (length (whole_in b)) w (omega (arith, l))

    output-fit : fits_of 2 (length (sent_by fed)) ≡ true
    unfolding fed_of
    output-fit =
        let t = take 32768 (whole_in b) in
        let l = length-replicate {A = ℕ} 16384 0 in
        sent-fits (process_of e (near_in t) (far_in t) (room_of buffer)) buffer (omega (arith, l)) (fed-few e (whole_in b) few-whole ok)

  last_fit : fits_of 2 (length (sent_by (ended_of e))) ≡ true
  unfolding finished_of
  last_fit =
      let l = length-replicate {A = ℕ} 1024 0 in
      let d = finished-few e ok in
      sent-fits (tau-calls.flush_of e (room_of last_buffer)) last_buffer (omega (arith, l)) (omega (arith, d))

-- ---- what is written

joined-call : (kind : ℕ) (payload : List ℕ) (f : Fed) (rs : List Record) → joined_of (call_of kind payload f rs) ≡ both_of kind payload (sent_by f) ++ joined_of rs
unfolding joined_of
joined-call kind payload f rs = sym (append_assoc (record_of kind payload) (record_of 2 (sent_by f)) (joined_of rs))

written_is : (f : Fed) (records out : List ℕ) → written_by (accepted_of f records out) ≡ records
written_is f records out = take-append_seam records (drop (length records) out)

-- both arms of two picks by one test
chosen : {A B : Type 0} (P : A → B → Type 0) (t : Bool) {x y : A} {u v : B} → P x u → P y v → P (pick t x y) (pick t u v)
unfolding pick
chosen P true h k = h
chosen P false h k = k

runs-written : (g : Going) (bs : List (List ℕ)) → state_number g.engine ≡ 0 → All (λ b. length b ≤ 4096) bs
    → (end_of (blocks_of g bs)).written ≡ g.written ++ joined_of (records_of g.engine bs)
unfolding blocks_of records_of joined_of
runs-written g [] ok h =
    let e = g.engine in
    ap (λ (x : List ℕ). g.written ++ x)
    (ap written_by (ended e ok) ∙ written_is (ended_of e) (both_of 3 [] (sent_by (ended_of e))) (replicate 1036 0)
    ∙ sym (append-nil (both_of 3 [] (sent_by (ended_of e))))
    ∙ sym (joined-call 3 [] (ended_of e) []))
runs-written g (b ∷ bs) ok h =
    let e = g.engine in
    let few = h.each.0 in
    let f = fed_of e (whole_in b) buffer in
    let both = both_of 1 (whole_in b) (sent_by f) in
    let later : All (λ x. length x ≤ 4096) bs = record { each = h.each.1 } in
    let yes : (end_of (blocks_of (after_of g (block_of e b)) bs)).written ≡ g.written ++ joined_of (call_of 1 (whole_in b) f (records_of (left_by f) bs)) =
    runs-written (after_of g (block_of e b)) bs (block-next e ok b few) later
    ∙ ap (λ (l : Left). (g.written ++ written_by l) ++ joined_of (records_of (engine_by l) bs)) (blocked e ok b few)
    ∙ ap (λ (x : List ℕ). (g.written ++ x) ++ joined_of (records_of (left_by f) bs)) (written_is f both (replicate 6156 0))
    ∙ append_assoc g.written both (joined_of (records_of (left_by f) bs))
    ∙ ap (λ (x : List ℕ). g.written ++ x) (sym (joined-call 1 (whole_in b) f (records_of (left_by f) bs))) in
    chosen (λ (k : Going) (rs : List Record). (end_of (blocks_of k bs)).written ≡ g.written ++ joined_of rs) (leb 8 (length b)) yes (runs-written g bs ok later)

-- ---- no call is refused, and every record fits

runs_taken : (g : Going) (bs : List (List ℕ)) → state_number g.engine ≡ 0 → All (λ b. length b ≤ 4096) bs → All (λ n. n ≡ 0) g.refusals
    → All (λ n. n ≡ 0) (end_of (blocks_of g bs)).refusals
unfolding blocks_of
runs_taken g [] ok h k = all_append k (all_cons (ap (λ (l : Left). l.answer.refusal) (ended g.engine ok)) all_none)
runs_taken g (b ∷ bs) ok h k =
    let e = g.engine in
    let few = h.each.0 in
    let later : All (λ x. length x ≤ 4096) bs = record { each = h.each.1 } in
    pick-if (λ (x : Going). All (λ n. n ≡ 0) (end_of (blocks_of x bs)).refusals) (leb 8 (length b))
    (λ _. runs_taken (after_of g (block_of e b)) bs (block-next e ok b few) later
    (all_append k (all_cons (ap (λ (l : Left). l.answer.refusal) (blocked e ok b few)) all_none)))
    (λ _. runs_taken g bs ok later k)

records-fit : (e : Engine) (bs : List (List ℕ)) → state_number e ≡ 0 → All (λ b. length b ≤ 4096) bs → All Fits (records_of e bs)
unfolding records_of
records-fit e [] ok h = all_cons fits-flush (all_cons (last_fit e ok) all_none)
records-fit e (b ∷ bs) ok h =
    let few = h.each.0 in
    let later : All (λ x. length x ≤ 4096) bs = record { each = h.each.1 } in
    pick-if (All Fits) (leb 8 (length b))
    (λ _. all_cons (pairs-fit e ok b few) (all_cons (output-fit e ok b few) (records-fit (left_by (fed e ok b few)) bs (fed-next e ok (whole_in b) (few-whole e ok b few)) later)))
    (λ _. records-fit e bs ok later)

-- ---- the payloads

-- of a block, and of those after it
pairs_next : (e : Engine) (b : List ℕ) (bs : List (List ℕ)) (s : List ℕ) → ((x : Engine) → payloads_of 1 (records_of x bs) ≡ s)
    → payloads_of 1 (records_of e (b ∷ bs)) ≡ whole_in b ++ s
unfolding records_of payloads_of pick
pairs_next e b bs s h =
    pick-if (λ (rs : List Record). payloads_of 1 rs ≡ whole_in b ++ s) (leb 8 (length b))
    (λ _. ap (λ (x : List ℕ). whole_in b ++ x) (h (left_by (fed_of e (whole_in b) buffer))))
    (λ f. h e ∙ ap (λ (x : List ℕ). x ++ s) (sym (whole-none b (leb-false 8 (length b) f))))

pairs-are : (e : Engine) (bs : List (List ℕ)) → Filled bs → payloads_of 1 (records_of e bs) ≡ whole_in (capture_of bs)
unfolding records_of payloads_of pick capture_of Filled
pairs-are e [] h = refl
pairs-are e (b ∷ []) h =
    pairs_next e b [] [] (λ x. refl) ∙ append-nil (whole_in b) ∙ ap whole_in (sym (append-nil b))
pairs-are e (b ∷ c ∷ bs) h =
    pairs_next e b (c ∷ bs) (whole_in (capture_of (c ∷ bs))) (λ x. pairs-are x (c ∷ bs) h.1) ∙ sym (whole-next b (capture_of (c ∷ bs)) h.0)

output-next : (e : Engine) (b : List ℕ) (bs : List (List ℕ)) → state_number e ≡ 0 → length b ≤ 4096
    → payloads_of 2 (records_of e (b ∷ bs)) ≡ sent_by (fed_of e (whole_in b) buffer) ++ payloads_of 2 (records_of (left_by (fed_of e (whole_in b) buffer)) bs)
unfolding records_of payloads_of pick
output-next e b bs ok few =
    let f = fed_of e (whole_in b) buffer in
    pick-if (λ (rs : List Record). payloads_of 2 rs ≡ sent_by f ++ payloads_of 2 (records_of (left_by f) bs)) (leb 8 (length b)) (λ _. refl)
    (λ t. let i = idle e ok b few (leb-false 8 (length b) t) in sym (λ j. i.1 j ++ payloads_of 2 (records_of (i.0 j) bs)))

-- the same blocks, as reads of the program that writes the output alone
module _ (g : plain.Going) (ok : state_number g.engine ≡ 0) (none : g.rest ≡ []) (b : List ℕ) (few : length b ≤ 4096) where
  same-feed : fed_of g.engine (g.rest ++ b) buffer ≡ fed g.engine ok b few
  same-feed = ap (λ (x : List ℕ). fed_of g.engine (x ++ b) buffer) none ∙ fed-whole g.engine ok b few

  read_next : state_number (plain.read_of g b).engine ≡ 0
  unfolding plain.read_of
  read_next =
      subst (λ (f : Fed). state_number (left_by f) ≡ 0) (sym same-feed) (fed-next g.engine ok (whole_in b) (few-whole g.engine ok b few))

  read-rest : length b ≡ 4096 → (plain.read_of g b).rest ≡ []
  unfolding plain.read_of
  read-rest h = ap (λ (x : List ℕ). rest_in (x ++ b)) none ∙ rest-none b h

  -- and what the reads after it write
  read-writes : (bs : List (List ℕ)) (w : List ℕ) → w ≡ (plain.read_of g b).written ++ payloads_of 2 (records_of (plain.read_of g b).engine bs)
      → w ≡ g.written ++ payloads_of 2 (records_of g.engine (b ∷ bs))
  unfolding plain.read_of
  read-writes bs w h =
      let f = fed g.engine ok b few in
      h
      ∙ ap (λ (x : Fed). (g.written ++ sent_by x) ++ payloads_of 2 (records_of (left_by x) bs)) same-feed
      ∙ append_assoc g.written (sent_by f) (payloads_of 2 (records_of (left_by f) bs))
      ∙ ap (λ (x : List ℕ). g.written ++ x) (sym (output-next g.engine b bs ok few))

-- nothing more is read
end-writes : (g : plain.Going) → (plain.end_of g).written ≡ g.written ++ payloads_of 2 (records_of g.engine [])
unfolding plain.end_of records_of payloads_of pick
end-writes g = ap (λ (x : List ℕ). g.written ++ x) (sym (append-nil (sent_by (ended_of g.engine))))

output-is : (g : plain.Going) (bs : List (List ℕ)) → state_number g.engine ≡ 0 → g.rest ≡ [] → Filled bs
    → (plain.end_of (plain.reads_of g bs)).written ≡ g.written ++ payloads_of 2 (records_of g.engine bs)
unfolding plain.reads_of Filled
output-is g [] ok none h = end-writes g
output-is g (b ∷ []) ok none h = read-writes g ok none b h [] _ (end-writes (plain.read_of g b))
output-is g (b ∷ c ∷ bs) ok none h =
    let few : length b ≤ 4096 = omega (arith, h.0) in
    read-writes g ok none b few (c ∷ bs) _
    (output-is (plain.read_of g b) (c ∷ bs) (read_next g ok none b few) (read-rest g ok none b few h.0) h.1)

-- ---- the program

filled-few : (n : ℕ) → 4096 ≤ n → (bs : List (List ℕ)) → Filled bs → All (λ b. length b ≤ n) bs
unfolding Filled
filled-few n k [] h = all_none
filled-few n k (b ∷ []) h = all_cons (omega arith) all_none
filled-few n k (b ∷ c ∷ bs) h = all_cons (omega (arith, h.0)) (filled-few n k (c ∷ bs) h.1)

start-ok : state_number start_of ≡ 0
unfolding plain.end_of plain.reads_of
start-ok = sym (finished-number start_of) ∙ (plain-proofs.program [] all_none).1.each.0

read_all : (rs : List Record) (w : List ℕ) → w ≡ joined_of rs → All Fits rs → held_in w ≡ record { records = rs; refusal = 0; place = length w }
read_all rs w h fit =
    let n : length (joined_of rs) + 0 ≡ length w = ap (λ (k : ℕ). k + 0) (ap length (sym h)) ∙ omega arith in
    ap held_in (h ∙ sym (append-nil (joined_of rs)))
    ∙ capture-joined rs [] fit
    ∙ ap (ahead_of rs) capture-none
    ∙ (λ i. record { records = append-nil rs i; refusal = 0; place = n i })

pub program : Program
program bs h =
    let few = filled-few 4096 (omega arith) bs h in
    let begin : Going = record { engine = start_of; written = []; refusals = [] } in
    let written : (ran_of bs).written ≡ joined_of (records_of start_of bs) = runs-written begin bs start-ok few in
    let fit = records-fit start_of bs start-ok few in
    record {
      written = written;
      fit = fit;
      pairs = pairs-are start_of bs h;
      output = sym (output-is (record { engine = start_of; rest = []; written = []; refusals = [] }) bs start-ok refl h)
          ∙ (plain-proofs.program bs (filled-few 32768 (omega arith) bs h)).0;
      taken = runs_taken begin bs start-ok few all_none;
      read = read_all (records_of start_of bs) (ran_of bs).written written fit;
    }
