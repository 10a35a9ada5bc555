-- What a call leaves, refused and accepted, and that its records have room. Assumes nothing.
--     fed-accepted, finished-accepted     the canceller's own call is accepted where the state and the lent buffers are,
--     fed-number, finished-number         and refused as they say
--     fed-few, finished-few     how many samples it delivers at most
--     feed-ready, finish-ready     so both records fit and have room
--     feed-refuses, finish-refuses, feed-left, finish-left     what the code leaves is what the definition says
--     feed-runs, finish-runs     what an accepted call leaves
--     feed-sends, finish-sends     the bytes of the records lie in out, accepted or refused
use mathlib.Core.Path.{◌≡◌, refl, sym, ap, ◌∙◌, subst}
use mathlib.Core.Bool.{Bool, true, false}
use mathlib.Core.List.{List, [], ◌++◌}
use Prim.Native.Nat.{ℕ, ◌+◌, ◌*◌, ◌/◌, ◌≤◌, min}
use native.Mathlib.Omega.{arith}
use borrow.Author.Tests.{le-leb, leb-true, eq-eqb, eqb-true, eqb-false}
use lib.Dec.{eqb, leb}
use lib.Ieee.{Float}
use lib.ListN.{length, take, drop, length-append, length-take, length-replicate}
use lib.Seq.{length-take-le, take-take}
use Rattle.std.specs.Prelude.{Result, Ok, Err}
use Rattle.std.specs.Result.{IsErrAnd}
use Rattle.laws.specs.Choice.{pick, pick_yes, pick_no, pick-if}
use Rattle.refusal.specs.declared.Refusal.{Refusal}
use Rattle.refusal.specs.Refusal.{number_of}
use Rattle.tau_state.specs.Constants.{zero32}
use Rattle.tau_fresh.specs.Refusals.{process_refusal, flush_refusal}
use Rattle.tau_fresh.proofs.Accepted.{accepted-state, process-accepted, flush-accepted}
use Rattle.tau_frame.specs.Pairs.{Engine, pairs_of, flushed_of}
use Rattle.tau.specs.Calls.{Called, state_number, process_number, flush_number}
use Rattle.tau.proofs.Accepted.{process-answers, flush-answers, process-ran, flush-ran}
use Rattle.tau_streams.proofs.Counts.{delivers, flushed-delivers}
use Rattle.wire.specs.Wire.{pairs_in, near_in, far_in}
use Rattle.wire.proofs.Captures.{length-near, length-far}
use Rattle.capture.specs.Feeds.{Fed, room_of, fed_of, finished_of}
use Rattle.capture.specs.Program.{sent_by, buffer, last_buffer}
use Rattle.record.specs.Record.{fits_of}
use Rattle.record.proofs.Accepted.{fits-pairs, fits-samples, fits-flush}
use Rattle.record.proofs.Records.{some-number}
use Rattle.recorded.specs.declared.Recorded as declared
use Rattle.recorded.proofs.Both.{both-length}
use Rattle.recorded.specs.Recorded.{recorded_of, taken_of, Left, refused_of, accepted_of, recorded_by, both_of, feed_of, finish_of, first_refusal}

-- ---- what refuses

abbrev first_number : Engine → ℕ → List ℕ → ℕ
first_number e places out = first_refusal e.state (length e.shadow) (length e.output) (length e.spectra) (length e.powers) places (length out)

module _ (e : Engine) (places : ℕ) (out : List ℕ) where
  pub first-none : first_number e places out ≡ 0 → (state_number e ≡ 0) × (places ≤ length out)
  unfolding first_refusal pick
  first-none = go (eqb (state_number e) 0) (leb places (length out)) refl refl
    where
      go : (a b : Bool) → eqb (state_number e) 0 ≡ a → leb places (length out) ≡ b → pick a (pick b 0 5) (state_number e) ≡ 0 → (state_number e ≡ 0) × (places ≤ length out)
      go true true s r h = (eqb-true (state_number e) 0 s, leb-true places (length out) r)
      go true false s r h = absurd (omega arith)
      go false b s r h = absurd (eqb-false (state_number e) 0 s h)

  -- f is the canceller's call, which is refused as its state and lent buffers say
  module _ (f : Fed) (records : List ℕ) (number : f.answer.refusal ≡ state_number e) where
    by-refused : (n : ℕ) → n ≡ first_number e places out → (n ≡ 0 → ⊥) → refused_of n e out ≡ recorded_by e f records places out
    unfolding first_refusal recorded_by pick
    by-refused n h z =
        let first = state_number e in
        rw (number, h) (go (eqb first 0) (leb places (length out)) first (accepted_of f records out) (subst (λ (m : ℕ). m ≡ 0 → ⊥) h z))
      where
        go : (a b : Bool) (first : ℕ) (x : Left) → (pick a (pick b 0 5) first ≡ 0 → ⊥)
            → refused_of (pick a (pick b 0 5) first) e out ≡ pick a (pick b x (refused_of 5 e out)) (refused_of first e out)
        go true true first x z = absurd (z refl)
        go true false first x z = refl
        go false b first x z = refl

    by-accepted : first_number e places out ≡ 0 → accepted_of f records out ≡ recorded_by e f records places out
    unfolding recorded_by pick
    by-accepted h =
        let n = first-none h in
        rw (eq-eqb f.answer.refusal 0 (number ∙ n.0), le-leb places (length out) n.1) refl

-- ---- the canceller's calls

module _ (pairs : List ℕ) where
  taken-length : length (taken_of pairs) ≡ min (length pairs) 4096 / 8 * 8
  taken-length = rw (length-take (8 * pairs_in (take 4096 pairs)) (take 4096 pairs), length-take 4096 pairs) (omega arith)

  pub taken-few : length (taken_of pairs) ≤ 4096
  taken-few = let l = taken-length in omega (arith, l)

  pub taken_is : (end : ℕ) → end ≡ min (length pairs) 4096 / 8 * 8 → take end pairs ≡ taken_of pairs
  taken_is end h =
      let l = length-take 4096 pairs in
      let n : end ≡ 8 * pairs_in (take 4096 pairs) = rw l (omega (arith, h)) in
      sym (take-take end 4096 pairs (omega arith)) ∙ ap (λ (k : ℕ). take k (take 4096 pairs)) n

module _ (e : Engine) (t : List ℕ) (few : length t ≤ 4096) where
  abbrev near : List Float
  near = near_in (take 32768 t)

  abbrev far : List Float
  far = far_in (take 32768 t)

  level : length near ≡ length far
  level = length-near (take 32768 t) ∙ sym (length-far (take 32768 t))

  near-few : length near ≤ 512
  near-few = let n = length-near (take 32768 t) in let l = length-take 32768 t in omega (arith, n, l)

  room : length (room_of buffer) ≡ 4096
  room = length-replicate (min (length buffer / 4) 4096) zero32 ∙ ap (λ (n : ℕ). min (n / 4) 4096) (length-replicate {A = ℕ} 16384 0)

  pub fed-accepted : state_number e ≡ 0 → process_number e near far (room_of buffer) ≡ 0
  fed-accepted h =
      let s = accepted-state e.state _ _ _ _ h in
      let n = near-few in
      process-accepted e.state _ _ _ _ _ _ _
      (record { state = s; pairs = record { level = level; few = omega (arith, n); room = rw room (fits e.state.carried (length near) s.ranged.waiting n) } })
    where
      fits : (c n : ℕ) → c ≤ 255 → n ≤ 512 → (c + n) / 256 * 256 ≤ 4096
      fits c n h k = omega arith

  pub fed-number : (fed_of e t buffer).answer.refusal ≡ state_number e
  unfolding fed_of process_refusal
  fed-number = process-answers e near far (room_of buffer) ∙ go (eqb (state_number e) 0) refl
    where
      go : (b : Bool) → eqb (state_number e) 0 ≡ b → process_number e near far (room_of buffer) ≡ state_number e
      go true h = let z = eqb-true (state_number e) 0 h in fed-accepted z ∙ sym z
      go false h = sym (pick_no _ _ _ h refl)

  pub fed-few : state_number e ≡ 0 → (fed_of e t buffer).answer.delivered ≤ 512
  unfolding fed_of
  fed-few h =
      let s = accepted-state e.state _ _ _ _ h in
      let n = near-few in
      let d : length (pairs_of e near far).samples ≤ 512 =
      rw (delivers e near far s.ranged level) (most e.state.carried (length near) s.ranged.waiting n) in
      subst (λ (c : Called). c.answer.delivered ≤ 512) (sym (process-ran e near far (room_of buffer) (fed-accepted h))) d
    where
      most : (c n : ℕ) → c ≤ 255 → n ≤ 512 → (c + n) / 256 * 256 ≤ 512
      most c n h k = omega arith

module _ (e : Engine) where
  last-room : length (room_of last_buffer) ≡ 256
  last-room = length-replicate (min (length last_buffer / 4) 4096) zero32 ∙ ap (λ (n : ℕ). min (n / 4) 4096) (length-replicate {A = ℕ} 1024 0)

  pub finished-accepted : state_number e ≡ 0 → flush_number e (room_of last_buffer) ≡ 0
  finished-accepted h =
      let s = accepted-state e.state _ _ _ _ h in
      let w = s.ranged.waiting in
      flush-accepted e.state _ _ _ _ _ (record { state = s; room = rw last-room (omega (arith, w)) })

  pub finished-number : (finished_of e last_buffer).answer.refusal ≡ state_number e
  unfolding finished_of flush_refusal
  finished-number = flush-answers e (room_of last_buffer) ∙ go (eqb (state_number e) 0) refl
    where
      go : (b : Bool) → eqb (state_number e) 0 ≡ b → flush_number e (room_of last_buffer) ≡ state_number e
      go true h = let z = eqb-true (state_number e) 0 h in finished-accepted z ∙ sym z
      go false h = sym (pick_no _ _ _ h refl)

  pub finished-few : state_number e ≡ 0 → (finished_of e last_buffer).answer.delivered ≤ 256
  unfolding finished_of
  finished-few h =
      let s = accepted-state e.state _ _ _ _ h in
      let w = s.ranged.waiting in
      let d : length (flushed_of e).samples ≤ 256 = rw (flushed-delivers e s.ranged) (omega (arith, w)) in
      subst (λ (c : Called). c.answer.delivered ≤ 256) (sym (flush-ran e (room_of last_buffer) (finished-accepted h))) d

-- ---- the calls with their records

-- a call f that delivered at most so many samples, whose bytes lie in its buffer
module _ (f : Fed) (most : ℕ) (few : f.answer.delivered ≤ most) (long : 4 * most ≤ length f.bytes) where
  sent-length : length (sent_by f) ≡ 4 * f.answer.delivered
  sent-length = length-take-le (4 * f.answer.delivered) f.bytes (omega arith)

  pub sent-fits : most ≤ 1024 → fits_of 2 (length (sent_by f)) ≡ true
  sent-fits h = let l = sent-length in fits-samples (length (sent_by f)) (omega (arith, l)) (omega (arith, l))

  pub both-room : (kind : ℕ) (payload out : List ℕ) → 12 + length payload + 4 * most ≤ length out → length (both_of kind payload (sent_by f)) ≤ length out
  both-room kind payload out h = let l = sent-length in rw (both-length kind payload (sent_by f)) (omega (arith, l))

-- what `put` asks
abbrev Ready : Fed → ℕ → List ℕ → List ℕ → Type 0
Ready f kind payload out =
    ((fits_of kind (length payload) ≡ true) × (fits_of 2 (length (sent_by f)) ≡ true)) × (length (both_of kind payload (sent_by f)) ≤ length out)

-- n is the refusal that the code found, m the lesser of the pairs' length and 4,096
module _ (f : Fed) (e : Engine) (out : List ℕ) (n : ℕ) (none : n ≡ 0) where
  pub feed-ready : (pairs : List ℕ) (m : ℕ) → n ≡ first_number e 6156 out → m ≡ min (length pairs) 4096
      → f ≡ fed_of e (take (m / 8 * 8) pairs) buffer → length f.bytes ≡ length buffer → Ready f 1 (take (m / 8 * 8) pairs) out
  feed-ready pairs m first least h long =
      let t = take (m / 8 * 8) pairs in
      let l : length t ≡ m / 8 * 8 = length-take-le (m / 8 * 8) pairs (omega arith) in
      let r = first-none e 6156 out (sym first ∙ none) in
      let d : f.answer.delivered ≤ 512 = subst (λ (x : Fed). x.answer.delivered ≤ 512) (sym h) (fed-few e t (omega (arith, l)) r.0) in
      let b : length f.bytes ≡ 16384 = long ∙ length-replicate {A = ℕ} 16384 0 in (
        (fits-pairs (length t) (omega (arith, l)) (omega (arith, l)), sent-fits f 512 d (omega (arith, b)) (omega arith)),
        both-room f 512 d (omega (arith, b)) 1 t out (omega (arith, l, r.1)),
      )

  pub finish-ready : n ≡ first_number e 1036 out → f ≡ finished_of e last_buffer → length f.bytes ≡ length last_buffer → Ready f 3 [] out
  finish-ready first h long =
      let r = first-none e 1036 out (sym first ∙ none) in
      let d : f.answer.delivered ≤ 256 = subst (λ (x : Fed). x.answer.delivered ≤ 256) (sym h) (finished-few e r.0) in
      let b : length f.bytes ≡ 1024 = long ∙ length-replicate {A = ℕ} 1024 0 in
      ((fits-flush, sent-fits f 256 d (omega (arith, b)) (omega arith)), both-room f 256 d (omega (arith, b)) 3 [] out (omega (arith, r.1)))

module _ (f : Fed) (e : Engine) (out : List ℕ) where
  -- the records written, w bytes of them, and what is then in out
  module _ (o : List ℕ) (w : ℕ) where
    abbrev left : Left
    left = record {
      answer = record { refusal = 0; written = w; state = f.answer.state };
      shadow = f.shadow;
      output = f.output;
      spectra = f.spectra;
      powers = f.powers;
      out = o;
    }

    left_is : (records : List ℕ) → w ≡ length records → o ≡ records ++ drop w out → left ≡ accepted_of f records out
    left_is records l h =
        let d : o ≡ records ++ drop (length records) out = h ∙ ap (λ (n : ℕ). records ++ drop n out) l in
        λ i. record { answer = record { refusal = 0; written = l i; state = f.answer.state }; shadow = f.shadow; output = f.output; spectra = f.spectra; powers = f.powers; out = d i }

    pub feed-left : (pairs : List ℕ) (m n : ℕ) → n ≡ 0 → n ≡ first_number e 6156 out → m ≡ min (length pairs) 4096 → f ≡ fed_of e (take (m / 8 * 8) pairs) buffer
        → (w ≡ length (both_of 1 (take (m / 8 * 8) pairs) (sent_by f))) × (o ≡ both_of 1 (take (m / 8 * 8) pairs) (sent_by f) ++ drop w out) → left ≡ feed_of e pairs out
    unfolding feed_of
    feed-left pairs m n none first least h d =
        let F = fed_of e (taken_of pairs) buffer in
        let t = take (m / 8 * 8) pairs in
        let same : t ≡ taken_of pairs = taken_is pairs (m / 8 * 8) (ap (λ (k : ℕ). k / 8 * 8) least) in
        let g : f ≡ F = h ∙ ap (λ (x : List ℕ). fed_of e x buffer) same in
        left_is (both_of 1 t (sent_by f)) d.0 d.1
        ∙ (λ i. accepted_of (g i) (both_of 1 (same i) (sent_by (g i))) out)
        ∙ by-accepted e 6156 out F (both_of 1 (taken_of pairs) (sent_by F)) (fed-number e (taken_of pairs) (taken-few pairs)) (sym first ∙ none)

    pub finish-left : (n : ℕ) → n ≡ 0 → n ≡ first_number e 1036 out → f ≡ finished_of e last_buffer
        → (w ≡ length (both_of 3 [] (sent_by f))) × (o ≡ both_of 3 [] (sent_by f) ++ drop w out) → left ≡ finish_of e out
    unfolding finish_of
    finish-left n none first h d =
        let F = finished_of e last_buffer in
        left_is (both_of 3 [] (sent_by f)) d.0 d.1
        ∙ (λ i. accepted_of (h i) (both_of 3 [] (sent_by (h i))) out)
        ∙ by-accepted e 1036 out F (both_of 3 [] (sent_by F)) (finished-number e) (sym first ∙ none)

module _ (e : Engine) (out : List ℕ) (n : ℕ) where
  feed-refused : (pairs : List ℕ) → n ≡ first_number e 6156 out → (n ≡ 0 → ⊥) → refused_of n e out ≡ feed_of e pairs out
  unfolding feed_of
  feed-refused pairs h z = by-refused e 6156 out (fed_of e (taken_of pairs) buffer) _ (fed-number e (taken_of pairs) (taken-few pairs)) n h z

  finish-refused : n ≡ first_number e 1036 out → (n ≡ 0 → ⊥) → refused_of n e out ≡ finish_of e out
  unfolding finish_of
  finish-refused h z = by-refused e 1036 out (finished_of e last_buffer) _ (finished-number e) n h z

-- the answer of a refused call, of which the code says that it is an `Err` of this refusal
pub feed-refuses : (e : Engine) (pairs out : List ℕ) (r : Result declared.Recorded Refusal) (refusal : Refusal) → IsErrAnd r (λ x. x ≡ refusal) → number_of refusal ≡ first_number e 6156 out
    → record { answer = recorded_of e.state r; shadow = e.shadow; output = e.output; spectra = e.spectra; powers = e.powers; out = out } ≡ feed_of e pairs out
feed-refuses e pairs out (Ok v) refusal h f = absurd h
feed-refuses e pairs out (Err x) refusal h f = feed-refused e out (number_of x) pairs (ap number_of h ∙ f) (some-number x)

pub finish-refuses : (e : Engine) (out : List ℕ) (r : Result declared.Recorded Refusal) (refusal : Refusal) → IsErrAnd r (λ x. x ≡ refusal) → number_of refusal ≡ first_number e 1036 out
    → record { answer = recorded_of e.state r; shadow = e.shadow; output = e.output; spectra = e.spectra; powers = e.powers; out = out } ≡ finish_of e out
finish-refuses e out (Ok v) refusal h f = absurd h
finish-refuses e out (Err x) refusal h f = finish-refused e out (number_of x) (ap number_of h ∙ f) (some-number x)

-- ---- an accepted call

first-zero : (e : Engine) (places : ℕ) (out : List ℕ) → state_number e ≡ 0 → places ≤ length out → first_number e places out ≡ 0
unfolding first_refusal
first-zero e places out h k = sym (pick_yes _ _ _ (eq-eqb (state_number e) 0 h) (pick_yes _ _ _ (le-leb places (length out) k) refl))

module _ (e : Engine) (out : List ℕ) (ok : state_number e ≡ 0) where
  pub feed-runs : (pairs : List ℕ) → 6156 ≤ length out
      → feed_of e pairs out
      ≡ accepted_of (fed_of e (taken_of pairs) buffer) (both_of 1 (taken_of pairs) (sent_by (fed_of e (taken_of pairs) buffer))) out
  unfolding feed_of
  feed-runs pairs h =
      sym (by-accepted e 6156 out (fed_of e (taken_of pairs) buffer) _ (fed-number e (taken_of pairs) (taken-few pairs)) (first-zero e 6156 out ok h))

  pub finish-runs : 1036 ≤ length out → finish_of e out ≡ accepted_of (finished_of e last_buffer) (both_of 3 [] (sent_by (finished_of e last_buffer))) out
  unfolding finish_of
  finish-runs h = sym (by-accepted e 1036 out (finished_of e last_buffer) _ (finished-number e) (first-zero e 1036 out ok h))

-- ---- the bytes of the records lie in out, accepted or refused

by-sends : (e : Engine) (f : Fed) (records : List ℕ) (places : ℕ) (out : List ℕ)
    → (recorded_by e f records places out).answer.written ≤ length (recorded_by e f records places out).out
unfolding recorded_by
by-sends e f records places out =
    let Sends : Left → Type 0 = λ l. l.answer.written ≤ length l.out in
    pick-if Sends (eqb f.answer.refusal 0)
    (λ _. pick-if Sends (leb places (length out)) (λ _. rw (length-append records (drop (length records) out)) (omega arith)) (λ _. omega arith))
    (λ _. omega arith)

pub feed-sends : (l : Left) (e : Engine) (pairs out : List ℕ) → l ≡ feed_of e pairs out → l.answer.written ≤ length l.out
unfolding feed_of
feed-sends l e pairs out h = subst (λ (x : Left). x.answer.written ≤ length x.out) (sym h) (by-sends e _ _ 6156 out)

pub finish-sends : (l : Left) (e : Engine) (out : List ℕ) → l ≡ finish_of e out → l.answer.written ≤ length l.out
unfolding finish_of
finish-sends l e out h = subst (λ (x : Left). x.answer.written ≤ length x.out) (sym h) (by-sends e _ _ 1036 out)
