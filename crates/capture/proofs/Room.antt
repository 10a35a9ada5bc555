-- What a call delivers has room, in its output buffer and as bytes. Assumes nothing.
--     process-fits, flush-fits     a call delivers no more than its output buffer holds, accepted or refused
--     roomy                what the buffer for bytes has room for, cut from a longer buffer of zeros
--     taken                the front of a list, by the lesser of its length and a number
--     few                  the bytes taken hold at most 4,096 pairs
--     near-read, far-read  the samples of those pairs, at the front of their buffer
--     process-front, flush-front     what a call delivers lies in the longer buffer
--     process-written, flush-written     and its bytes, written, make up what the definition says
--     fed-sends, finished-sends     so the bytes of what was delivered lie in the buffer for bytes
use mathlib.Core.Path.{◌≡◌, refl, sym, ap, ◌∙◌, subst}
use mathlib.Core.List.{List, ◌++◌}
use mathlib.Core.Logic.{inl, inr}
use Prim.Native.Nat.{ℕ, ◌+◌, ◌*◌, ◌/◌, ◌≤◌, min}
use native.Mathlib.Nat.{le_of_lt, min-eq_left, min-eq_right}
use native.Mathlib.Omega.{arith}
use borrow.Author.Tests.{eqb-true}
use lib.Dec.{eqb}
use lib.Ieee.{Float}
use lib.ListN.{length, take, drop, replicate, length-replicate, length-append, length-take}
use lib.Seq.{length-take-le, take-append-le, take_all, take-length}
use Rattle.laws.specs.Choice.{pick-if, lt-or-ge}
use Rattle.laws.specs.Kinds.{all_same, all_take, all_replicate}
use Rattle.laws.specs.Loops.{over}
use Rattle.tau_state.specs.Constants.{zero32}
use Rattle.tau_frame.specs.Pairs.{Engine}
use Rattle.tau.specs.Calls.{Called, process_of, flush_of}
use Rattle.tau_streams.specs.Stream.{delivered_by}
use Rattle.tau.specs.Calls.{process_number, flush_number}
use Rattle.tau_fresh.proofs.Accepted.{accepted-pairs, accepted-flush}
use Rattle.tau_streams.proofs.Counts.{delivers, flushed-delivers}
use Rattle.wire.specs.Wire.{sample_at, pairs_in, near_in, far_in, written_at, bytes_of}
use Rattle.wire.proofs.Captures.{near-front, far-front, written-front}
use Rattle.capture.specs.Feeds.{Fed, room_of, written_by, fed_of, finished_of}

pub process-fits : (e : Engine) (near far out : List Float) → (process_of e near far out).answer.delivered ≤ length out
unfolding process_of
process-fits e near far out =
    pick-if (λ (c : Called). c.answer.delivered ≤ length out) (eqb (process_number e near far out) 0)
    (λ t. let a = accepted-pairs e.state _ _ _ _ _ _ _ (eqb-true (process_number e near far out) 0 t) in rw (delivers e near far a.state.ranged a.pairs.level) a.pairs.room)
    (λ _. omega arith)

pub flush-fits : (e : Engine) (out : List Float) → (flush_of e out).answer.delivered ≤ length out
unfolding flush_of
flush-fits e out =
    pick-if (λ (c : Called). c.answer.delivered ≤ length out) (eqb (flush_number e out) 0)
    (λ t. let a = accepted-flush e.state _ _ _ _ _ (eqb-true (flush_number e out) 0 t) in rw (flushed-delivers e a.state.ranged) a.room)
    (λ _. omega arith)

front-of-zeros : (m n : ℕ) (z : Float) → m ≤ n → take m (replicate n z) ≡ replicate m z
front-of-zeros m n z h =
    let long : length (take m (replicate n z)) ≡ m = length-take-le m (replicate n z) (rw (length-replicate n z) h) in
    all_same (all_take m (all_replicate n z refl)) ∙ ap (λ (k : ℕ). replicate k z) long

pub roomy : (m : ℕ) (bytes : List ℕ) → m ≡ min (length bytes / 4) 4096 → take m (replicate 4096 zero32) ≡ room_of bytes
roomy m bytes e = front-of-zeros m 4096 zero32 (omega arith) ∙ ap (λ (k : ℕ). replicate k zero32) e

pub taken : (n : ℕ) (s : List ℕ) → take (min (length s) n) s ≡ take n s
taken n s = elim (lt-or-ge (length s) n) [
  | inl h ↦ ap (λ (k : ℕ). take k s) (min-eq_left (le_of_lt h)) ∙ take-length s ∙ sym (take_all n s (le_of_lt h))
  | inr h ↦ ap (λ (k : ℕ). take k s) (min-eq_right h)
]

-- the bytes taken hold at most 4,096 pairs
pub few : (p m : ℕ) (held : List ℕ) → p ≡ pairs_in (take m held) → m ≡ min (length held) 32768 → p ≤ 4096
few p m held e h = let l = length-take m held in omega (arith, l)

pub near-read : (p : ℕ) (s : List ℕ) (d l : List Float) → p ≡ pairs_in s → p ≤ length d → l ≡ over (pairs_in s) (λ k x. sample_at s (2 * k)) d → take p l ≡ near_in s
near-read p s d l e h w = ap (take p) w ∙ ap (λ (n : ℕ). take n (over (pairs_in s) (λ k x. sample_at s (2 * k)) d)) e ∙ near-front s d (subst (λ (n : ℕ). n ≤ length d) e h)

pub far-read : (p : ℕ) (s : List ℕ) (d l : List Float) → p ≡ pairs_in s → p ≤ length d → l ≡ over (pairs_in s) (λ k x. sample_at s (2 * k + 1)) d → take p l ≡ far_in s
far-read p s d l e h w = ap (take p) w ∙ ap (λ (n : ℕ). take n (over (pairs_in s) (λ k x. sample_at s (2 * k + 1)) d)) e ∙ far-front s d (subst (λ (n : ℕ). n ≤ length d) e h)

-- ---- a call c, of which k is the definition, on the front z of a buffer that goes on with d

module _ (c k : Called) (z d : List Float) (e : c ≡ k) (fit : k.answer.delivered ≤ length z) (long : length c.out ≡ length z) where
  fits : c.answer.delivered ≤ length c.out
  fits = let f : c.answer.delivered ≤ length z = subst (λ (x : Called). x.answer.delivered ≤ length z) (sym e) fit in omega arith

  front : c.answer.delivered ≤ length (c.out ++ d)
  front = let f = fits in rw (length-append c.out d) (omega (arith, f))

  -- b are the bytes after its samples were written
  written : (bytes b : List ℕ) → 4 * length z ≤ length bytes
      → b ≡ over (4 * length (take c.answer.delivered (c.out ++ d))) (λ i x. written_at (take c.answer.delivered (c.out ++ d)) i) bytes
      → record { answer = c.answer; shadow = c.shadow; output = c.output; spectra = c.spectra; powers = c.powers; bytes = b } ≡ written_by k bytes
  written bytes b room h =
      let n = c.answer.delivered in
      let f = fits in
      let s : take n (c.out ++ d) ≡ delivered_by c = take-append-le n c.out d f in
      let l : length (delivered_by c) ≡ n = length-take-le n c.out f in
      let w : b ≡ bytes_of (delivered_by c) ++ drop (4 * length (delivered_by c)) bytes =
      h
      ∙ ap (λ (x : List Float). over (4 * length x) (λ i y. written_at x i) bytes) s
      ∙ written-front (delivered_by c) bytes (omega (arith, l, f, room, long)) in
      (λ i. record { answer = c.answer; shadow = c.shadow; output = c.output; spectra = c.spectra; powers = c.powers; bytes = w i }) ∙ ap (λ (x : Called). written_by x bytes) e

-- ---- the calls

pub process-front : (c : Called) (e : Engine) (near far z d : List Float) → c ≡ process_of e near far z → length c.out ≡ length z → c.answer.delivered ≤ length (c.out ++ d)
process-front c e near far z d h l = front c (process_of e near far z) z d h (process-fits e near far z) l

pub flush-front : (c : Called) (e : Engine) (z d : List Float) → c ≡ flush_of e z → length c.out ≡ length z → c.answer.delivered ≤ length (c.out ++ d)
flush-front c e z d h l = front c (flush_of e z) z d h (flush-fits e z) l

pub flush-written : (c : Called) (e : Engine) (z d : List Float) (bytes b : List ℕ) → c ≡ flush_of e z → length c.out ≡ length z → z ≡ room_of bytes
    → b ≡ over (4 * length (take c.answer.delivered (c.out ++ d))) (λ i x. written_at (take c.answer.delivered (c.out ++ d)) i) bytes
    → record { answer = c.answer; shadow = c.shadow; output = c.output; spectra = c.spectra; powers = c.powers; bytes = b } ≡ finished_of e bytes
unfolding finished_of
flush-written c e z d bytes b h l r w =
    let m : length z ≡ min (length bytes / 4) 4096 = ap length r ∙ length-replicate (min (length bytes / 4) 4096) zero32 in
    written c (flush_of e z) z d h (flush-fits e z) l bytes b (omega (arith, m)) w ∙ ap (λ (x : List Float). written_by (flush_of e x) bytes) r

pub process-written : (c : Called) (e : Engine) (near far z d : List Float) (s held bytes b : List ℕ) → c ≡ process_of e near far z → length c.out ≡ length z
    → near ≡ near_in s → far ≡ far_in s → s ≡ take 32768 held → z ≡ room_of bytes
    → b ≡ over (4 * length (take c.answer.delivered (c.out ++ d))) (λ i x. written_at (take c.answer.delivered (c.out ++ d)) i) bytes
    → record { answer = c.answer; shadow = c.shadow; output = c.output; spectra = c.spectra; powers = c.powers; bytes = b } ≡ fed_of e held bytes
unfolding fed_of
process-written c e near far z d s held bytes b h l n f t r w =
    let m : length z ≡ min (length bytes / 4) 4096 = ap length r ∙ length-replicate (min (length bytes / 4) 4096) zero32 in
    let nears : near ≡ near_in (take 32768 held) = n ∙ ap near_in t in
    let fars : far ≡ far_in (take 32768 held) = f ∙ ap far_in t in
    let same : process_of e near far z ≡ process_of e (near_in (take 32768 held)) (far_in (take 32768 held)) (room_of bytes) = rw (nears, fars, r) refl in
    written c (process_of e near far z) z d h (process-fits e near far z) l bytes b (omega (arith, m)) w ∙ ap (λ (x : Called). written_by x bytes) same

-- ---- so the bytes of what was delivered lie in the buffer for bytes

module _ (f k : Fed) (z : List Float) (bytes : List ℕ) (e : f ≡ k) (long : length f.bytes ≡ length bytes) (room : z ≡ room_of bytes) where
  sends : k.answer.delivered ≤ length z → 4 * f.answer.delivered ≤ length f.bytes
  sends h =
      let d = ap (λ (x : Fed). x.answer.delivered) e in
      let l = ap length room ∙ length-replicate (min (length bytes / 4) 4096) zero32 in
      omega (arith, h, d, l, long)

pub fed-sends : (f : Fed) (e : Engine) (held bytes : List ℕ) → f ≡ fed_of e held bytes → length f.bytes ≡ length bytes → 4 * f.answer.delivered ≤ length f.bytes
unfolding fed_of
fed-sends f e held bytes h l =
    sends f (fed_of e held bytes) (room_of bytes) bytes h l refl (process-fits e (near_in (take 32768 held)) (far_in (take 32768 held)) (room_of bytes))

pub finished-sends : (f : Fed) (e : Engine) (bytes : List ℕ) → f ≡ finished_of e bytes → length f.bytes ≡ length bytes → 4 * f.answer.delivered ≤ length f.bytes
unfolding finished_of
finished-sends f e bytes h l = sends f (finished_of e bytes) (room_of bytes) bytes h l refl (flush-fits e (room_of bytes))
