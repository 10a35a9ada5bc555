-- A stream by blocks: what the carry holds, and which samples a block is run on. Assumes nothing.
--     block-carry, blocks-carry     what stands in the carry does not matter to a block, nor to blocks in a row: it is handed through
--     whole-block          256 pairs from an empty carry are a block of them
--     rest-waits           fewer run no block, and the carry holds them
--     stream-blocks        so from an empty carry a stream delivers the samples of its whole blocks of 256 pairs, one after the other, and
--                          its last block is theirs
--     blocks_last          of blocks in a row the last block is the last one's
--     rest-flushed         a flush after fewer is a block of them and then 0.0 up to 256, that does not adapt and delivers as many
use mathlib.Core.Path.{◌≡◌, refl, sym, ap, ◌∙◌, subst}
use mathlib.Core.Bool.{Bool, true, false}
use mathlib.Core.List.{List, [], ◌∷◌, ◌++◌, append_assoc, append-nil}
use Prim.Native.Nat.{ℕ, zero, suc, ◌+◌, ◌-◌, ◌*◌, ◌/◌, ◌%◌, ◌≤◌, ◌<◌}
use native.Mathlib.Omega.{arith}
use native.Mathlib.Numerals.{add-one}
use borrow.Author.Tests.{eq-eqb, ne_eqb}
use lib.Ieee.{Float}
use lib.ListN.{length, take, drop, set, replicate, length-drop, length-set, length-map, take-append-drop, drop_of_length-le}
use lib.Seq.{take_at, drop-drop, take-suc-set, drop-set-lt, length-take-le}
use Rattle.laws.specs.Choice.{pick_yes, pick_no}
use Rattle.numbers.specs.Finite.{finite_or_zero}
use Rattle.tau_state.specs.declared.report.Last.{Last}
use Rattle.tau_frame.specs.Pairs.{Engine, Run, waits_of, block_of, fill_of, pair_of, last_of, pairs_of, flushed_of}
use Rattle.tau_block.specs.Block.{run_block}
use Rattle.tau_state.specs.Constants.{zero32}
use Rattle.tau_streams.specs.Stream.{Good, joined, clean_of, with_carry, with_carry_after, block_on, blocks_of, written_to, carry_of, by_blocks}
use Rattle.tau_streams.proofs.Counts.{pairs-intact}
use Rattle.tau_streams.proofs.Cut.{joined-first, joined-last, cut}

-- ---- a list stored over a part of another

-- s from place k of l on
abbrev stored : List Float → ℕ → List Float → List Float
stored l k s = take k l ++ (s ++ drop (k + length s) l)

stored-none : (l : List Float) (k : ℕ) → stored l k [] ≡ l
stored-none l k = let p : k + 0 ≡ k = omega arith in ap (λ (n : ℕ). take k l ++ drop n l) p ∙ take-append-drop k l

stored-set : (l : List Float) (k : ℕ) (a : Float) (s : List Float) → k < length l → stored (set l k a) (k + 1) s ≡ stored l k (a ∷ s)
stored-set l k a s h =
    let p : k + 1 + length s ≡ k + suc (length s) = omega arith in
    ap (λ (u : List Float). u ++ (s ++ drop (k + 1 + length s) (set l k a))) (ap (λ (n : ℕ). take n (set l k a)) (add-one k) ∙ take-suc-set l k a h)
    ∙ append_assoc (take k l) (a ∷ []) (s ++ drop (k + 1 + length s) (set l k a))
    ∙ ap (λ (u : List Float). take k l ++ (a ∷ (s ++ u))) (drop-set-lt (k + 1 + length s) l k a (omega arith) ∙ ap (λ (n : ℕ). drop n l) p)

-- over all of it
stored-all : (l : List Float) (k : ℕ) (s : List Float) → k ≡ 0 → length s ≡ length l → stored l k s ≡ s
stored-all l k s z h =
    ap (λ (n : ℕ). stored l n s) z ∙ ap (λ (u : List Float). s ++ u) (drop_of_length-le l {i = 0 + length s} (omega arith)) ∙ append-nil s

-- ---- the carry, filled by pairs

-- the engine with the pairs stored behind those that it holds
abbrev filled : Engine → List Float → List Float → Engine
filled e near far =
    let s = e.state in
    with_carry e (stored s.near_carry s.carried (clean_of near)) (stored s.far_carry s.carried (clean_of far)) (s.carried + length near)

same : (e : Engine) (ns ms fs gs : List Float) (n m : ℕ) → ns ≡ ms → fs ≡ gs → n ≡ m → with_carry e ns fs n ≡ with_carry e ms gs m
same e ns ms fs gs n m a b c = λ i. with_carry e (a i) (b i) (c i)

-- no pairs, and one more
filled_none : (e : Engine) → e ≡ filled e [] []
filled_none e =
    let s = e.state in
    same e _ _ _ _ s.carried (s.carried + 0) (sym (stored-none s.near_carry s.carried)) (sym (stored-none s.far_carry s.carried)) (omega arith)

-- both carries have 256 places
record Wide (e : Engine) : Type 0 where
  near : length e.state.near_carry ≡ 256
  far : length e.state.far_carry ≡ 256

fill-wide : (e : Engine) (x y : Float) → Wide e → Wide (fill_of e x y)
fill-wide e x y h =
    let s = e.state in
    record { near = length-set s.near_carry _ _ ∙ h.near; far = length-set s.far_carry _ _ ∙ h.far }

filled-step : (e : Engine) (x y : Float) (near far : List Float) → Wide e → e.state.carried ≤ 255 → filled (fill_of e x y) near far ≡ filled e (x ∷ near) (y ∷ far)
filled-step e x y near far h k =
    let s = e.state in
    let p = h.near in
    let q = h.far in
    same e _ _ _ _ (s.carried + 1 + length near) (s.carried + suc (length near))
    (stored-set s.near_carry s.carried (finite_or_zero x) (clean_of near) (omega arith))
    (stored-set s.far_carry s.carried (finite_or_zero y) (clean_of far) (omega arith))
    (omega arith)

-- a pair that does not fill the carry, with those behind it
pair-waits : (e : Engine) (x y : Float) (near far : List Float) → e.state.carried ≤ 254 → pairs_of e (x ∷ near) (y ∷ far) ≡ pairs_of (fill_of e x y) near far
unfolding pairs_of pair_of
pair-waits e x y near far k =
    let w : waits_of (fill_of e x y) ≡ pair_of e x y = pick_no _ _ _ (ne_eqb e.state.carried 255 (λ z. omega arith)) refl in
    ap (λ (r : Run). joined r (pairs_of r.engine near far)) (sym w) ∙ joined-first (fill_of e x y) (pairs_of (fill_of e x y) near far)

-- Pairs that do not fill the carry are stored in it,
fills : (e : Engine) (near far : List Float) → Wide e → length near ≡ length far → e.state.carried + length near ≤ 255
    → pairs_of e near far ≡ waits_of (filled e near far)
unfolding pairs_of
fills e [] [] h l k = ap waits_of (filled_none e)
fills e [] (y ∷ far) h l k = absurd (omega arith)
fills e (x ∷ near) [] h l k = absurd (omega arith)
fills e (x ∷ near) (y ∷ far) h l k =
    pair-waits e x y near far (omega arith)
    ∙ fills (fill_of e x y) near far (fill-wide e x y h) (omega arith) (omega arith)
    ∙ ap waits_of (filled-step e x y near far h (omega arith))

-- a block over the carry
abbrev run_on : Engine → Run
run_on e = block_of e e.state.near_carry e.state.far_carry 256 true

pair_runs : (e : Engine) (x y : Float) → e.state.carried ≡ 255 → pairs_of e (x ∷ []) (y ∷ []) ≡ run_on (fill_of e x y)
unfolding pairs_of pair_of
pair_runs e x y k =
    let w : run_on (fill_of e x y) ≡ pair_of e x y = pick_yes _ _ _ (eq-eqb e.state.carried 255 k) refl in
    joined-last (pair_of e x y) ∙ sym w

-- and pairs that just fill it are stored in it and run.
fills-run : (e : Engine) (near far : List Float) → Wide e → length near ≡ length far → 1 ≤ length near → e.state.carried + length near ≡ 256
    → pairs_of e near far ≡ run_on (filled e near far)
fills-run e [] far h l j k = absurd (omega arith)
fills-run e (x ∷ near) [] h l j k = absurd (omega arith)
fills-run e (x ∷ []) (y ∷ []) h l j k =
    pair_runs e x y (omega arith) ∙ ap run_on (filled_none (fill_of e x y) ∙ filled-step e x y [] [] h (omega arith))
fills-run e (x ∷ []) (y ∷ z ∷ far) h l j k = absurd (omega arith)
fills-run e (x ∷ w ∷ near) (y ∷ []) h l j k = absurd (omega arith)
fills-run e (x ∷ w ∷ near) (y ∷ z ∷ far) h l j k =
    pair-waits e x y (w ∷ near) (z ∷ far) (omega arith)
    ∙ fills-run (fill_of e x y) (w ∷ near) (z ∷ far) (fill-wide e x y h) (omega arith) (omega arith) (omega arith)
    ∙ ap run_on (filled-step e x y (w ∷ near) (z ∷ far) h (omega arith))

-- ---- from an empty carry

good-wide : (e : Engine) → Good e → Wide e
good-wide e g = record { near = g.near; far = g.far }

-- What stands in the carry does not matter to a block: it is handed through.
block-carry : (e : Engine) (ns fs : List Float) (c : ℕ) (near far : List Float) (n : ℕ) (adapt : Bool)
    → block_of (with_carry e ns fs c) near far n adapt ≡ with_carry_after (block_of e near far n adapt) ns fs 0
unfolding block_of run_block
block-carry e ns fs c near far n adapt = refl

-- Nor to blocks in a row.
blocks-carry : (k : ℕ) (e : Engine) (ns fs near far : List Float)
    → blocks_of k (with_carry e ns fs 0) near far ≡ with_carry_after (blocks_of k e near far) ns fs 0
unfolding blocks_of
blocks-carry zero e ns fs near far = refl
blocks-carry (suc k) e ns fs near far =
    let a = take 256 near in
    let c = take 256 far in
    let b = block_on e a c in
    ap (λ (r : Run). joined r (blocks_of k r.engine (drop 256 near) (drop 256 far))) (block-carry e ns fs 0 (clean_of a) (clean_of c) 256 true)
    ∙ ap (joined (with_carry_after b ns fs 0)) (blocks-carry k b.engine ns fs (drop 256 near) (drop 256 far))

-- 256 pairs from an empty carry are a block of them, and the carry holds them after it.
pub whole-block : (e : Engine) (near far : List Float) → Good e → e.state.carried ≡ 0 → length near ≡ 256 → length far ≡ 256
    → pairs_of e near far ≡ with_carry_after (block_on e near far) (clean_of near) (clean_of far) 0
whole-block e near far g z n f =
    let s = e.state in
    fills-run e near far (good-wide e g) (omega arith) (omega arith) (omega arith)
    ∙ ap run_on
    (same e _ _ _ _ (s.carried + length near) 256
    (stored-all s.near_carry s.carried (clean_of near) z (length-map near finite_or_zero ∙ n ∙ sym g.near))
    (stored-all s.far_carry s.carried (clean_of far) z (length-map far finite_or_zero ∙ f ∙ sym g.far))
    (omega arith))
    ∙ block-carry e (clean_of near) (clean_of far) 256 (clean_of near) (clean_of far) 256 true

-- over the front of it
stored-front : (l : List Float) (k : ℕ) (a : List Float) → k ≡ 0 → stored l k (clean_of a) ≡ clean_of a ++ drop (length a) l
stored-front l k a z =
    let p : 0 + length (clean_of a) ≡ length a = omega (arith, length-map a finite_or_zero) in
    ap (λ (n : ℕ). stored l n (clean_of a)) z ∙ ap (λ (n : ℕ). clean_of a ++ drop n l) p

-- Fewer run no block and deliver nothing, and stand at the front of the carry.
pub rest-waits : (e : Engine) (near far : List Float) (m : ℕ) → Good e → e.state.carried ≡ 0 → length near ≡ length far → length near ≡ m → m ≤ 255
    → pairs_of e near far
    ≡ waits_of (with_carry e (clean_of near ++ drop (length near) e.state.near_carry) (clean_of far ++ drop (length far) e.state.far_carry) m)
rest-waits e near far m g z l q k =
    let s = e.state in
    fills e near far (good-wide e g) l (omega arith)
    ∙ ap waits_of
    (same e _ _ _ _ (s.carried + length near) m (stored-front s.near_carry s.carried near z)
    (stored-front s.far_carry s.carried far z) (omega arith))

-- ---- a block more

dropped-next : (k : ℕ) (stream : List Float) → drop (256 * k) (drop 256 stream) ≡ drop (256 * suc k) stream
dropped-next k stream =
    let p : 256 + 256 * k ≡ 256 * suc k = omega arith in
    drop-drop (256 * k) 256 stream ∙ ap (λ (i : ℕ). drop i stream) p

written_next : (k : ℕ) (l stream : List Float) → written_to k (clean_of (take 256 stream)) (drop 256 stream) ≡ written_to (suc k) l stream
unfolding written_to
written_next zero l stream = refl
written_next (suc k) l stream = ap (λ (q : List Float). clean_of (take 256 q)) (dropped-next k stream)

carry-next : (k : ℕ) (l stream : List Float) → carry_of k (clean_of (take 256 stream)) (drop 256 stream) ≡ carry_of (suc k) l stream
carry-next k l stream =
    λ i. let rest = dropped-next k stream i in clean_of rest ++ drop (length rest) (written_next k l stream i)

-- a block that ran is the later
block-later : (l : Last) (e : Engine) (near far : List Float) (n : ℕ) (adapt : Bool) → last_of l (block_of e near far n adapt).last ≡ (block_of e near far n adapt).last
unfolding last_of block_of
block-later l e near far n adapt = refl

blocks-then : (k m : ℕ) (e : Engine) (near far : List Float) → Good e → e.state.carried ≡ 0 → length near ≡ length far
    → length near ≡ 256 * k + m → m ≤ 255
    → pairs_of e near far ≡ with_carry_after (blocks_of k e near far) (carry_of k e.state.near_carry near) (carry_of k e.state.far_carry far) m
unfolding blocks_of written_to
blocks-then zero m e near far g z l q b = rest-waits e near far m g z l (omega arith) b
blocks-then (suc k) m e near far g z l q b =
    let a = take 256 near in
    let c = take 256 far in
    let dn = drop 256 near in
    let df = drop 256 far in
    let n : length a ≡ 256 = length-take-le 256 near (omega arith) in
    let f : length c ≡ 256 = length-take-le 256 far (omega arith) in
    let w = whole-block e a c g z n f in
    let r = block_on e a c in
    let d = with_carry_after r (clean_of a) (clean_of c) 0 in
    let g2 : Good d.engine = subst (λ (q : Run). Good q.engine) w (pairs-intact e a c g) in
    let ln = length-drop 256 near in
    let lf = length-drop 256 far in
    let rest = blocks-then k m d.engine dn df g2 refl (omega arith) (omega arith) b in
    let t = blocks_of k r.engine dn df in
    ap (λ (q : List Float). pairs_of e q far) (sym (take-append-drop 256 near))
    ∙ ap (pairs_of e (a ++ dn)) (sym (take-append-drop 256 far))
    ∙ cut e a dn c df (n ∙ sym f)
    ∙ ap (λ (q : Run). joined q (pairs_of q.engine dn df)) w
    ∙ ap (joined d) rest
    ∙ ap (λ (q : Run). joined d (with_carry_after q (carry_of k (clean_of a) dn) (carry_of k (clean_of c) df) m)) (blocks-carry k r.engine (clean_of a) (clean_of c) dn df)
    ∙ (λ i. with_carry_after (joined r t) (carry-next k e.state.near_carry near i) (carry-next k e.state.far_carry far i) m)

-- So from an empty carry a stream is its whole blocks of 256 pairs, one after the other: these are its samples and its last block, and
-- the rest is left waiting.
pub stream-blocks : (e : Engine) (near far : List Float) → Good e → e.state.carried ≡ 0 → length near ≡ length far → pairs_of e near far ≡ by_blocks e near far
stream-blocks e near far g z l = blocks-then (length near / 256) (length near % 256) e near far g z l (omega arith) (omega arith)

-- Of blocks in a row the last block is the last one's, run on the engine that those before it left.
pub blocks_last : (k : ℕ) (e : Engine) (near far : List Float)
    → (blocks_of (suc k) e near far).last
    ≡ (block_on (blocks_of k e near far).engine (take 256 (drop (256 * k) near)) (take 256 (drop (256 * k) far))).last
unfolding blocks_of last_of
blocks_last zero e near far = refl
blocks_last (suc k) e near far =
    let b = block_on e (take 256 near) (take 256 far) in
    ap (last_of b.last) (blocks_last k b.engine (drop 256 near) (drop 256 far))
    ∙ block-later b.last _ _ _ 256 true
    ∙ (λ i. (block_on (blocks_of k b.engine (drop 256 near) (drop 256 far)).engine (take 256 (dropped-next k near i)) (take 256 (dropped-next k far i))).last)

-- A flush of pairs that wait at the front of a carry is a block of them and then 0.0 up to 256, that does not adapt and delivers as many.
pub rest-flushed : (e : Engine) (near far u v : List Float) (m : ℕ) → length near ≡ m → length far ≡ m → 1 ≤ m
    → let held = with_carry e (clean_of near ++ u) (clean_of far ++ v) m in
    flushed_of held ≡ block_of held (clean_of near ++ replicate (256 - length near) zero32) (clean_of far ++ replicate (256 - length far) zero32) m false
unfolding flushed_of
rest-flushed e near far u v m n f k =
    sym (pick_no _ _ _ (ne_eqb m 0 (λ z. omega arith))
    (rw (
      take_at (clean_of near) u m (length-map near finite_or_zero ∙ n),
      take_at (clean_of far) v m (length-map far finite_or_zero ∙ f),
      n,
      f,
    )))
