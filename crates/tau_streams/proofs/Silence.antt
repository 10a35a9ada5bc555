-- While the far end makes no sound, near is delivered as it is, bit for bit: -0.0 as -0.0, and what is not finite as 0.0. Assumes nothing.
--     begins-hushed        creation and reset, accepted, leave an engine that has heard no far sound, and nothing waits
--     pairs-passed         pairs with still far samples: what is delivered, and then what waits, is what waited, and then near
--     flush-passed         a flush delivers exactly what waits, and nothing waits after it
--     process-passed, flush-call-passed, calls-passed     the same of an accepted process, of an accepted flush, and of a row of both
--     singer-stream, singer-calls, singer     so from creation or reset on all delivered samples, and then what waits, is near, however the
--                          stream is cut and flushed; after a last flush the delivered samples are near
--     three-samples        as of near 1.0, -0.0, NaN with far 0.0 three times
--     refused-aside, singer-among     refused calls among them change nothing
--     passage              pairs of which the first have still far samples: every whole block of these is delivered as near, whatever the
--                          pairs behind them are
--     singer-first         the same with flushes among the calls before the first far sound, and any calls whatever behind it
--     singer-places, singer-flushed, first-places     these with refused calls of any kind among the others, and place by place
use mathlib.Core.Path.{◌≡◌, refl, sym, ap, ◌∙◌, subst}
use mathlib.Core.Bool.{Bool, true, false}
use mathlib.Core.List.{List, [], ◌∷◌, ◌++◌, append_assoc, append-nil, map-append}
use Prim.Native.Nat.{ℕ, ◌+◌, ◌-◌, ◌%◌, ◌≤◌, ◌<◌}
use native.Mathlib.Omega.{arith}
use native.Mathlib.Numerals.{add-one}
use borrow.Author.Tests.{eqb-true, eqb-false}
use lib.Dec.{eqb}
use lib.Ieee.{Float, nan, binary32, fits, of_bits}
use lib.ListN.{length, get_or, set, take, drop, replicate, length-set, length-append, length-map, length-replicate, take-append-drop}
use lib.Seq.{take_all, take_at, take-length, take-append_seam, take-suc-set, take-append-le, take-append-add, length-take-le}
use Rattle.laws.specs.Choice.{pick, pick-if}
use Rattle.laws.specs.Kinds.{All, Kept, all_none, all_cons, all_append, all_replicate}
use Rattle.numbers.specs.Finite.{is_finite, finite_or_zero}
use Rattle.numbers.specs.Zeros.{Zero, Finite, Fits, Still}
use Rattle.numbers.proofs.Zeros.{plus-zero, zero-finite, zero-of-eq}
use Rattle.numbers.proofs.Clean.{clean-finite, clean-fits}
use Rattle.tau_state.specs.Constants.{zero32}
use Rattle.tau_state.specs.Report.{report_of}
use Rattle.tau_state.specs.declared.state.TauCanceller.{TauCanceller}
use Rattle.tau_block.specs.Block.{Block}
use Rattle.tau_block_laws.specs.Silence.{Near, Silent}
use Rattle.tau_block_laws.proofs.Ran.{ran-handed}
use Rattle.tau_block_laws.proofs.Silence.{zero32-is, cleared-silent, block-passed}
use Rattle.tau_fresh.specs.Fresh.{fresh_mic, fresh_of}
use Rattle.tau_frame.specs.Pairs.{Engine, Run, waits_of, carrying, emptied, block_of, fill_of, pair_of, pairs_of, padded, flushed_of, delivers_of}
use Rattle.tau.specs.Calls.{begun_of, process_of, flush_of}
use Rattle.streams.specs.Parts.{Part}
use Rattle.streams.proofs.Sounds.{minus, still-zero}
use Rattle.streams.proofs.Places.{alike_at}
use Rattle.tau_streams.specs.Stream.{begun_by, ran_by, clean_of, joined, Call, feed, flush, reset}
use Rattle.tau_streams.specs.Silence.{held_near, held_far, Hushed, Begins, created, renewed, Passes, Emptied, made_by, refusal_by, calls_of, AllTaken, taken_of, filled_by, given_of, Gentle}
use Rattle.tau_fresh.proofs.Accepted.{accepted-state, accepted-settings, accepted-pairs}
use Rattle.tau.proofs.Accepted.{create-answers, create-began, reset-answers, reset-began, reset-refused, process-answers, process-refused, flush-answers, flush-ran, flush-refused}
use Rattle.tau_streams.proofs.Counts.{block-delivers, delivers}
use Rattle.tau_streams.proofs.Cut.{joined-first, cut, served-ran, call-ran}

-- ---- small things

pad-zero : Zero zero32
pad-zero = plus-zero (record { is = zero32-is })

pad-fits : Fits zero32
unfolding of_bits fits
pad-fits = record { fit = tt }

-- what is read of an f32 is an f32
read_fits : {x : Float} → Fits x → Fits (finite_or_zero x)
read_fits {x} h = record { fit = clean-fits binary32 x h.fit }

-- no place of a list
none_of : {P : Float → Type 0} {n : ℕ} (l : List Float) → n ≡ 0 → All P (take n l)
none_of {P} l z = subst (λ (k : ℕ). All P (take k l)) (sym z) all_none

-- silence is not in the carry
carry-silent : {s : TauCanceller} {sh ou xs : List Float} (ns fs : List Float) (c : ℕ) → Silent s sh ou xs → Silent (carrying s ns fs c) sh ou xs
carry-silent ns fs c h =
    record {
      ring = h.ring;
      still = h.still;
      peak = h.peak;
      window = h.window;
      shadow = h.shadow;
      output = h.output;
      spectra = h.spectra;
    }

-- ---- creation and reset

begun-hushed : (parts : ℕ) (flag : Bool) (transfers resets : ℕ) → 1 ≤ parts → Hushed (begun_by (begun_of parts flag transfers resets))
unfolding fresh_of fresh_mic
begun-hushed parts flag transfers resets h =
    record {
      silent = cleared-silent (fresh_of parts flag transfers resets) (omega arith) refl refl refl;
      room = omega arith;
      nears = length-replicate 256 zero32;
      fars = length-replicate 256 zero32;
      fit = all_none;
      finite = all_none;
      still = all_none;
    }

begun-empty : (parts : ℕ) (flag : Bool) (transfers resets : ℕ) → (begun_of parts flag transfers resets).answer.state.carried ≡ 0
unfolding fresh_of
begun-empty parts flag transfers resets = refl

-- Creation and reset, accepted, leave an engine that has heard no far sound, and nothing waits.
pub begins-hushed : (e : Engine) → Begins e → Hushed e × (e.state.carried ≡ 0)
begins-hushed e (created parts flag sh ou xs ps h q) =
    let z = sym (create-answers parts flag sh ou xs ps) ∙ h in
    let a = accepted-settings parts (length sh) (length ou) (length xs) (length ps) z in
    rw (q, create-began parts flag sh ou xs ps z) (begun-hushed parts flag 0 0 a.some, begun-empty parts flag 0 0)
begins-hushed e (renewed d h q) =
    let s = d.state in
    let z = sym (reset-answers d) ∙ h in
    let a = (accepted-state s (length d.shadow) (length d.output) (length d.spectra) (length d.powers) z).ranged in
    let t = s.mic.transfers in
    let r = s.mic.divergence_resets in
    rw (q, reset-began d z) (begun-hushed s.partitions s.suppress t r a.some, begun-empty s.partitions s.suppress t r)

-- ---- a block

module _ (e : Engine) (near far : List Float) (n : ℕ) (adapt : Bool) (S : Silent e.state e.shadow e.output e.spectra)
    (a : length e.state.near_carry ≡ 256) (b : length e.state.far_carry ≡ 256) (N : Near near) (F : Kept Zero 256 far) (l : n ≤ 256) where
  abbrev samples : Block
  samples = record { near = near; valid = n; adapt = adapt }

  block-empty : (block_of e near far n adapt).engine.state.carried ≡ 0
  unfolding block_of
  block-empty = (ran-handed (emptied e) far samples).carried

  block-hushed : Hushed (block_of e near far n adapt).engine
  unfolding block_of
  block-hushed =
      let B = block-passed (emptied e) far samples (carry-silent _ _ 0 S) N F l in
      let k = ran-handed (emptied e) far samples in
      record {
        silent = B.silent;
        room = omega (arith, k.carried);
        nears = ap length k.near ∙ a;
        fars = ap length k.far ∙ b;
        fit = none_of _ k.carried;
        finite = none_of _ k.carried;
        still = none_of _ k.carried;
      }

  block-samples : (block_of e near far n adapt).samples ≡ take n near
  unfolding block_of
  block-samples = (block-passed (emptied e) far samples (carry-silent _ _ 0 S) N F l).block

-- ---- one pair

module _ {e : Engine} {x y : Float} (H : Hushed e) (F : Fits x) (S : Still y) where
  -- what waits, with the pair
  near-more : take (e.state.carried + 1) (fill_of e x y).state.near_carry ≡ held_near e ++ (finite_or_zero x ∷ [])
  near-more =
      let l = e.state.near_carry in
      let n = e.state.carried in
      ap (λ (k : ℕ). take k (set l n (finite_or_zero x))) (add-one n) ∙ take-suc-set l n (finite_or_zero x) (omega (arith, H.nears, H.room))

  far-more : take (e.state.carried + 1) (fill_of e x y).state.far_carry ≡ held_far e ++ (finite_or_zero y ∷ [])
  far-more =
      let l = e.state.far_carry in
      let n = e.state.carried in
      ap (λ (k : ℕ). take k (set l n (finite_or_zero y))) (add-one n) ∙ take-suc-set l n (finite_or_zero y) (omega (arith, H.fars, H.room))

  fit-more : All Fits (take (e.state.carried + 1) (fill_of e x y).state.near_carry)
  fit-more = subst (All Fits) (sym near-more) (all_append H.fit (all_cons (read_fits F) all_none))

  finite-more : All Finite (take (e.state.carried + 1) (fill_of e x y).state.near_carry)
  finite-more = subst (All Finite) (sym near-more) (all_append H.finite (all_cons (clean-finite x) all_none))

  still-more : All Zero (take (e.state.carried + 1) (fill_of e x y).state.far_carry)
  still-more = subst (All Zero) (sym far-more) (all_append H.still (all_cons (zero-of-eq (finite_or_zero y) S.still) all_none))

  near-long : length (fill_of e x y).state.near_carry ≡ 256
  near-long = length-set e.state.near_carry _ _ ∙ H.nears

  far-long : length (fill_of e x y).state.far_carry ≡ 256
  far-long = length-set e.state.far_carry _ _ ∙ H.fars

  -- It waits,
  fill-passes : (e.state.carried ≡ 255 → ⊥) → Passes e (finite_or_zero x ∷ []) (waits_of (fill_of e x y))
  fill-passes d =
      record {
        hushed = record {
          silent = carry-silent _ _ _ H.silent;
          room = omega (arith, H.room, d);
          nears = near-long;
          fars = far-long;
          fit = fit-more;
          finite = finite-more;
          still = still-more;
        };
        passed = near-more;
      }

  -- or fills its block, which passes.
  full-passes : e.state.carried ≡ 255
      → Passes e (finite_or_zero x ∷ []) (block_of (fill_of e x y) (fill_of e x y).state.near_carry (fill_of e x y).state.far_carry 256 true)
  full-passes d =
      let f = fill_of e x y in
      let ns = f.state.near_carry in
      let fs = f.state.far_carry in
      let k : e.state.carried + 1 ≡ 256 = omega arith in
      let tn : take (e.state.carried + 1) ns ≡ ns = take_all (e.state.carried + 1) ns (omega (arith, near-long)) in
      let tf : take (e.state.carried + 1) fs ≡ fs = take_all (e.state.carried + 1) fs (omega (arith, far-long)) in
      let N : Near ns = record { long = near-long; fit = subst (All Fits) tn fit-more; finite = subst (All Finite) tn finite-more } in
      let Z : Kept Zero 256 fs = record { long = far-long; all = subst (All Zero) tf still-more } in
      let S : Silent f.state f.shadow f.output f.spectra = carry-silent _ _ _ H.silent in
      let r = block_of f ns fs 256 true in
      record {
        hushed = block-hushed f ns fs 256 true S near-long far-long N Z (omega arith);
        passed =
            ap (λ (n : ℕ). r.samples ++ take n r.engine.state.near_carry) (block-empty f ns fs 256 true S near-long far-long N Z (omega arith))
            ∙ append-nil r.samples
            ∙ block-samples f ns fs 256 true S near-long far-long N Z (omega arith)
            ∙ ap (λ (n : ℕ). take n ns) (sym k)
            ∙ near-more;
      }

  pair-passes : Passes e (finite_or_zero x ∷ []) (pair_of e x y)
  unfolding pair_of
  pair-passes =
      pick-if (Passes e (finite_or_zero x ∷ [])) (eqb e.state.carried 255) (λ t. full-passes (eqb-true e.state.carried 255 t))
      (λ t. fill-passes (eqb-false e.state.carried 255 t))

-- ---- streams

-- two runs one after the other
joined-passes : {e : Engine} {l m : List Float} {p q : Run} → Passes e l p → Passes p.engine m q → Passes e (l ++ m) (joined p q)
joined-passes {e} {l} {m} {p} {q} a b =
    record {
      hushed = b.hushed;
      passed =
          append_assoc p.samples q.samples (held_near q.engine)
          ∙ ap (λ (k : List Float). p.samples ++ k) b.passed
          ∙ sym (append_assoc p.samples (held_near p.engine) m)
          ∙ ap (λ (k : List Float). k ++ m) a.passed
          ∙ append_assoc (held_near e) l m;
    }

-- no pairs
waits-passes : {e : Engine} → Hushed e → Passes e [] (waits_of e)
waits-passes {e} h = record { hushed = h; passed = sym (append-nil (held_near e)) }

-- Pairs with still far samples: what is delivered, and then what waits, is what waited, and then near, and no sound has been heard.
pub pairs-passed : (e : Engine) (near far : List Float) → length near ≡ length far → Hushed e → All Fits near → All Still far
    → Passes e (clean_of near) (pairs_of e near far)
unfolding pairs_of
pairs-passed e [] far l h n f = waits-passes h
pairs-passed e (x ∷ near) [] l h n f = absurd (omega arith)
pairs-passed e (x ∷ near) (y ∷ far) l h n f =
    let p = pair-passes h n.each.0 f.each.0 in
    joined-passes p (pairs-passed (pair_of e x y).engine near far (omega arith) p.hushed (record { each = n.each.1 }) (record { each = f.each.1 }))

-- ---- flush

-- what waits, padded
padded-near : {e : Engine} → Hushed e → Near (padded e.state.near_carry e.state.carried)
padded-near {e} h =
    let n = e.state.carried in
    let l = length-take-le n e.state.near_carry (omega (arith, h.nears, h.room)) in
    record {
      long = omega (arith, length-append (held_near e) (replicate (256 - n) zero32), l, length-replicate (256 - n) zero32, h.room);
      fit = all_append h.fit (all_replicate (256 - n) zero32 pad-fits);
      finite = all_append h.finite (all_replicate (256 - n) zero32 (zero-finite pad-zero));
    }

padded-far : {e : Engine} → Hushed e → Kept Zero 256 (padded e.state.far_carry e.state.carried)
padded-far {e} h =
    let n = e.state.carried in
    let l = length-take-le n e.state.far_carry (omega (arith, h.fars, h.room)) in
    record {
      long = omega (arith, length-append (held_far e) (replicate (256 - n) zero32), l, length-replicate (256 - n) zero32, h.room);
      all = all_append h.still (all_replicate (256 - n) zero32 pad-zero);
    }

-- A flush delivers exactly the near samples that wait, and nothing waits after it.
pub flush-passed : (e : Engine) → Hushed e → Emptied e (flushed_of e)
unfolding flushed_of
flush-passed e h =
    let n = e.state.carried in
    let ns = padded e.state.near_carry n in
    let fs = padded e.state.far_carry n in
    let k : n ≤ 256 = omega (arith, h.room) in
    let l : length (held_near e) ≡ n = length-take-le n e.state.near_carry (omega (arith, h.nears, h.room)) in
    pick-if (Emptied e) (eqb n 0)
    (λ t. let z = eqb-true n 0 t in record { hushed = h; empty = z; samples = ap (λ (i : ℕ). take i e.state.near_carry) (sym z) })
    (λ t.
    record {
      hushed = block-hushed e ns fs n false h.silent h.nears h.fars (padded-near h) (padded-far h) k;
      empty = block-empty e ns fs n false h.silent h.nears h.fars (padded-near h) (padded-far h) k;
      samples =
          block-samples e ns fs n false h.silent h.nears h.fars (padded-near h) (padded-far h) k
          ∙ take_at (held_near e) (replicate (256 - n) zero32) n l;
    })

-- ---- calls

-- An accepted process of still far samples passes near,
pub process-passed : (e : Engine) (near far out : List Float) → (process_of e near far out).answer.refusal ≡ 0 → Hushed e → All Fits near → All Still far
    → Passes e (clean_of near) (ran_by (process_of e near far out))
process-passed e near far out a h n f =
    let z = sym (process-answers e near far out) ∙ a in
    let l = (accepted-pairs e.state (length e.shadow) (length e.output) (length e.spectra) (length e.powers) _ _ _ z).pairs.level in
    subst (Passes e (clean_of near)) (sym (call-ran e near far out z)) (pairs-passed e near far l h n f)

-- and an accepted flush what waits.
pub flush-call-passed : (e : Engine) (out : List Float) → (flush_of e out).answer.refusal ≡ 0 → Hushed e → Emptied e (ran_by (flush_of e out))
flush-call-passed e out a h =
    let z = sym (flush-answers e out) ∙ a in
    subst (Emptied e) (sym (ap ran_by (flush-ran e out z) ∙ served-ran (flushed_of e) out)) (flush-passed e h)

-- nothing waits where nothing is carried
held_none : (e : Engine) → e.state.carried ≡ 0 → held_near e ≡ []
held_none e z = ap (λ (n : ℕ). take n e.state.near_carry) z

emptied-passes : {e : Engine} {r : Run} → Emptied e r → Passes e [] r
emptied-passes {e} {r} h =
    record { hushed = h.hushed; passed = rw (held_none r.engine h.empty, append-nil r.samples, append-nil (held_near e)) h.samples }

-- A row of accepted calls with still far samples, process and flush in any order: all delivered samples, and then what waits, is what
-- waited at first, and then near.
pub calls-passed : (e : Engine) (cs : List Call) → AllTaken e cs → Hushed e → All Gentle cs → Passes e (clean_of (given_of cs)) (calls_of e cs).run
unfolding calls_of given_of made_by refusal_by
calls-passed e [] a h g = waits-passes h
calls-passed e (feed p ∷ cs) a h g =
    let k = process-passed e p.near p.far p.out a.each.0 h g.each.0.gentle.0 g.each.0.gentle.1 in
    let r = calls-passed (made_by e (feed p)).engine cs (record { each = a.each.1 }) k.hushed (record { each = g.each.1 }) in
    subst (λ (l : List Float). Passes e l (calls_of e (feed p ∷ cs)).run) (sym (map-append finite_or_zero p.near (given_of cs))) (joined-passes k r)
calls-passed e (flush out ∷ cs) a h g =
    let k = emptied-passes (flush-call-passed e out a.each.0 h) in
    joined-passes k (calls-passed (made_by e (flush out)).engine cs (record { each = a.each.1 }) k.hushed (record { each = g.each.1 }))
calls-passed e (reset ∷ cs) a h g = absurd g.each.0.gentle

-- ---- from creation or reset

-- After any accepted process and flush calls with still far samples, all delivered samples, and then what waits, is near.
pub singer-calls : (e : Engine) (cs : List Call) → Begins e → AllTaken e cs → All Gentle cs
    → (calls_of e cs).run.samples ++ held_near (calls_of e cs).run.engine ≡ clean_of (given_of cs)
singer-calls e cs b a g =
    let h = begins-hushed e b in
    (calls-passed e cs a h.0 g).passed ∙ ap (λ (l : List Float). l ++ clean_of (given_of cs)) (held_none e h.1)

-- calls, and calls behind them
calls-samples : (e : Engine) (cs ds : List Call)
    → (calls_of e (cs ++ ds)).run.samples ≡ (calls_of e cs).run.samples ++ (calls_of (calls_of e cs).run.engine ds).run.samples
unfolding calls_of
calls-samples e [] ds = refl
calls-samples e (c ∷ cs) ds =
    let r = made_by e c in
    let rest = (calls_of r.engine cs).run in
    ap (λ (l : List Float). r.samples ++ l) (calls-samples r.engine cs ds)
    ∙ sym (append_assoc r.samples rest.samples (calls_of rest.engine ds).run.samples)

calls-taken : (e : Engine) (cs ds : List Call) → AllTaken e (cs ++ ds) → AllTaken e cs × AllTaken (calls_of e cs).run.engine ds
unfolding calls_of
calls-taken e [] ds a = (all_none, a)
calls-taken e (c ∷ cs) ds a =
    let t = calls-taken (made_by e c).engine cs ds (record { each = a.each.1 }) in
    (all_cons a.each.0 t.0, t.1)

-- In a stream of pairs, and a flush behind it: the delivered samples are near.
pub singer-stream : (e : Engine) (near far : List Float) → Begins e → length near ≡ length far → All Fits near → All Still far
    → (pairs_of e near far).samples ++ (flushed_of (pairs_of e near far).engine).samples ≡ clean_of near
singer-stream e near far b l n f =
    let h = begins-hushed e b in
    let p = pairs-passed e near far l h.0 n f in
    ap (λ (m : List Float). (pairs_of e near far).samples ++ m) (flush-passed (pairs_of e near far).engine p.hushed).samples
    ∙ p.passed
    ∙ ap (λ (m : List Float). m ++ clean_of near) (held_none e h.1)

-- So after a flush at the end of them, accepted, the delivered stream is near.
pub singer : (e : Engine) (cs : List Call) (out : List Float) → Begins e → AllTaken e (cs ++ (flush out ∷ [])) → All Gentle cs
    → (calls_of e (cs ++ (flush out ∷ []))).run.samples ≡ clean_of (given_of cs)
unfolding calls_of made_by refusal_by
singer e cs out b a g =
    let t = calls-taken e cs (flush out ∷ []) a in
    let r = (calls_of e cs).run in
    let p = calls-passed e cs t.0 (begins-hushed e b).0 g in
    let f = flush-call-passed r.engine out t.1.each.0 p.hushed in
    calls-samples e cs (flush out ∷ [])
    ∙ ap (λ (l : List Float). r.samples ++ l) (append-nil (ran_by (flush_of r.engine out)).samples ∙ f.samples)
    ∙ singer-calls e cs b t.0 g

-- As of three pairs, near 1.0, -0.0, NaN and far 0.0 each, and a flush: 1.0, -0.0, 0.0.
abbrev pub one32 : Float
one32 = of_bits binary32 0x3f80_0000

three-fit : All Fits (one32 ∷ minus ∷ nan ∷ [])
unfolding of_bits fits
three-fit = all_cons (record { fit = tt }) (all_cons (record { fit = tt }) (all_cons (record { fit = tt }) all_none))

three-read : clean_of (one32 ∷ minus ∷ nan ∷ []) ≡ one32 ∷ minus ∷ zero32 ∷ []
unfolding of_bits finite_or_zero is_finite pick
three-read = refl

pub three-samples : (e : Engine) (p : Part) (out : List Float) → Begins e → p.near ≡ one32 ∷ minus ∷ nan ∷ [] → p.far ≡ zero32 ∷ zero32 ∷ zero32 ∷ []
    → AllTaken e (feed p ∷ flush out ∷ []) → (calls_of e (feed p ∷ flush out ∷ [])).run.samples ≡ one32 ∷ minus ∷ zero32 ∷ []
unfolding given_of
three-samples e p out b n f a =
    let x : All Fits p.near = rw n three-fit in
    let y : All Still p.far = rw f (let q = subst Still (sym zero32-is) still-zero in all_cons q (all_cons q (all_cons q all_none))) in
    singer e (feed p ∷ []) out b a (all_cons (record { gentle = (x, y) }) all_none) ∙ ap clean_of (append-nil p.near ∙ n) ∙ three-read

-- ---- refused calls

-- a refused call delivers nothing and leaves the engine as it was
refused-waits : (e : Engine) (c : Call) → (refusal_by e c ≡ 0 → ⊥) → made_by e c ≡ waits_of e
unfolding made_by refusal_by report_of
refused-waits e (feed p) h =
    ap ran_by (process-refused e p.near p.far p.out (λ z. h (process-answers e p.near p.far p.out ∙ z)))
refused-waits e (flush out) h = ap ran_by (flush-refused e out (λ z. h (flush-answers e out ∙ z)))
refused-waits e reset h = ap (λ b. waits_of (begun_by b)) (reset-refused e (λ z. h (reset-answers e ∙ z)))

-- Refused calls might as well not have been made: the accepted ones among any calls are accepted without the others too, and leave and
-- deliver what all of them do.
pub refused-aside : (e : Engine) (cs : List Call) → AllTaken e (taken_of e cs) × ((calls_of e (taken_of e cs)).run ≡ (calls_of e cs).run)
unfolding taken_of calls_of
refused-aside e [] = (all_none, refl)
refused-aside e (c ∷ cs) =
    let r = made_by e c in
    pick-if (λ (l : List Call). AllTaken e l × ((calls_of e l).run ≡ (calls_of e (c ∷ cs)).run)) (eqb (refusal_by e c) 0)
    (λ t. let k = refused-aside r.engine cs in (all_cons (eqb-true (refusal_by e c) 0 t) k.0, ap (joined r) k.1))
    (λ t.
    let k = refused-aside e cs in
    let w = refused-waits e c (eqb-false (refusal_by e c) 0 t) in
    (k.0, k.1 ∙ sym (ap (λ (m : Run). joined m (calls_of m.engine cs).run) w ∙ joined-first e (calls_of e cs).run)))

-- So with refused calls of any kind among the others, it is the near samples of the accepted ones that pass.
pub singer-among : (e : Engine) (cs : List Call) → Begins e → All Gentle (taken_of e cs)
    → (calls_of e cs).run.samples ++ held_near (calls_of e cs).run.engine ≡ clean_of (given_of (taken_of e cs))
singer-among e cs b g =
    let k = refused-aside e cs in
    ap (λ (r : Run). r.samples ++ held_near r.engine) (sym k.1) ∙ singer-calls e (taken_of e cs) b k.0 g

-- ---- whatever follows

-- whole blocks are delivered
pair-whole : (e : Engine) (x y : Float) → length (pair_of e x y).samples % 256 ≡ 0
unfolding pair_of
pair-whole e x y =
    pick-if (λ (r : Run). length r.samples % 256 ≡ 0) (eqb e.state.carried 255)
    (λ _. let k = block-delivers (fill_of e x y) (fill_of e x y).state.near_carry (fill_of e x y).state.far_carry 256 true (omega arith) in omega arith)
    (λ _. refl)

pairs-whole : (e : Engine) (near far : List Float) → length (pairs_of e near far).samples % 256 ≡ 0
unfolding pairs_of
pairs-whole e [] far = refl
pairs-whole e (x ∷ near) [] = refl
pairs-whole e (x ∷ near) (y ∷ far) =
    let t = pair_of e x y in
    let j = length-append t.samples (pairs_of t.engine near far).samples in
    omega (arith, j, pair-whole e x y, pairs-whole t.engine near far)

-- of what waits and near
passed-count : (e : Engine) (a c : List Float) → length a ≡ length c → Hushed e → All Fits a → All Still c
    → length (pairs_of e a c).samples ≡ delivers_of e.state.carried (length a)
passed-count e a c l h n f =
    let p = pairs-passed e a c l h n f in
    let r = pairs_of e a c in
    let q = ap length p.passed in
    let i = length-append r.samples (held_near r.engine) in
    let j = length-append (held_near e) (clean_of a) in
    let u = length-take-le r.engine.state.carried r.engine.state.near_carry (omega (arith, p.hushed.nears, p.hushed.room)) in
    let v = length-take-le e.state.carried e.state.near_carry (omega (arith, h.nears, h.room)) in
    omega (arith, q, i, j, u, v, length-map a finite_or_zero, pairs-whole e a c, p.hushed.room)

passage-split : (e : Engine) (a b c d : List Float) → length a ≡ length c → Hushed e → All Fits a → All Still c
    → take (delivers_of e.state.carried (length a)) (pairs_of e (a ++ b) (c ++ d)).samples
    ≡ take (delivers_of e.state.carried (length a)) (held_near e ++ clean_of (a ++ b))
passage-split e a b c d l h n f =
    let k = delivers_of e.state.carried (length a) in
    let r = pairs_of e a c in
    let more = (pairs_of r.engine b d).samples in
    let p = pairs-passed e a c l h n f in
    let j = passed-count e a c l h n f in
    let w : held_near e ++ clean_of (a ++ b) ≡ r.samples ++ (held_near r.engine ++ clean_of b) =
    ap (λ (m : List Float). held_near e ++ m) (map-append finite_or_zero a b)
    ∙ sym (append_assoc (held_near e) (clean_of a) (clean_of b))
    ∙ ap (λ (m : List Float). m ++ clean_of b) (sym p.passed)
    ∙ append_assoc r.samples (held_near r.engine) (clean_of b) in
    ap (λ (t : Run). take k t.samples) (cut e a b c d l) ∙ take_at r.samples more k j ∙ sym (ap (take k) w ∙ take_at r.samples (held_near r.engine ++ clean_of b) k j)

-- Pairs of which the first n have still far samples, from an engine that has heard no far sound: the blocks that these n fill, with what
-- waited before them, are delivered as near, whatever the pairs behind them are.
pub passage : (e : Engine) (near far : List Float) (n : ℕ) → length near ≡ length far → n ≤ length near → Hushed e → All Fits (take n near) → All Still (take n far)
    → take (delivers_of e.state.carried n) (pairs_of e near far).samples ≡ take (delivers_of e.state.carried n) (held_near e ++ clean_of near)
passage e near far n l k h a c =
    let i : length (take n near) ≡ n = length-take-le n near k in
    let j : length (take n far) ≡ n = length-take-le n far (omega arith) in
    let p = passage-split e (take n near) (drop n near) (take n far) (drop n far) (i ∙ sym j) h a c in
    rw (take-append-drop n near, take-append-drop n far, i) at p

-- So of any accepted process and flush calls with still far samples, and then an accepted process of which the first n far samples are
-- still, whatever calls follow: every block that these pairs fill is delivered as near, and so is what each flush delivers.
pub singer-first : (e : Engine) (cs : List Call) (p : Part) (ds : List Call) (n : ℕ) → Begins e → AllTaken e (cs ++ (feed p ∷ [])) → All Gentle cs
    → n ≤ length p.near → All Fits (take n p.near) → All Still (take n p.far)
    → take (filled_by e cs n) (calls_of e (cs ++ (feed p ∷ ds))).run.samples ≡ take (filled_by e cs n) (clean_of (given_of cs ++ p.near))
unfolding calls_of made_by refusal_by
singer-first e cs p ds n b a g k x y =
    let t = calls-taken e cs (feed p ∷ []) a in
    let r = (calls_of e cs).run in
    let v = r.engine in
    let i = delivers_of v.state.carried n in
    let z = sym (process-answers v p.near p.far p.out) ∙ t.1.each.0 in
    let w = accepted-pairs v.state (length v.shadow) (length v.output) (length v.spectra) (length v.powers) _ _ _ z in
    let q = (pairs_of v p.near p.far).samples in
    let c = ap (λ (m : Run). m.samples) (call-ran v p.near p.far p.out z) in
    let rest = (calls_of (made_by v (feed p)).engine ds).run.samples in
    let o : i ≤ length q = omega (arith, delivers v p.near p.far w.state.ranged w.pairs.level) in
    let h = (calls-passed e cs t.0 (begins-hushed e b).0 g).hushed in
    ap (take (length r.samples + i)) (calls-samples e cs (feed p ∷ ds) ∙ ap (λ (m : List Float). r.samples ++ (m ++ rest)) c)
    ∙ take-append-add r.samples (q ++ rest) i
    ∙ ap (λ (m : List Float). r.samples ++ m) (take-append-le i q rest o ∙ passage v p.near p.far n w.pairs.level k h x y)
    ∙ sym (take-append-add r.samples (held_near v ++ clean_of p.near) i)
    ∙ ap (take (length r.samples + i))
    (sym (append_assoc r.samples (held_near v) (clean_of p.near))
    ∙ ap (λ (m : List Float). m ++ clean_of p.near) (singer-calls e cs b t.0 g)
    ∙ sym (map-append finite_or_zero (given_of cs) p.near))

-- ---- with refused calls of any kind among the others, and place by place

-- calls that are accepted, and then more of them
taken_more : (e : Engine) (cs ds : List Call) → AllTaken e cs → AllTaken (calls_of e cs).run.engine ds → AllTaken e (cs ++ ds)
unfolding calls_of
taken_more e [] ds a b = b
taken_more e (c ∷ cs) ds a b = all_cons a.each.0 (taken_more (made_by e c).engine cs ds (record { each = a.each.1 }) b)

-- refused ones, with any calls behind them
aside-more : (e : Engine) (cs ds : List Call) → (calls_of e (taken_of e cs ++ ds)).run.samples ≡ (calls_of e (cs ++ ds)).run.samples
aside-more e cs ds =
    calls-samples e (taken_of e cs) ds
    ∙ ap (λ (r : Run). r.samples ++ (calls_of r.engine ds).run.samples) (refused-aside e cs).1
    ∙ sym (calls-samples e cs ds)

-- Each sample delivered so far is near's at its place.
pub singer-places : (e : Engine) (cs : List Call) → Begins e → All Gentle (taken_of e cs) → (i : ℕ) → i < length (calls_of e cs).run.samples
    → get_or (calls_of e cs).run.samples i nan ≡ finite_or_zero (get_or (given_of (taken_of e cs)) i nan)
singer-places e cs b g i j =
    let r = (calls_of e cs).run in
    let n = length r.samples in
    let p = take-length r.samples ∙ sym (take-append_seam r.samples (held_near r.engine)) ∙ ap (take n) (singer-among e cs b g) in
    alike_at finite_or_zero n r.samples (given_of (taken_of e cs)) i nan nan p (omega arith) j

-- After a flush, accepted, there is one for each near sample.
pub singer-flushed : (e : Engine) (cs : List Call) (out : List Float) → Begins e → All Gentle (taken_of e cs)
    → (flush_of (calls_of e cs).run.engine out).answer.refusal ≡ 0
    → (calls_of e (cs ++ (flush out ∷ []))).run.samples ≡ clean_of (given_of (taken_of e cs))
unfolding calls_of refusal_by
singer-flushed e cs out b g f =
    let k = refused-aside e cs in
    let t = subst (λ (r : Run). AllTaken r.engine (flush out ∷ [])) (sym k.1) (all_cons f all_none) in
    sym (aside-more e cs (flush out ∷ [])) ∙ singer e (taken_of e cs) out b (taken_more e (taken_of e cs) (flush out ∷ []) k.0 t) g

-- the blocks that are filled by the calls and n pairs of a process behind them are among the delivered
filled-few : (e : Engine) (cs : List Call) (p : Part) (ds : List Call) (n : ℕ) → refusal_by (calls_of e cs).run.engine (feed p) ≡ 0 → n ≤ length p.near
    → filled_by e cs n ≤ length (calls_of e (cs ++ (feed p ∷ ds))).run.samples
unfolding calls_of made_by refusal_by
filled-few e cs p ds n a k =
    let r = (calls_of e cs).run in
    let v = r.engine in
    let z = sym (process-answers v p.near p.far p.out) ∙ a in
    let w = accepted-pairs v.state (length v.shadow) (length v.output) (length v.spectra) (length v.powers) _ _ _ z in
    let q = process_of v p.near p.far p.out in
    let rest = (calls_of (made_by v (feed p)).engine ds).run.samples in
    let c = ap (λ (m : Run). length m.samples) (call-ran v p.near p.far p.out z) in
    let d = delivers v p.near p.far w.state.ranged w.pairs.level in
    let i = length-append (ran_by q).samples rest in
    let j = length-append r.samples ((ran_by q).samples ++ rest) in
    let l = ap length (calls-samples e cs (feed p ∷ ds)) in
    omega (arith, c, d, i, j, l, k)

-- Before the first far sound: cs are the calls before the process p that holds it, at its pair n or later, and ds any calls behind. Each
-- sample of the blocks that are filled before it, and of each flush, is near's at its place.
pub first-places : (e : Engine) (cs : List Call) (p : Part) (ds : List Call) (n : ℕ) → Begins e → All Gentle (taken_of e cs)
    → (process_of (calls_of e cs).run.engine p.near p.far p.out).answer.refusal ≡ 0
    → n ≤ length p.near → All Fits (take n p.near) → All Still (take n p.far) → (i : ℕ) → i < filled_by e cs n
    → get_or (calls_of e (cs ++ (feed p ∷ ds))).run.samples i nan ≡ finite_or_zero (get_or (given_of (taken_of e cs) ++ p.near) i nan)
unfolding calls_of refusal_by
first-places e cs p ds n b g a k x y i j =
    let ts = taken_of e cs in
    let q = refused-aside e cs in
    let t = subst (λ (r : Run). AllTaken r.engine (feed p ∷ [])) (sym q.1) (all_cons a all_none) in
    let s = singer-first e ts p ds n b (taken_more e ts (feed p ∷ []) q.0 t) g k x y in
    let same : filled_by e ts n ≡ filled_by e cs n = ap (λ (r : Run). length r.samples + delivers_of r.engine.state.carried n) q.1 in
    let u = rw (same, aside-more e cs (feed p ∷ ds)) at s in
    alike_at finite_or_zero (filled_by e cs n) (calls_of e (cs ++ (feed p ∷ ds))).run.samples (given_of ts ++ p.near) i nan nan u (filled-few e cs p ds n a k) j
