-- What pairs and a flush keep of an engine, how many samples they deliver, and where a call puts them. Assumes nothing.
--     pair-intact, pairs-intact, flushed-intact     a pair, a run and a flush keep an engine in order
--     created-good, created-empty, reset-good, reset-empty     creation and reset leave an engine in order, and nothing carried
--     state-intact, intact-accepted     an engine with an accepted state is in order, and one in order has an accepted state
--     delivers, carries    N pairs over c carried ones deliver the whole blocks of c + N, and carry the rest
--     flushed-delivers, flushed-empties, flushed-waits     a flush delivers what is carried and carries nothing; with nothing carried it does nothing
--     process-delivers, flush-delivers     an accepted call answers 0 and delivers that many; they are the first places of its output
--                          buffer, and the rest of it is as it was
--     flush-idle           an accepted flush with nothing carried leaves all as it was
use mathlib.Core.Path.{◌≡◌, refl, sym, ap, ◌∙◌, subst}
use mathlib.Core.Bool.{Bool, true, false}
use mathlib.Core.List.{List, [], ◌∷◌}
use Prim.Native.Nat.{ℕ, ◌+◌, ◌*◌, ◌/◌, ◌%◌, ◌≤◌}
use native.Mathlib.Omega.{arith}
use borrow.Author.Tests.{eqb-true, eqb-false, eq-eqb}
use lib.Dec.{eqb}
use lib.Ieee.{Float}
use lib.ListN.{length, drop, length-append, length-drop, length-set, length-replicate}
use lib.Seq.{take_at, drop_at, length-take-le}
use Rattle.laws.specs.Choice.{pick_yes, pick-if}
use Rattle.tau_state.specs.Constants.{zero32, zero64}
use Rattle.tau_state.specs.Ranges.{Ranged}
use Rattle.tau_state.specs.declared.state.TauCanceller.{TauCanceller}
use Rattle.tau_block.specs.Block.{run_block}
use Rattle.tau_block_laws.proofs.Kept.{ranges-kept, lengths-kept, length-block}
use Rattle.tau_fresh.specs.Fresh.{fresh_mic, fresh_of}
use Rattle.tau_frame.specs.Pairs.{Engine, Run, waits_of, carrying, emptied, block_of, fill_of, pair_of, pairs_of, flushed_of, delivers_of}
use Rattle.tau.specs.Calls.{create_refusal, begun_of, create_of, reset_of, refused_of, served_of, process_of, flush_of}
use Rattle.tau_streams.specs.Stream.{Intact, Good, begun_by, with_carry, Delivery}
use Rattle.tau.specs.Calls.{state_number, process_number, flush_number}
use Rattle.tau_fresh.proofs.Accepted.{accepted-state, state-accepted, accepted-pairs, accepted-flush, accepted-settings}
use Rattle.tau.proofs.Accepted.{create-began, reset-began, process-ran, flush-ran}

-- ---- a block

-- a carry of at most 255 pairs keeps it in order
carry-ranged : (s : TauCanceller) (ns fs : List Float) (c : ℕ) → c ≤ 255 → Ranged s → Ranged (carrying s ns fs c)
carry-ranged s ns fs c k h =
    record { some = h.some; most = h.most; inring = h.inring; waiting = k; streak = h.streak; count = h.count }

pub carry-intact : {n f : ℕ} (e : Engine) (ns fs : List Float) (c : ℕ) → c ≤ 255 → length ns ≡ n → length fs ≡ f → Intact n f e → Intact n f (with_carry e ns fs c)
carry-intact e ns fs c k a b h =
    record {
      ranged = carry-ranged e.state ns fs c k h.ranged;
      shadow = h.shadow;
      output = h.output;
      spectra = h.spectra;
      powers = h.powers;
      near = a;
      far = b;
    }

module _ (e : Engine) (near far : List Float) (n : ℕ) (adapt : Bool) where
  -- a block keeps the partitions and hands the carries through,
  pub block-partitions : (block_of e near far n adapt).engine.state.partitions ≡ e.state.partitions
  unfolding block_of run_block
  block-partitions = refl

  block_near : (block_of e near far n adapt).engine.state.near_carry ≡ e.state.near_carry
  unfolding block_of run_block
  block_near = refl

  block-far : (block_of e near far n adapt).engine.state.far_carry ≡ e.state.far_carry
  unfolding block_of run_block
  block-far = refl

  -- leaves nothing carried,
  block-empties : (block_of e near far n adapt).engine.state.carried ≡ 0
  unfolding block_of run_block
  block-empties = refl

  -- and keeps the engine in order.
  block-ranged : Ranged (emptied e).state → Ranged (block_of e near far n adapt).engine.state
  unfolding block_of
  block-ranged h = ranges-kept (emptied e) far (record { near = near; valid = n; adapt = adapt }) h

  pub block-intact : {k l : ℕ} → Intact k l (emptied e) → Intact k l (block_of e near far n adapt).engine
  unfolding block_of
  block-intact h =
      let z = lengths-kept (emptied e) far (record { near = near; valid = n; adapt = adapt }) h.ranged.inring
      (record { shadow = h.shadow; output = h.output; spectra = h.spectra; powers = h.powers }) in
      let p = ap (λ (k : ℕ). 514 * k) (sym block-partitions) in
      record {
        ranged = block-ranged h.ranged;
        shadow = z.shadow ∙ p;
        output = z.output ∙ p;
        spectra = z.spectra ∙ p;
        powers = z.powers ∙ ap (λ (k : ℕ). 257 * k) (sym block-partitions);
        near = ap length block_near ∙ h.near;
        far = ap length block-far ∙ h.far;
      }

  -- It delivers the first n of its 256 samples.
  pub block-delivers : n ≤ 256 → length (block_of e near far n adapt).samples ≡ n
  unfolding block_of
  block-delivers k =
      let d = length-block (emptied e) far (record { near = near; valid = n; adapt = adapt }) in
      length-take-le n _ (omega arith)

-- ---- what is kept

-- the carry after a pair, c pairs in it
pub fill-intact : {n f : ℕ} (e : Engine) (x y : Float) (c : ℕ) → c ≤ 255 → Intact n f e
    → Intact n f (with_carry e (fill_of e x y).state.near_carry (fill_of e x y).state.far_carry c)
fill-intact e x y c k h =
    carry-intact e _ _ c k (length-set e.state.near_carry _ _ ∙ h.near) (length-set e.state.far_carry _ _ ∙ h.far) h

-- A pair keeps an engine in order,
pub pair-intact : {n f : ℕ} (e : Engine) (x y : Float) → Intact n f e → Intact n f (pair_of e x y).engine
unfolding pair_of
pair-intact {n} {f} e x y h =
    pick-if (λ (r : Run). Intact n f r.engine) (eqb e.state.carried 255)
    (λ _. block-intact (fill_of e x y) _ _ 256 true (fill-intact e x y 0 (omega arith) h))
    (λ t. let d = eqb-false e.state.carried 255 t in fill-intact e x y (e.state.carried + 1) (omega (arith, h.ranged.waiting, d)) h)

-- so does a run,
pub pairs-intact : {n f : ℕ} (e : Engine) (near far : List Float) → Intact n f e → Intact n f (pairs_of e near far).engine
unfolding pairs_of
pairs-intact e [] far h = h
pairs-intact e (x ∷ near) [] h = h
pairs-intact e (x ∷ near) (y ∷ far) h = pairs-intact (pair_of e x y).engine near far (pair-intact e x y h)

-- and so does a flush.
pub flushed-intact : {n f : ℕ} (e : Engine) → Intact n f e → Intact n f (flushed_of e).engine
unfolding flushed_of
flushed-intact {n} {f} e h =
    pick-if (λ (r : Run). Intact n f r.engine) (eqb e.state.carried 0) (λ _. h)
    (λ _. block-intact e _ _ e.state.carried false (carry-intact e _ _ 0 (omega arith) h.near h.far h))

-- ---- creation and reset

begun-good : (parts : ℕ) (flag : Bool) (transfers resets : ℕ) → 1 ≤ parts → parts ≤ 32 → Good (begun_by (begun_of parts flag transfers resets))
unfolding fresh_of fresh_mic
begun-good parts flag transfers resets a b =
    record {
      ranged = record { some = a; most = b; inring = omega arith; waiting = omega arith; streak = omega arith; count = omega arith };
      shadow = length-replicate (514 * parts) zero64;
      output = length-replicate (514 * parts) zero64;
      spectra = length-replicate (514 * parts) zero64;
      powers = length-replicate (257 * parts) zero64;
      near = length-replicate 256 zero32;
      far = length-replicate 256 zero32;
    }

begun-empty : (parts : ℕ) (flag : Bool) (transfers resets : ℕ) → (begun_of parts flag transfers resets).answer.state.carried ≡ 0
unfolding fresh_of
begun-empty parts flag transfers resets = refl

-- An accepted creation leaves an engine in order, and nothing carried,
pub created-good : (parts : ℕ) (flag : Bool) (sh ou xs ps : List Float) → create_refusal parts (length sh) (length ou) (length xs) (length ps) ≡ 0
    → Good (begun_by (create_of parts flag sh ou xs ps))
created-good parts flag sh ou xs ps h =
    let a = accepted-settings parts (length sh) (length ou) (length xs) (length ps) h in
    rw (create-began parts flag sh ou xs ps h) (begun-good parts flag 0 0 a.some a.most)

pub created-empty : (parts : ℕ) (flag : Bool) (sh ou xs ps : List Float) → create_refusal parts (length sh) (length ou) (length xs) (length ps) ≡ 0
    → (create_of parts flag sh ou xs ps).answer.state.carried ≡ 0
created-empty parts flag sh ou xs ps h = rw (create-began parts flag sh ou xs ps h) (begun-empty parts flag 0 0)

-- and so does an accepted reset.
pub reset-good : (e : Engine) → state_number e ≡ 0 → Good (begun_by (reset_of e))
reset-good e h =
    let s = e.state in
    let a = (accepted-state s (length e.shadow) (length e.output) (length e.spectra) (length e.powers) h).ranged in
    rw (reset-began e h) (begun-good s.partitions s.suppress s.mic.transfers s.mic.divergence_resets a.some a.most)

pub reset-empty : (e : Engine) → state_number e ≡ 0 → (reset_of e).answer.state.carried ≡ 0
reset-empty e h = let s = e.state in rw (reset-began e h) (begun-empty s.partitions s.suppress s.mic.transfers s.mic.divergence_resets)

-- An engine whose state is accepted is in order, with the carries that it has,
pub state-intact : (e : Engine) → state_number e ≡ 0 → Intact (length e.state.near_carry) (length e.state.far_carry) e
state-intact e h =
    let a = accepted-state e.state (length e.shadow) (length e.output) (length e.spectra) (length e.powers) h in
    record {
      ranged = a.ranged;
      shadow = a.sizes.shadow;
      output = a.sizes.output;
      spectra = a.sizes.spectra;
      powers = a.sizes.powers;
      near = refl;
      far = refl;
    }

-- and one in order is accepted.
pub intact-accepted : {n f : ℕ} (e : Engine) → Intact n f e → state_number e ≡ 0
intact-accepted e h =
    state-accepted e.state (length e.shadow) (length e.output) (length e.spectra) (length e.powers)
    (record { ranged = h.ranged; sizes = record { shadow = h.shadow; output = h.output; spectra = h.spectra; powers = h.powers } })

-- ---- the count of the pairs

-- n pairs counted: each is carried, or among the delivered, of which there are whole blocks
record Counted (e : Engine) (r : Run) (n : ℕ) : Type 0 where
  ranged : Ranged r.engine.state
  sum : length r.samples + r.engine.state.carried ≡ e.state.carried + n
  whole : length r.samples % 256 ≡ 0

pair-counted : (e : Engine) (x y : Float) → Ranged e.state → Counted e (pair_of e x y) 1
unfolding pair_of
pair-counted e x y h =
    pick-if (λ (r : Run). Counted e r 1) (eqb e.state.carried 255)
    (λ t.
    let g = fill_of e x y in
    let k = block-delivers g g.state.near_carry g.state.far_carry 256 true (omega arith) in
    let z = block-empties g g.state.near_carry g.state.far_carry 256 true in
    let q = eqb-true e.state.carried 255 t in
    record {
      ranged = block-ranged g _ _ 256 true (carry-ranged e.state _ _ 0 (omega arith) h);
      sum = omega arith;
      whole = omega arith;
    })
    (λ t.
    let d = eqb-false e.state.carried 255 t in
    record { ranged = carry-ranged e.state _ _ (e.state.carried + 1) (omega (arith, h.waiting, d)) h; sum = omega arith; whole = refl })

pairs-counted : (e : Engine) (near far : List Float) → Ranged e.state → length near ≡ length far → Counted e (pairs_of e near far) (length near)
unfolding pairs_of
pairs-counted e [] far h l = record { ranged = h; sum = omega arith; whole = refl }
pairs-counted e (x ∷ near) [] h l = absurd (omega arith)
pairs-counted e (x ∷ near) (y ∷ far) h l =
    let t = pair_of e x y in
    let a = pair-counted e x y h in
    let b = pairs-counted t.engine near far a.ranged (omega arith) in
    let j = length-append t.samples (pairs_of t.engine near far).samples in
    record { ranged = b.ranged; sum = omega (arith, a.sum, b.sum, j); whole = omega (arith, a.whole, b.whole, j) }

-- N pairs over c carried ones deliver the whole blocks of c + N,
pub delivers : (e : Engine) (near far : List Float) → Ranged e.state → length near ≡ length far
    → length (pairs_of e near far).samples ≡ (e.state.carried + length near) / 256 * 256
delivers e near far h l = let c = pairs-counted e near far h l in omega (arith, c.sum, c.whole, c.ranged.waiting)

-- and carry the rest.
pub carries : (e : Engine) (near far : List Float) → Ranged e.state → length near ≡ length far
    → (pairs_of e near far).engine.state.carried ≡ (e.state.carried + length near) % 256
carries e near far h l = let c = pairs-counted e near far h l in omega (arith, c.sum, c.whole, c.ranged.waiting)

-- A flush delivers what is carried,
pub flushed-delivers : (e : Engine) → Ranged e.state → length (flushed_of e).samples ≡ e.state.carried
unfolding flushed_of
flushed-delivers e h =
    pick-if (λ (r : Run). length r.samples ≡ e.state.carried) (eqb e.state.carried 0)
    (λ t. sym (eqb-true e.state.carried 0 t))
    (λ _. block-delivers e _ _ e.state.carried false (omega (arith, h.waiting)))

-- and leaves nothing carried.
pub flushed-empties : (e : Engine) → (flushed_of e).engine.state.carried ≡ 0
unfolding flushed_of
flushed-empties e =
    pick-if (λ (r : Run). r.engine.state.carried ≡ 0) (eqb e.state.carried 0)
    (λ t. eqb-true e.state.carried 0 t)
    (λ _. block-empties e _ _ e.state.carried false)

-- With nothing carried it delivers nothing and changes nothing, and no block is run.
pub flushed-waits : (e : Engine) → e.state.carried ≡ 0 → flushed_of e ≡ waits_of e
unfolding flushed_of
flushed-waits e h = sym (pick_yes _ _ _ (eq-eqb e.state.carried 0 h) refl)

-- ---- what a call delivers

-- the samples over the front of the output buffer
served-delivery : (r : Run) (n : ℕ) (out : List Float) → length r.samples ≡ n → n ≤ length out → Delivery r n out (served_of r out)
served-delivery r n out d room =
    let s = r.samples in
    record {
      accepted = refl;
      count = d;
      long = omega (arith, length-append s (drop (length s) out), length-drop (length s) out, d, room);
      samples = take_at s (drop (length s) out) n d;
      rest = drop_at s (drop (length s) out) n d ∙ ap (λ (k : ℕ). drop k out) d;
    }

-- An accepted process delivers the whole blocks of what was carried and its own pairs,
pub process-delivers : (e : Engine) (near far out : List Float) → process_number e near far out ≡ 0
    → Delivery (pairs_of e near far) (delivers_of e.state.carried (length near)) out (process_of e near far out)
process-delivers e near far out h =
    let a = accepted-pairs e.state (length e.shadow) (length e.output) (length e.spectra) (length e.powers) (length near) (length far) (length out) h in
    let n = delivers_of e.state.carried (length near) in
    let d = delivers e near far a.state.ranged a.pairs.level in
    subst (Delivery (pairs_of e near far) n out) (sym (process-ran e near far out h)) (served-delivery (pairs_of e near far) n out d a.pairs.room)

-- and an accepted flush what was carried.
pub flush-delivers : (e : Engine) (out : List Float) → flush_number e out ≡ 0 → Delivery (flushed_of e) e.state.carried out (flush_of e out)
flush-delivers e out h =
    let a = accepted-flush e.state (length e.shadow) (length e.output) (length e.spectra) (length e.powers) (length out) h in
    let n = e.state.carried in
    let d = flushed-delivers e a.state.ranged in
    subst (Delivery (flushed_of e) n out) (sym (flush-ran e out h)) (served-delivery (flushed_of e) n out d a.room)

-- With nothing carried an accepted flush delivers nothing and leaves all as it was; its report says that no block ran.
pub flush-idle : (e : Engine) (out : List Float) → flush_number e out ≡ 0 → e.state.carried ≡ 0 → flush_of e out ≡ refused_of 0 e out
flush-idle e out h z = flush-ran e out h ∙ ap (λ (r : Run). served_of r out) (flushed-waits e z)
