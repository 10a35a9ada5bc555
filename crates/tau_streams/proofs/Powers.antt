-- Kept powers through the calls (K10). Assumes nothing.
--     created-true, reset-true     creation and an accepted reset leave true powers
--     call-true, calls-true        every call, accepted or refused, keeps them true, and so does a row of calls
--     blocks-true                  as many blocks as there are partitions leave them true, whatever they were
--     process-own, flush-own       the calls by a rule are, by `run_block`, the calls
--     process-squared, flush-squared     and by the rule that squares the spectra they are the same for an engine with true powers
use mathlib.Core.Path.{◌≡◌, refl, sym, subst, ◌∙◌}
use mathlib.Core.Bool.{Bool, true, false}
use mathlib.Core.List.{List, [], ◌∷◌}
use Prim.Native.Nat.{ℕ, zero, suc, ◌+◌}
use native.Mathlib.Nat.{not-suc-le-zero, zero-add, add-suc, suc-add}
use native.Mathlib.Omega.{arith}
use borrow.Author.Tests.{eqb-true}
use lib.Dec.{eqb}
use lib.Ieee.{Float}
use lib.ListN.{length, take, drop}
use Rattle.laws.specs.Choice.{pick, pick-if}
use Rattle.tau_fresh.specs.Fresh.{fresh_of, empty_of}
use Rattle.tau_fresh.proofs.Accepted.{accepted-pairs, accepted-flush, state-accepted}
use Rattle.tau_spectra.proofs.True.{fresh-true}
use Rattle.tau_block.specs.Block.{Engine, run_block}
use Rattle.tau_block_laws.specs.Powers.{True, squared_block}
use Rattle.tau_block_laws.proofs.Kept.{Sized}
use Rattle.tau_block_laws.proofs.Powers as block
use Rattle.tau_frame.specs.Pairs.{Run, emptied, fill_of, block_of, pair_of, pairs_of, flushed_of}
use Rattle.tau.specs.Calls.{Begun, Called, create_of, reset_of, process_of, flush_of, create_refusal, state_number, process_number, flush_number}
use Rattle.tau.proofs.Accepted.{reset-began}
use Rattle.tau_streams.specs.Stream.{Intact, begun_by, left_by, clean_of, block_on, blocks_of, Call, feed, flush, reset}
use Rattle.tau_streams.specs.Silence.{made_by, calls_of}
use Rattle.tau_streams.specs.Powers.{block_by, pair_by, pairs_by, flushed_by, process_by, flush_by}
use Rattle.tau_streams.proofs.Counts.{carry-intact, fill-intact, block-intact, block-partitions, pair-intact, state-intact}

-- ---- by `run_block` they are the calls

pairs-own : (e : Engine) (near far : List Float) → pairs_by run_block e near far ≡ pairs_of e near far
unfolding pairs_by pairs_of pair_by pair_of block_by block_of
pairs-own e [] far = refl
pairs-own e (x ∷ near) [] = refl
pairs-own e (x ∷ near) (y ∷ far) = rw (pairs-own (pair_of e x y).engine near far)

pub process-own : (e : Engine) (near far out : List Float) → process_by run_block e near far out ≡ process_of e near far out
unfolding process_by process_of
process-own e near far out = rw (pairs-own e near far)

pub flush-own : (e : Engine) (out : List Float) → flush_by run_block e out ≡ flush_of e out
unfolding flush_by flush_of flushed_by flushed_of block_by block_of
flush-own e out = refl

-- ---- a block, a pair, all pairs, a flush

sized : {n f : ℕ} (e : Engine) → Intact n f (emptied e) → Sized e.state.partitions (emptied e)
sized e i = record { shadow = i.shadow; output = i.output; spectra = i.spectra; powers = i.powers }

module _ {n f : ℕ} (e : Engine) (near far : List Float) (valid : ℕ) (adapt : Bool) (i : Intact n f (emptied e)) (t : True e) where
  block-true : True (block_of e near far valid adapt).engine
  unfolding block_of
  block-true = block.block-true (emptied e) far i.ranged.inring (sized e i) t (record { near = near; valid = valid; adapt = adapt })

  block-squared : block_by squared_block e near far valid adapt ≡ block_of e near far valid adapt
  unfolding block_by block_of
  block-squared = rw (block.block-squared (emptied e) far i.ranged.inring (sized e i) t (record { near = near; valid = valid; adapt = adapt }))

pair-true : {n f : ℕ} (e : Engine) (x y : Float) → Intact n f e → True e → True (pair_of e x y).engine
unfolding pair_of
pair-true e x y i t =
    pick-if (λ (r : Run). True r.engine) (eqb e.state.carried 255)
    (λ _. block-true (fill_of e x y) _ _ 256 true (fill-intact e x y 0 (omega arith) i) t) (λ _. t)

pair-squared : {n f : ℕ} (e : Engine) (x y : Float) → Intact n f e → True e → pair_by squared_block e x y ≡ pair_of e x y
unfolding pair_by pair_of
pair-squared e x y i t = rw (block-squared (fill_of e x y) (fill_of e x y).state.near_carry (fill_of e x y).state.far_carry 256 true (fill-intact e x y 0 (omega arith) i) t)

pairs-true : {n f : ℕ} (e : Engine) (near far : List Float) → Intact n f e → True e → True (pairs_of e near far).engine
unfolding pairs_of
pairs-true e [] far i t = t
pairs-true e (x ∷ near) [] i t = t
pairs-true e (x ∷ near) (y ∷ far) i t = pairs-true (pair_of e x y).engine near far (pair-intact e x y i) (pair-true e x y i t)

pairs-squared : {n f : ℕ} (e : Engine) (near far : List Float) → Intact n f e → True e → pairs_by squared_block e near far ≡ pairs_of e near far
unfolding pairs_by pairs_of
pairs-squared e [] far i t = refl
pairs-squared e (x ∷ near) [] i t = refl
pairs-squared e (x ∷ near) (y ∷ far) i t =
    rw (pair-squared e x y i t, pairs-squared (pair_of e x y).engine near far (pair-intact e x y i) (pair-true e x y i t))

flushed-true : {n f : ℕ} (e : Engine) → Intact n f e → True e → True (flushed_of e).engine
unfolding flushed_of
flushed-true e i t =
    pick-if (λ (r : Run). True r.engine) (eqb e.state.carried 0) (λ _. t)
    (λ _. block-true e _ _ e.state.carried false (carry-intact e _ _ 0 (omega arith) i.near i.far i) t)

flushed-squared : {n f : ℕ} (e : Engine) → Intact n f e → True e → flushed_by squared_block e ≡ flushed_of e
unfolding flushed_by flushed_of
flushed-squared e i t = rw (block-squared e _ _ e.state.carried false (carry-intact e _ _ 0 (omega arith) i.near i.far i) t)

-- ---- false powers: gone after as many blocks as there are partitions

-- m blocks on from an engine of whose slots the last k are true
record On (n f : ℕ) (parts k : ℕ) (e : Engine) : Type 0 where
  intact : Intact n f e
  same : e.state.partitions ≡ parts
  younger : block.Younger k e

blocks-on : {n f parts : ℕ} (m k : ℕ) (e : Engine) (near far : List Float) → On n f parts k e → On n f parts (m + k) (blocks_of m e near far).engine
unfolding blocks_of block_of
blocks-on {n} {f} {parts} zero k e near far o = subst (λ (j : ℕ). On n f parts j e) (sym (zero-add k)) o
blocks-on {n} {f} {parts} (suc m) k e near far o =
    let i = o.intact in
    let still : Intact n f (emptied e) = carry-intact e _ _ 0 (omega arith) i.near i.far i in
    let a = clean_of (take 256 near) in
    let c = clean_of (take 256 far) in
    let next : On n f parts (suc k) (block_on e (take 256 near) (take 256 far)).engine = record {
      intact = block-intact e a c 256 true still;
      same = block-partitions e a c 256 true ∙ o.same;
      younger =
          block.block-younger (emptied e) c i.ranged.inring (sized e still) (record { each = o.younger.each }) (record { near = a; valid = 256; adapt = true });
    } in
    subst (λ (j : ℕ). On n f parts j (blocks_of (suc m) e near far).engine) (add-suc m k ∙ sym (suc-add m k))
    (blocks-on m (suc k) (block_on e (take 256 near) (take 256 far)).engine (drop 256 near) (drop 256 far) next)

pub blocks-true : {n f : ℕ} (e : Engine) (near far : List Float) → Intact n f e → True (blocks_of e.state.partitions e near far).engine
blocks-true {n} {f} e near far i =
    let parts = e.state.partitions in
    let o = blocks-on {n = n} {f = f} {parts = parts} parts 0 e near far (record { intact = i; same = refl; younger = block.younger-none e }) in
    let all : parts + 0 ≡ (blocks_of parts e near far).engine.state.partitions = omega (arith, o.same) in
    block.younger-all (blocks_of parts e near far).engine o.intact.ranged.inring
    (subst (λ (j : ℕ). block.Younger j (blocks_of parts e near far).engine) all o.younger)

-- ---- the calls

-- an accepted call is on an engine in order
process-intact : (e : Engine) (near far out : List Float) → process_number e near far out ≡ 0 → state_number e ≡ 0
process-intact e near far out h = state-accepted e.state _ _ _ _ (accepted-pairs e.state _ _ _ _ _ _ _ h).state

flush-intact : (e : Engine) (out : List Float) → flush_number e out ≡ 0 → state_number e ≡ 0
flush-intact e out h = state-accepted e.state _ _ _ _ (accepted-flush e.state _ _ _ _ _ h).state

process-true : (e : Engine) (near far out : List Float) → True e → True (left_by (process_of e near far out))
unfolding process_of
process-true e near far out t =
    let r = process_number e near far out in
    pick-if (λ (c : Called). True (left_by c)) (eqb r 0)
    (λ z. pairs-true e near far (state-intact e (process-intact e near far out (eqb-true r 0 z))) t) (λ _. t)

pub process-squared : (e : Engine) (near far out : List Float) → True e → process_by squared_block e near far out ≡ process_of e near far out
unfolding process_by process_of pick
process-squared e near far out t = go (eqb (process_number e near far out) 0) refl
  where
    go : (b : Bool) → eqb (process_number e near far out) 0 ≡ b → process_by squared_block e near far out ≡ process_of e near far out
    go true z = rw (pairs-squared e near far (state-intact e (process-intact e near far out (eqb-true _ 0 z))) t)
    go false z = rw z

flush-true : (e : Engine) (out : List Float) → True e → True (left_by (flush_of e out))
unfolding flush_of
flush-true e out t =
    let r = flush_number e out in
    pick-if (λ (c : Called). True (left_by c)) (eqb r 0)
    (λ z. flushed-true e (state-intact e (flush-intact e out (eqb-true r 0 z))) t) (λ _. t)

pub flush-squared : (e : Engine) (out : List Float) → True e → flush_by squared_block e out ≡ flush_of e out
unfolding flush_by flush_of pick
flush-squared e out t = go (eqb (flush_number e out) 0) refl
  where
    go : (b : Bool) → eqb (flush_number e out) 0 ≡ b → flush_by squared_block e out ≡ flush_of e out
    go true z = rw (flushed-squared e (state-intact e (flush-intact e out (eqb-true _ 0 z))) t)
    go false z = rw z

-- ---- creation and reset

-- of a refused creation's state there is no partition
pub created-true : (parts : ℕ) (flag : Bool) (sh ou xs ps : List Float) → True (begun_by (create_of parts flag sh ou xs ps))
unfolding create_of fresh_of empty_of
created-true parts flag sh ou xs ps =
    pick-if (λ (b : Begun). True (begun_by b)) (eqb (create_refusal parts (length sh) (length ou) (length xs) (length ps)) 0)
    (λ _. fresh-true parts) (λ _. record { each = λ slot l. absurd (not-suc-le-zero l) })

pub reset-true : (e : Engine) → state_number e ≡ 0 → True (begun_by (reset_of e))
unfolding fresh_of
reset-true e h = rw (reset-began e h) (fresh-true e.state.partitions)

-- ---- calls of every kind

pub call-true : (e : Engine) (c : Call) → True e → True (made_by e c).engine
unfolding made_by reset_of fresh_of
call-true e (feed p) t = process-true e p.near p.far p.out t
call-true e (flush out) t = flush-true e out t
call-true e reset t = pick-if (λ (b : Begun). True (begun_by b)) (eqb (state_number e) 0) (λ _. fresh-true e.state.partitions) (λ _. t)

pub calls-true : (e : Engine) (cs : List Call) → True e → True (calls_of e cs).run.engine
unfolding calls_of
calls-true e [] t = t
calls-true e (c ∷ cs) t = calls-true (made_by e c).engine cs (call-true e c t)
