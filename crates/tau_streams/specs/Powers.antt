-- Process and flush with another rule for their blocks (K10): as `process_of` and `flush_of`, with `rule` where these run `run_block`.
-- proofs/Powers.antt has that with `run_block` they are those. Definitions; no contract cites them.
use Rattle.std.specs.Prelude.{Bool, true, false, List, [], ◌∷◌, ◌++◌, ℕ, eqb, Float, take}
use Rattle.laws.specs.Choice.{pick}
use Rattle.tau_state.specs.declared.report.Last.TheVariants.{Did}
use Rattle.tau_block.specs.Block.{Block, Engine, Ran}
use Rattle.tau_frame.specs.Pairs.{Run, waits_of, emptied, fill_of, padded, last_of}
use Rattle.tau.specs.Calls.{Called, served_of, refused_of, process_number, flush_number}

module _ (rule : Engine → List Float → Block → Ran) where
  unfoldable pub block_by : Engine → List Float → List Float → ℕ → Bool → Run
  block_by e near far n adapt =
      let ran = rule (emptied e) far (record { near = near; valid = n; adapt = adapt }) in
      record { engine = ran.engine; samples = take n ran.block; last = Did ran.told }

  unfoldable pub pair_by : Engine → Float → Float → Run
  pair_by e x y =
      let f = fill_of e x y in
      pick (eqb e.state.carried 255) (block_by f f.state.near_carry f.state.far_carry 256 true) (waits_of f)

  unfoldable pub pairs_by : Engine → List Float → List Float → Run
  pairs_by e [] far = waits_of e
  pairs_by e (x ∷ near) [] = waits_of e
  pairs_by e (x ∷ near) (y ∷ far) =
      let t = pair_by e x y in
      let rest = pairs_by t.engine near far in
      record { engine = rest.engine; samples = t.samples ++ rest.samples; last = last_of t.last rest.last }

  unfoldable pub flushed_by : Engine → Run
  flushed_by e =
      let s = e.state in
      let n = s.carried in
      pick (eqb n 0) (waits_of e) (block_by e (padded s.near_carry n) (padded s.far_carry n) n false)

  unfoldable pub process_by : Engine → List Float → List Float → List Float → Called
  process_by e near far out =
      let refusal = process_number e near far out in
      pick (eqb refusal 0) (served_of (pairs_by e near far) out) (refused_of refusal e out)

  unfoldable pub flush_by : Engine → List Float → Called
  flush_by e out =
      let refusal = flush_number e out in
      pick (eqb refusal 0) (served_of (flushed_by e) out) (refused_of refusal e out)
