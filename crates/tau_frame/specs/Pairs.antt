-- A stream of pairs: "A call turns non-finite samples into 0.0, fills the carry, and runs one block at each 256th pair. Flush with an
-- empty carry delivers nothing and changes nothing; else it pads with 0.0 to 256, runs without adapting, and delivers only the
-- remainder." Definitions only.
use Rattle.std.specs.Prelude.{Bool, true, false, List, [], ◌∷◌, ◌++◌, ℕ, ◌+◌, ◌-◌, eqb, set, take, replicate, Float}
use Rattle.laws.specs.Choice.{pick}
use Rattle.numbers.specs.Finite.{finite_or_zero}
use Rattle.tau_state.specs.Constants.{zero32}
use Rattle.tau_state.specs.declared.state.TauCanceller.{TauCanceller}
use Rattle.tau_state.specs.declared.report.Last.{Last}
use Rattle.tau_state.specs.declared.report.Last.TheVariants.{NoneRan, Did}
use Rattle.tau_block.specs.Block.{run_block}
pub use Rattle.tau_block.specs.Block.{Engine}
pub use Rattle.tau_fresh.specs.Refusals.{delivers_of}

-- what pairs, or a flush, make of it: the engine after them, the samples delivered, and the last block
pub record Run : Type 0 where
  pub engine : Engine
  pub samples : List Float
  pub last : Last

-- where no block is run
abbrev pub waits_of : Engine → Run
waits_of e = record { engine = e; samples = []; last = NoneRan }

-- the state with another carry
abbrev pub carrying : TauCanceller → List Float → List Float → ℕ → TauCanceller
carrying s ns fs n = record {
  partitions = s.partitions;
  suppress = s.suppress;
  carried = n;
  near_carry = ns;
  far_carry = fs;
  far = s.far;
  mic = s.mic;
}

-- nothing carried; what stood in the carry is left there, and no longer read
abbrev pub emptied : Engine → Engine
emptied e =
    let s = e.state in
    record { state = carrying s s.near_carry s.far_carry 0; shadow = e.shadow; output = e.output; spectra = e.spectra; powers = e.powers }

-- a block, after which the carry is empty: of near and far the first n are valid, and these are delivered; adapt says that it is no flush
unfoldable pub block_of : Engine → List Float → List Float → ℕ → Bool → Run
block_of e near far n adapt =
    let ran = run_block (emptied e) far (record { near = near; valid = n; adapt = adapt }) in
    record { engine = ran.engine; samples = take n ran.block; last = Did ran.told }

-- the pair in the carry, at its end
abbrev pub placed : TauCanceller → Float → Float → TauCanceller
placed s x y =
    carrying s (set s.near_carry s.carried (finite_or_zero x)) (set s.far_carry s.carried (finite_or_zero y)) (s.carried + 1)

abbrev pub fill_of : Engine → Float → Float → Engine
fill_of e x y = record { state = placed e.state x y; shadow = e.shadow; output = e.output; spectra = e.spectra; powers = e.powers }

-- one pair
unfoldable pub pair_of : Engine → Float → Float → Run
pair_of e x y =
    let f = fill_of e x y in
    pick (eqb e.state.carried 255) (block_of f f.state.near_carry f.state.far_carry 256 true) (waits_of f)

-- the last block of two, one after the other: the later one's, where a block ran in it
unfoldable pub last_of : Last → Last → Last
last_of earlier NoneRan = earlier
last_of earlier (Did told) = Did told

-- all pairs of two lists, one after the other
unfoldable pub pairs_of : Engine → List Float → List Float → Run
pairs_of e [] far = waits_of e
pairs_of e (x ∷ near) [] = waits_of e
pairs_of e (x ∷ near) (y ∷ far) =
    let t = pair_of e x y in
    let rest = pairs_of t.engine near far in
    record { engine = rest.engine; samples = t.samples ++ rest.samples; last = last_of t.last rest.last }

-- "pads with 0.0 to 256"
abbrev pub padded : List Float → ℕ → List Float
padded l n = take n l ++ replicate (256 - n) zero32

unfoldable pub flushed_of : Engine → Run
flushed_of e =
    let s = e.state in
    let n = s.carried in
    pick (eqb n 0) (waits_of e) (block_of e (padded s.near_carry n) (padded s.far_carry n) n false)
