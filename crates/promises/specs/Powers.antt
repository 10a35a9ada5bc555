-- What is promised of the kept powers, request K10. Statements; proved in proofs/Powers.antt.
use Rattle.std.specs.Prelude.{◌≡◌, Bool, true, false, List, ℕ, pos, get_or, Float}
use Rattle.std.specs.Float.{nan, fin}
use Rattle.laws.specs.Parts.{with_part}
use Rattle.fft.specs.Calls.{spectrum_of}
use Rattle.tau_state.specs.Constants.{one}
use Rattle.tau_spectra.specs.Powers.{powers_of, kept_power_to}
use Rattle.tau_update.specs.Update.{factor_of}
use Rattle.tau_block.specs.Block.{Block, Engine, Ran, heard_in, run_block}
use Rattle.tau_block_laws.specs.Bounds.{Factor}
use Rattle.tau_block_laws.specs.Powers.{True, squared_block, with_powers}
use Rattle.tau.specs.Calls as tau
use Rattle.tau_streams.specs.Stream.{Good, begun_by, Call, blocks_of}
use Rattle.tau_streams.specs.Silence.{made_by, calls_of}
use Rattle.tau_streams.specs.Powers.{process_by, flush_by}

-- "written when its spectrum is written": every block, a flush's too, whether it adapts or not and whatever the buffers hold, writes the
-- powers of the spectrum that it stores, to the slot of that spectrum, and no others. "The sum over partitions keeps its order": what its
-- update takes is the sum by slot of the powers that it leaves, true or false.
pub record Written (e : Engine) (far : List Float) (b : Block) : Type 0 where
  pub spectra : let after = (run_block e far b).engine in
      after.spectra ≡ with_part 514 after.state.far.head e.spectra (spectrum_of after.state.far.window)
  pub powers : let after = (run_block e far b).engine in
      after.powers ≡ with_part 257 after.state.far.head e.powers (powers_of (spectrum_of after.state.far.window))
  pub sum : (heard_in e far).far_power ≡ kept_power_to (run_block e far b).engine.powers e.state.partitions

abbrev pub PowersWritten : Type 0
PowersWritten = (e : Engine) (far : List Float) (b : Block) → Written e far b

-- "From creation, after every block, flush and reset, each kept number is the one worked out from its bin": a creation leaves it so, and an
-- accepted reset, whatever the powers were; and every call, accepted or refused, and every row of calls, keeps it so
pub record PowersTrue : Type 0 where
  pub created : (parts : ℕ) (flag : Bool) (shadow output spectra powers : List Float) → True (begun_by (tau.create_of parts flag shadow output spectra powers))
  pub reset : (e : Engine) → (tau.reset_of e).answer.refusal ≡ 0 → True (begun_by (tau.reset_of e))
  pub call : (e : Engine) (c : Call) → True e → True (made_by e c).engine
  pub calls : (e : Engine) (cs : List Call) → True e → True (calls_of e cs).run.engine

-- "no bit of any output may change": for an engine with true powers each call is, in its answer, its state, the four buffers and the samples,
-- the call by the rule that squares the spectra in every block
pub record SameAsSquared (e : Engine) : Type 0 where
  pub process : (near far out : List Float) → tau.process_of e near far out ≡ process_by squared_block e near far out
  pub flush : (out : List Float) → tau.flush_of e out ≡ flush_by squared_block e out

abbrev pub NoBitChanged : Type 0
NoBitChanged = (e : Engine) → True e → SameAsSquared e

-- What those calls are: by our own block they are our calls; and the block that squares reads no kept power, so with any others it leaves the
-- same but for the powers.
pub record SquaredRule : Type 0 where
  pub process : (e : Engine) (near far out : List Float) → process_by run_block e near far out ≡ tau.process_of e near far out
  pub flush : (e : Engine) (out : List Float) → flush_by run_block e out ≡ tau.flush_of e out
  pub blind : (e : Engine) (far : List Float) (b : Block) (powers : List Float)
      → let with = squared_block (with_powers e powers) far b in
      let without = squared_block e far b in
      ◌≡◌ {A = Ran} (record { engine = with_powers with.engine without.engine.powers; block = with.block; told = with.told }) without

-- False ones do not stay: as many blocks as there are partitions leave true powers, whatever they were.
abbrev pub FalseGone : Type 0
FalseGone = (e : Engine) (near far : List Float) → Good e → True (blocks_of e.state.partitions e near far).engine

-- "the step factor's bound .. for states that our calls made": of every bin k, for any engine in order with true powers, whatever the far
-- samples and the means. By false ones it is not held: the far power -2.0 with the mean 1.0 gives 4.0.
abbrev pub KeptFactor : Type 0
KeptFactor =
    ((e : Engine) (far means : List Float) (k : ℕ) → Good e → True e → Factor (factor_of (get_or means k nan) (get_or (heard_in e far).far_power k nan)))
    × (factor_of one (fin true 1 (pos 1)) ≡ fin false 1 (pos 2))
