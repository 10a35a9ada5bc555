-- What the theorems on streams speak of: an engine in order, a stream cut into calls, a stream by blocks, and what has come since the
-- carry was last emptied. Definitions only, and no contract cites them.
use Rattle.std.specs.Prelude.{◌≡◌, true, List, [], ◌∷◌, ◌++◌, map, ℕ, zero, suc, ◌+◌, ◌-◌, ◌*◌, ◌/◌, ◌%◌, ◌≤◌, T, eqb, Float, length, take, drop, replicate}
use Rattle.laws.specs.Choice.{pick}
use Rattle.laws.specs.Kinds.{All}
use Rattle.numbers.specs.Finite.{finite_or_zero}
use Rattle.tau_state.specs.Constants.{zero32}
use Rattle.tau_state.specs.Ranges.{Ranged}
use Rattle.tau_frame.specs.Pairs.{Engine, Run, waits_of, carrying, block_of, last_of, pairs_of, delivers_of}
use Rattle.streams.specs.Parts.{Part, Made}
use Rattle.tau.specs.Calls.{Begun, Called, reset_of, process_of, flush_of}

-- ---- engines

-- an engine in order, with carries of n and of f numbers: its state in the ranges of refusal 6, its buffers of the lengths of refusal 2
pub record Intact (n f : ℕ) (e : Engine) : Type 0 where
  pub ranged : Ranged e.state
  pub shadow : length e.shadow ≡ 514 * e.state.partitions
  pub output : length e.output ≡ 514 * e.state.partitions
  pub spectra : length e.spectra ≡ 514 * e.state.partitions
  pub powers : length e.powers ≡ 257 * e.state.partitions
  pub near : length e.state.near_carry ≡ n
  pub far : length e.state.far_carry ≡ f

-- the same with carries of 256 numbers, as their type says in the code
abbrev pub Good : Engine → Type 0
Good e = Intact 256 256 e

-- ---- calls

-- the state and the four buffers that creation or reset leaves, and that process or flush leaves
abbrev pub begun_by : Begun → Engine
begun_by b = record { state = b.answer.state; shadow = b.shadow; output = b.output; spectra = b.spectra; powers = b.powers }

abbrev pub left_by : Called → Engine
left_by c = record { state = c.answer.state; shadow = c.shadow; output = c.output; spectra = c.spectra; powers = c.powers }

-- the samples that a call delivered
abbrev pub delivered_by : Called → List Float
delivered_by c = take c.answer.delivered c.out

-- both, with the last block of its report, as a run
abbrev pub ran_by : Called → Run
ran_by c = record { engine = left_by c; samples = delivered_by c; last = c.answer.report.last }

-- An accepted call, of which r is the run and n its number of samples: it answers 0 and delivers n. These are the first places of the
-- output buffer, which keeps its length, and the rest of it is as it was.
pub record Delivery (r : Run) (n : ℕ) (out : List Float) (c : Called) : Type 0 where
  pub accepted : c.answer.refusal ≡ 0
  pub count : c.answer.delivered ≡ n
  pub long : length c.out ≡ length out
  pub samples : take n c.out ≡ r.samples
  pub rest : drop n c.out ≡ drop n out

-- ---- a stream cut into parts

-- for each part in turn, an output buffer that holds what it delivers over what then waits: from c waiting pairs, n more leave the
-- remainder of c + n by 256
abbrev pub Rooms : ℕ → List Part → Type 0
Rooms c [] = T true
Rooms c (p ∷ ps) = (delivers_of c (length p.near) ≤ length p.out) × Rooms ((c + length p.near) % 256) ps

pub record Roomy (c : ℕ) (ps : List Part) : Type 0 where
  pub rooms : Rooms c ps

-- two runs one after the other: the last engine, the samples of both, and the last block of both
abbrev pub joined : Run → Run → Run
joined first second = record {
  engine = second.engine;
  samples = first.samples ++ second.samples;
  last = last_of first.last second.last;
}

-- A run over a and c, and from where it ended one over b and d.
abbrev pub then_of : Engine → List Float → List Float → List Float → List Float → Run
then_of e a c b d = let first = pairs_of e a c in joined first (pairs_of first.engine b d)

-- ---- a stream by blocks, from an engine with an empty carry

-- the samples as they are read
abbrev pub clean_of : List Float → List Float
clean_of l = map finite_or_zero l

-- the engine with another carry, of which n pairs wait; and a run after which it has it
abbrev pub with_carry : Engine → List Float → List Float → ℕ → Engine
with_carry e near far n = record { state = carrying e.state near far n; shadow = e.shadow; output = e.output; spectra = e.spectra; powers = e.powers }

abbrev pub with_carry_after : Run → List Float → List Float → ℕ → Run
with_carry_after r near far n = record { engine = with_carry r.engine near far n; samples = r.samples; last = r.last }

-- the block of 256 pairs, a and c, by the block rule
abbrev pub block_on : Engine → List Float → List Float → Run
block_on e a c = block_of e (clean_of a) (clean_of c) 256 true

-- the first k blocks of 256 pairs, one after the other
unfoldable pub blocks_of : ℕ → Engine → List Float → List Float → Run
blocks_of zero e near far = waits_of e
blocks_of (suc k) e near far =
    let b = block_on e (take 256 near) (take 256 far) in
    joined b (blocks_of k b.engine (drop 256 near) (drop 256 far))

-- what k blocks of a stream last wrote to a carry l of 256 places: the last block's samples, and nothing where there was none
unfoldable pub written_to : ℕ → List Float → List Float → List Float
written_to zero l stream = l
written_to (suc k) l stream = clean_of (take 256 (drop (256 * k) stream))

-- the carry after k blocks and the pairs behind them, too few for a block: these stand at its front, and what was last written behind them
abbrev pub carry_of : ℕ → List Float → List Float → List Float
carry_of k l stream = let rest = drop (256 * k) stream in clean_of rest ++ drop (length rest) (written_to k l stream)

-- a stream by blocks: all whole blocks, and the rest of its pairs waits in the carry
abbrev pub by_blocks : Engine → List Float → List Float → Run
by_blocks e near far =
    let k = length near / 256 in
    with_carry_after (blocks_of k e near far) (carry_of k e.state.near_carry near) (carry_of k e.state.far_carry far) (length near % 256)

-- the samples behind the whole blocks of a stream, padded with 0.0 to 256
abbrev pub padded_rest : List Float → List Float
padded_rest stream = let rest = drop (256 * (length stream / 256)) stream in clean_of rest ++ replicate (256 - length rest) zero32

-- ---- rows of calls

-- the parts processed one after the other, each call on the state and the buffers that the one before it left
unfoldable pub processed_of : Engine → List Part → Made Run
processed_of e [] = record { run = waits_of e; refusals = [] }
processed_of e (p ∷ ps) =
    let call = process_of e p.near p.far p.out in
    let rest = processed_of (left_by call) ps in
    record { run = joined (ran_by call) rest.run; refusals = call.answer.refusal ∷ rest.refusals }

-- every call of the row is accepted
abbrev pub AllAccepted : Engine → List Part → Type 0
AllAccepted e ps = All (λ r. r ≡ 0) (processed_of e ps).refusals

-- ---- calls of every kind

-- a call on an engine: a process of a part, a flush with the output buffer lent for it, or a reset
pub data Call : Type 0 where
  feed : Part → Call
  flush : List Float → Call
  reset : Call

-- What has come since the carry was last emptied, by creation, reset or flush: the engine as that left it, the pairs that were accepted
-- since, and what the calls since have made of it: the engine now, all samples delivered since, and the last block since.
pub record Since : Type 0 where
  pub start : Engine
  pub near : List Float
  pub far : List Float
  pub run : Run

-- nothing yet
abbrev pub anew : Engine → Since
anew e = record { start = e; near = []; far = []; run = waits_of e }

-- a call more, that emptied nothing: all pairs with its own, and what it did
abbrev pub onward : Since → List Float → List Float → Run → Since
onward t near far r = record { start = t.start; near = near; far = far; run = joined t.run r }

-- One call more, on the engine as it is now. A refused one adds no pairs.
unfoldable pub after_call : Since → Call → Since
after_call t (feed p) =
    let c = process_of t.run.engine p.near p.far p.out in
    pick (eqb c.answer.refusal 0) (onward t (t.near ++ p.near) (t.far ++ p.far) (ran_by c)) (onward t t.near t.far (ran_by c))
after_call t (flush out) =
    let c = flush_of t.run.engine out in
    pick (eqb c.answer.refusal 0) (anew (left_by c)) (onward t t.near t.far (ran_by c))
after_call t reset =
    let b = reset_of t.run.engine in
    pick (eqb b.answer.refusal 0) (anew (begun_by b)) (onward t t.near t.far (waits_of (begun_by b)))

-- all calls of a list, one after the other
unfoldable pub after_calls : Since → List Call → Since
after_calls t [] = t
after_calls t (c ∷ cs) = after_calls (after_call t c) cs

-- From an engine in order with nothing carried, as many near as far samples, and all is as one run over the uncut stream since makes it.
pub record Uncut (t : Since) : Type 0 where
  pub good : Good t.start
  pub empty : t.start.state.carried ≡ 0
  pub level : length t.near ≡ length t.far
  pub run : t.run ≡ pairs_of t.start t.near t.far
