-- One answer each: two answers that meet a promise, each with what every lent buffer holds after, are the same. A promise is a relation,
-- which its crate names in specs/Promises; that a function's contract is its relation is Contracts. Weaken one, and its line here is false.
-- Where a call writes to buffers, its answer and these make one record. What an accepted call leaves in a lent scratch is open: no line
-- speaks of it. A promise of a function that answers a Result is over numbers that are read off it, and Readings has that answers with the
-- same numbers are the same. Statements; proved in proofs/Answers.antt.
use Rattle.std.specs.Prelude.{◌≡◌, Bool, List, ℕ, Float, Result}
use Rattle.refusal.specs.declared.Refusal.{Refusal}
use Rattle.refusal.specs.Refusal.{number_in}
use Rattle.numbers.specs.Promises.{Abs, Min, Max, Clamp, Lesser, IsFinite, FiniteOrZero, Widen, Narrow, NarrowBits, NarrowTold, KindNumber, IsPlain, PlainSquares, Rounded}
use Rattle.numbers.specs.Promises.{FromBits, FromBits32, ToBits, ToBits32}
use Rattle.numbers.specs.declared.narrowing.Kind.{Kind}
use Rattle.numbers.specs.declared.narrowing.Narrowed.{Narrowed}
use Rattle.narrow_list.specs.Promises.{NarrowInto, OversScaled}
use Rattle.trig.specs.Promises.{DetSin, DetCos, Recombination}
use Rattle.complex.specs.declared.Complex.{Complex}
use Rattle.complex.specs.Promises.{New, Conj, Add, Sub, Mul, Scale}
use Rattle.complex_fft.specs.declared.complex_fft.Wings.{Wings}
use Rattle.complex_fft.specs.Calls.{Wrote}
use Rattle.complex_fft.specs.Promises.{ComplexForward, ComplexInverse, ReversalTable, Butterfly}
use Rattle.fft.specs.Calls.{Sampled}
use Rattle.fft.specs.declared.real_fft.Inverted.{Inverted}
use Rattle.fft.specs.Promises.{Forward, Inverse, ForwardWith, InverseWith, InverseHalfWith, RefusedKeeps, inverted_of}
use Rattle.rho_sample.specs.Sample as rho_sample
use Rattle.rho_state.specs.declared.state.RhoCanceller.{RhoCanceller}
use Rattle.rho.specs.declared.calls.Answer as rho_answer
use Rattle.rho.specs.declared.calls.Started.{Started}
use Rattle.rho.specs.Calls as rho_calls
use Rattle.rho.specs.Promises as rho
use Rattle.tau_state.specs.declared.state.TauCanceller.{TauCanceller}
use Rattle.tau_frame.specs.Pairs.{Engine}
use Rattle.tau.specs.Calls.{Begun, Called}
use Rattle.tau.specs.Promises as tau
use Rattle.capi.specs.Tau.{Hosted}
use Rattle.capi.specs.declared.record_calls.RecordRead as record_calls
use Rattle.capi.specs.Promises.{TauProcess, TauFlush, RecordRead, NarrowKind}
use Rattle.wire.specs.Promises.{WholePairs, ReadNear, ReadFar, KeepRest, WriteSamples}
use Rattle.capture.specs.Feeds.{Fed}
use Rattle.capture.specs.Promises.{Feed, Finish}
use Rattle.record.specs.declared.header.Header.{Header}
use Rattle.record.specs.declared.writing.Written.{Written}
use Rattle.record.specs.Answers.{found_of, written_of}
use Rattle.record.specs.Reading.{Found}
use Rattle.record.specs.Writing as writing
use Rattle.record.specs.Promises.{Read, Payload, Write}
use Rattle.recorded.specs.declared.Recorded as declared
use Rattle.recorded.specs.Recorded.{Recorded, Left, recorded_of}
use Rattle.recorded.specs.Promises as recorded
use Rattle.line_order.specs.Promises.{AtMost}
use Rattle.manifest.specs.Sorted as sorted
use Rattle.manifest.specs.declared.SortError.{SortError}
use Rattle.manifest.specs.Promises.{Sort, Sorted, sorted_by}

-- two answers that meet the promise are the same
abbrev pub One : (A : Type 0) → (A → Type 0) → Type 0
One A promise = (r s : A) → promise r → promise s → r ≡ s

-- numbers, narrow_list: x, y, z are numbers, b a pattern, m and n counts, xs and out lists; kind one of narrowing
abbrev pub Numbers : Type 0
Numbers = (x y z : Float) (b m n : ℕ) (kind : Kind) (xs out : List Float)
    → One Float (Abs x)
    × One Float (Min x y)
    × One Float (Max x y)
    × One Float (Clamp x y z)
    × One ℕ (Lesser m n)
    × One Bool (IsFinite x)
    × One Float (FiniteOrZero x)
    × One Float (Widen x)
    × One Float (Narrow x)
    × One ℕ (NarrowBits x)
    × One Narrowed (NarrowTold x)
    × One ℕ (KindNumber kind)
    × One Bool (IsPlain x)
    × One Bool (PlainSquares x y)
    × One Float (Rounded x)
    × One Float (FromBits b)
    × One Float (FromBits32 b)
    × One ℕ (ToBits x)
    × One ℕ (ToBits32 x)
    × One (ℕ × List Float) (λ (overs, after). NarrowInto xs out overs after)
    × One ℕ (OversScaled xs x)

-- trig, and the two tables
abbrev pub Tables : Type 0
Tables = (x : Float)
    → One Float (DetSin x)
    × One Float (DetCos x)
    × One (List Float) Recombination
    × One (List ℕ) ReversalTable

-- the complex number
abbrev pub Complexes : Type 0
Complexes = (x y : Float) (a b c : Complex)
    → One Complex (New x y)
    × One Complex (Conj a)
    × One Complex (Add a b)
    × One Complex (Sub a b)
    × One Complex (Mul a b)
    × One Complex (Scale a x)
    × One Wings (Butterfly a b c)

-- the transform, of x into out; t is a lent table and s a lent scratch, which a refused call, answer 2, leaves as it was
abbrev pub Transforms : Type 0
Transforms = (x out t s : List Float) (later : Bool)
    → One Wrote (λ w. ComplexForward x w.answer w.out)
    × One Wrote (λ w. ComplexInverse x w.answer w.out)
    × One Wrote (λ w. Forward x out w.answer w.out)
    × One Sampled (λ w. Inverse x out (record { refusal = w.answer; overs = w.overs }) w.out)
    × One Wrote (λ w. ForwardWith t s x out w.answer w.out)
    × One Sampled (λ w. InverseWith t s x out (record { refusal = w.answer; overs = w.overs }) w.out)
    × One Sampled (λ w. InverseHalfWith t s x later out (record { refusal = w.answer; overs = w.overs }) w.out)
    × One (List Float) (RefusedKeeps s 2)

-- RhoCanceller
abbrev pub Rho : Type 0
Rho = (rate tail : ℕ) (weights history : List Float) (e : rho_sample.Engine) (near far out : List Float)
    → One rho_calls.Begun (λ c. rho.Create rate tail weights history c.answer c.weights c.history)
    × One rho_calls.Called (λ c. rho.Process e near far out c.answer c.weights c.history c.out)
    × One rho_answer.Answer (rho.Flush e)
    × One rho_calls.Begun (λ c. rho.Reset e c.answer c.weights c.history)

-- TauCanceller
abbrev pub Tau : Type 0
Tau = (parts : ℕ) (flag : Bool) (shadow output spectra powers : List Float) (e : Engine) (near far out : List Float)
    → One Begun (λ c. tau.Create parts flag shadow output spectra powers c.answer c.shadow c.output c.spectra c.powers)
    × One Called (λ c. tau.Process e near far out c.answer c.shadow c.output c.spectra c.powers c.out)
    × One Called (λ c. tau.Flush e out c.answer c.shadow c.output c.spectra c.powers c.out)
    × One Begun (λ c. tau.Reset e c.answer c.shadow c.output c.spectra c.powers)

-- capi: the calls that answer numbers where those below have an enum or a part; its other functions cite promises of these
abbrev pub Hosts : Type 0
Hosts = (e : Engine) (near far out : List Float) (bytes : List ℕ) (x : Float)
    → One Hosted (λ c. TauProcess e near far out c.answer c.shadow c.output c.spectra c.powers c.out)
    × One Hosted (λ c. TauFlush e out c.answer c.shadow c.output c.spectra c.powers c.out)
    × One record_calls.RecordRead (RecordRead bytes)
    × One ℕ (NarrowKind x)

-- bytes: s and out are lists of bytes, xs and buf of samples, n a count
abbrev pub Bytes : Type 0
Bytes = (s out : List ℕ) (xs buf : List Float) (n : ℕ) (e : Engine)
    → One ℕ (WholePairs s)
    × One (List Float) (ReadNear s buf)
    × One (List Float) (ReadFar s buf)
    × One (List ℕ) (KeepRest n s)
    × One (List ℕ) (WriteSamples xs out)
    × One Fed (λ c. Feed e s out c.answer c.shadow c.output c.spectra c.powers c.bytes)
    × One Fed (λ c. Finish e out c.answer c.shadow c.output c.spectra c.powers c.bytes)

-- record, recorded: s and out are lists of bytes
abbrev pub Records : Type 0
Records = (kind : ℕ) (s out : List ℕ) (e : Engine)
    → One Found (Read s)
    × One (List ℕ) (Payload s)
    × One writing.Wrote (λ c. Write kind s out (record { refusal = c.refusal; written = c.written }) c.out)
    × One Left (λ c. recorded.Feed e s out c.answer c.shadow c.output c.spectra c.powers c.out)
    × One Left (λ c. recorded.Finish e out c.answer c.shadow c.output c.spectra c.powers c.out)

-- the release list: a and b are lines, text and out lists of bytes
abbrev pub Lists : Type 0
Lists = (a b text out : List ℕ)
    → One Bool (AtMost a b)
    × One sorted.Answer (λ c. Sort text out (record { refusal = c.refusal; written = c.written }) c.out)

-- a reading tells any two answers apart: those of which it reads the same are the same
abbrev pub TellsApart : (A B : Type 0) → (A → B) → Type 0
TellsApart A B reading = (r s : A) → reading r ≡ reading s → r ≡ s

-- the readings by which Contracts gives promises of answers: rho's with the state that the call leaves, recorded's after the state before
abbrev pub Readings : Type 0
Readings = (before : TauCanceller)
    → TellsApart (Result (Unit {0}) Refusal) ℕ number_in
    × TellsApart (Result ℕ Refusal) Inverted inverted_of
    × TellsApart (Result RhoCanceller Refusal) Started rho_calls.started_of
    × TellsApart (Result ℕ Refusal × RhoCanceller) rho_answer.Answer (λ (r, state). rho_calls.answered_of r state)
    × TellsApart (Result Header Refusal) Found found_of
    × TellsApart (Result ℕ Refusal) Written written_of
    × TellsApart (Result declared.Recorded Refusal) Recorded (recorded_of before)
    × TellsApart (Result ℕ SortError) Sorted sorted_by
