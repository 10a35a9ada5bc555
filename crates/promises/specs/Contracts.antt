-- A public function's contract is its promise, no less and no more: it asks for nothing, and it ensures the relation of specs/Promises at what
-- the function is given, its answer and what it leaves. The contract is taken as the prover has it, so one that asks for something, that no
-- longer cites its relation or that cites it at other values makes its line false. A function of capi has the very contract of the function
-- below it, or, where that one answers a Result, the relation at the numbers that C is answered. Statements; proved in proofs/Contracts.antt.
--     f.ended, f.clauses      the signature of the function f and its contract, which the toolchain makes of src/
--     λ _ (..) r (..). p      the parameters, one name for each; the answer; the parameters again, as the call leaves them; and what is said
--     now b                   what the lent buffer b holds
use Rattle.std.specs.Prelude.{◌≡◌, List, Float, from_bits, to_bits}
use seplogic.Ra.Ura.{Ura}
use base.Logic.{SProp, emp, sep}
use prog.Memory.{Memory}
use prog.Routine.{Routine}
use mir.Syntax.{Dict}
use types.Logic.{Logic}
use contract.Lifetimes.{Lfts}
use contract.Monad.{Fun, fact}
use denote.RattleType.{RattleType}
use denote.Builtin as builtin
use denote.Triple.Carry.{AllWithin, insides}
use denote.Triple.Entry.{Args, Res}
use denote.Triple.Clauses.{Ended, Clauses, AtExit}
use Rattle.std.specs.declared.clone.Clone as clone
use Rattle.numbers.specs.declared.float.Float as float
use Rattle.numbers.specs.contracts as numbers
use Rattle.numbers.specs.contracts.float.F64Float as f64
use Rattle.numbers.specs.contracts.float.F32Float as f32
use Rattle.numbers.specs.contracts.narrowing.U32FromKind as kind
use Rattle.numbers.specs.Promises.{Abs, Min, Max, Clamp, Lesser, IsFinite, FiniteOrZero, Widen, Narrow, NarrowBits, NarrowTold, KindNumber, IsPlain, PlainSquares, Rounded}
use Rattle.numbers.specs.Promises.{FromBits, FromBits32, ToBits, ToBits32}
use Rattle.narrow_list.specs.contracts as narrow_list
use Rattle.narrow_list.specs.Promises.{NarrowInto, OversScaled}
use Rattle.trig.specs.contracts as trig
use Rattle.trig.specs.Promises.{DetSin, DetCos, Recombination}
use Rattle.complex.specs.contracts.Complex as complex
use Rattle.complex.specs.contracts.ComplexAdd as complex_add
use Rattle.complex.specs.contracts.ComplexSub as complex_sub
use Rattle.complex.specs.contracts.ComplexMul as complex_mul
use Rattle.complex.specs.Promises.{New, Conj, Add, Sub, Mul, Scale}
use Rattle.complex_fft.specs.contracts as complex_fft
use Rattle.complex_fft.specs.Promises.{ComplexForward, ComplexInverse, ReversalTable, Butterfly}
use Rattle.fft.specs.contracts as fft
use Rattle.fft.specs.Promises.{Forward, Inverse, ForwardWith, InverseWith, InverseHalfWith, RefusedKeeps, inverted_of}
use Rattle.rho.specs.contracts as rho
use Rattle.rho_state.specs.declared.state.RhoCanceller.{RhoCanceller}
use Rattle.rho_sample.specs.Sample as rho_sample
use Rattle.rho.specs.Promises as rho_promises
use Rattle.rho.specs.Calls.{started_of, answered_of}
use Rattle.refusal.specs.Refusal.{number_in}
use Rattle.tau.specs.contracts as tau
use Rattle.tau_state.specs.declared.state.TauCanceller.{TauCanceller}
use Rattle.tau_frame.specs.Pairs.{Engine}
use Rattle.tau.specs.Promises as tau_promises
use Rattle.capi.specs.contracts as capi
use Rattle.capi.specs.Promises.{TauProcess, TauFlush, RecordRead, NarrowKind}
use Rattle.wire.specs.contracts as wire
use Rattle.wire.specs.Promises.{WholePairs, ReadNear, ReadFar, KeepRest, WriteSamples}
use Rattle.capture.specs.contracts as capture
use Rattle.capture.specs.Promises.{Feed, Finish}
use Rattle.record.specs.contracts as records
use Rattle.record.specs.Answers.{found_of, written_of}
use Rattle.record.specs.Promises.{Read, Payload, Write}
use Rattle.recorded.specs.contracts as recorded
use Rattle.recorded.specs.Promises as recorded_promises
use Rattle.recorded.specs.Recorded.{recorded_of}
use Rattle.line_order.specs.contracts as line_order
use Rattle.line_order.specs.Promises.{AtMost}
use Rattle.manifest.specs.contracts as manifest
use Rattle.manifest.specs.Promises.{Sort, sorted_by}

-- what may be said over a signature
abbrev pub Saying : Ended → Type 1
Saying T = (κs : Lfts T.signature.lifetimes) → Args T.signature κs → Res T.signature κs → AtExit T κs → Type 0

-- an engine, of its state and what its lent buffers hold
abbrev pub rho_of : RhoCanceller → List Float → List Float → rho_sample.Engine
rho_of s w h = record { state = s; weights = w; history = h }

abbrev pub tau_of : TauCanceller → List Float → List Float → List Float → List Float → Engine
tau_of s sh ou xs ps = record { state = s; shadow = sh; output = ou; spectra = xs; powers = ps }

-- Numbers and their patterns name no lifetime: what a function over Float asks (Gives, below) always holds at f64 and at f32.
abbrev pub AsksNothing : Type 0
AsksNothing = (κs : Lfts 2) → AllWithin 2 κs (builtin.f64.lives, (builtin.u64.lives, tt)) × AllWithin 2 κs (builtin.f32.lives, (builtin.u32.lives, tt))

-- in the prover's logic, over any heap, memory and run
module _ {M : Type 1} {𝓤 : Ura M} (𝓛 : Logic 𝓤) (mem : Memory → SProp 𝓤) (run : Routine → Fun 𝓤) where
  -- the contract c asks for nothing and ensures p
  abbrev pub Says : (T : Ended) → Clauses 𝓤 T → Saying T → Type 2
  Says T c p = c ≡ (λ κs a. record { ghost = Unit {0}; requires = λ _. emp 𝓤; ensures = λ _ r e. fact 𝓤 (p κs a r e) })

  -- the same of a trait's method, where the trait asks for a fact that always holds
  abbrev pub SaysByTrait : (T : Ended) → Clauses 𝓤 T → Saying T → Type 2
  SaysByTrait T c p = c ≡ (λ κs a. record { ghost = Unit {0}; requires = λ _. fact 𝓤 (Unit {0}); ensures = λ _ r e. fact 𝓤 (p κs a r e) })

  -- p and q
  abbrev pub SaysBoth : (T : Ended) → Clauses 𝓤 T → Saying T → Saying T → Type 2
  SaysBoth T c p q =
      c ≡ (λ κs a. record {
        ghost = Unit {0};
        requires = λ _. emp 𝓤;
        ensures = λ _ r e. sep 𝓤 (fact 𝓤 (p κs a r e)) (fact 𝓤 (q κs a r e));
      })

  -- the contract c of a function over types ensures p, and asks only that the call's lifetimes lie within ℓs, those that the types name
  abbrev pub Gives : (T : Ended) → Lfts T.signature.lifetimes → Clauses 𝓤 T → Saying T → Type 2
  Gives T ℓs c p =
      c ≡ (λ κs a. record { ghost = Unit {0}; requires = λ _. insides 𝓤 T.signature.lifetimes κs ℓs (emp 𝓤); ensures = λ _ r e. fact 𝓤 (p κs a r e) })

  -- numbers, narrow_list; of a function over the trait Float, its method at each width
  abbrev pub Numbers : Type 2
  Numbers =
      Says f64.abs.ended (f64.abs.clauses 𝓛 mem run) (λ _ (x, _) r _. Abs x r)
      × Says f32.abs.ended (f32.abs.clauses 𝓛 mem run) (λ _ (x, _) r _. Abs x r)
      × Says numbers.abs32.ended (numbers.abs32.clauses 𝓛 mem run) (λ _ (x, _) r _. Abs x r)
      × Says numbers.min.ended (numbers.min.clauses 𝓛 mem run) (λ _ (x, (y, _)) r _. Min x y r)
      × Says f64.max.ended (f64.max.clauses 𝓛 mem run) (λ _ (x, (y, _)) r _. Max x y r)
      × Says f32.max.ended (f32.max.clauses 𝓛 mem run) (λ _ (x, (y, _)) r _. Max x y r)
      × Says numbers.max32.ended (numbers.max32.clauses 𝓛 mem run) (λ _ (x, (y, _)) r _. Max x y r)
      × Says numbers.clamp.ended (numbers.clamp.clauses 𝓛 mem run) (λ _ (x, (lo, (hi, _))) r _. Clamp x lo hi r)
      × Says numbers.lesser.ended (numbers.lesser.clauses 𝓛 mem run) (λ _ (a, (b, _)) r _. Lesser a b r)
      × Says f64.is_finite.ended (f64.is_finite.clauses 𝓛 mem run) (λ _ (x, _) r _. IsFinite x r)
      × Says f32.is_finite.ended (f32.is_finite.clauses 𝓛 mem run) (λ _ (x, _) r _. IsFinite x r)
      × Says numbers.is_finite32.ended (numbers.is_finite32.clauses 𝓛 mem run) (λ _ (x, _) r _. IsFinite x r)
      × Says numbers.finite_or_zero.ended (numbers.finite_or_zero.clauses 𝓛 mem run) (λ _ (x, _) r _. FiniteOrZero x r)
      × Says numbers.widen.ended (numbers.widen.clauses 𝓛 mem run) (λ _ (x, _) r _. Widen x r)
      × Says numbers.narrow.ended (numbers.narrow.clauses 𝓛 mem run) (λ _ (x, _) r _. Narrow x r)
      × Says numbers.narrow_bits.ended (numbers.narrow_bits.clauses 𝓛 mem run) (λ _ (x, _) r _. NarrowBits x r)
      × Says numbers.narrow_told.ended (numbers.narrow_told.clauses 𝓛 mem run) (λ _ (x, _) r _. NarrowTold x r)
      × Says kind.from.ended (kind.from.clauses 𝓛 mem run) (λ _ (kind, _) r _. KindNumber kind r)
      × Says numbers.is_plain.ended (numbers.is_plain.clauses 𝓛 mem run) (λ _ (x, _) r _. IsPlain x r)
      × Says numbers.plain_squares.ended (numbers.plain_squares.clauses 𝓛 mem run) (λ _ (least, (most, _)) r _. PlainSquares least most r)
      × Says numbers.rounded.ended (numbers.rounded.clauses 𝓛 mem run) (λ _ (x, _) r _. Rounded x r)
      × Says f64.from_bits.ended (f64.from_bits.clauses 𝓛 mem run) (λ _ (b, _) r _. FromBits b r)
      × Says f32.from_bits.ended (f32.from_bits.clauses 𝓛 mem run) (λ _ (b, _) r _. FromBits32 b r)
      × Says numbers.from_bits32.ended (numbers.from_bits32.clauses 𝓛 mem run) (λ _ (b, _) r _. FromBits32 b r)
      × Says f64.to_bits.ended (f64.to_bits.clauses 𝓛 mem run) (λ _ (x, _) r _. ToBits x r)
      × Says f32.to_bits.ended (f32.to_bits.clauses 𝓛 mem run) (λ _ (x, _) r _. ToBits32 x r)
      × Says numbers.to_bits32.ended (numbers.to_bits32.clauses 𝓛 mem run) (λ _ (x, _) r _. ToBits32 x r)
      × Says narrow_list.narrow_into.ended (narrow_list.narrow_into.clauses 𝓛 mem run)
      (λ _ (xs, (out, _)) r (_, (out', _)). NarrowInto xs.now out.now r out'.now)
      × Says narrow_list.overs_scaled.ended (narrow_list.overs_scaled.clauses 𝓛 mem run) (λ _ (xs, (scale, _)) r _. OversScaled xs.now scale r)

  -- the functions of numbers over the trait Float, of a type F with patterns B
  abbrev pub AnyWidth : Type 2
  AnyWidth =
      (F B : RattleType) (width : float.Ghosts F.Denot B.Denot) (d : Dict) (copy : clone.Ghosts F.Denot) (e : Dict)
      → Gives (numbers.is_finite.ended F B width d copy e) (F.lives, (B.lives, tt)) (numbers.is_finite.clauses F B width d copy e 𝓛 mem run)
      (λ _ (x, _) r _. IsFinite (width.float x) r)
      × Gives (numbers.abs.ended F B width d copy e) (F.lives, (B.lives, tt)) (numbers.abs.clauses F B width d copy e 𝓛 mem run)
      (λ _ (x, _) r _. Abs (width.float x) (width.float r))
      × Gives (numbers.max.ended F B width d copy e) (F.lives, (B.lives, tt)) (numbers.max.clauses F B width d copy e 𝓛 mem run)
      (λ _ (x, (y, _)) r _. Max (width.float x) (width.float y) (width.float r))
      × Gives (numbers.from_bits.ended F B width d copy e) (F.lives, (B.lives, tt)) (numbers.from_bits.clauses F B width d copy e 𝓛 mem run)
      (λ _ (b, _) r _. width.float r ≡ from_bits width.format (width.pattern b))
      × Gives (numbers.to_bits.ended F B width d copy e) (F.lives, (B.lives, tt)) (numbers.to_bits.clauses F B width d copy e 𝓛 mem run)
      (λ _ (x, _) r _. width.pattern r ≡ to_bits width.format (width.float x))

  -- trig, and the two tables
  abbrev pub Tables : Type 2
  Tables =
      Says trig.det_sin.ended (trig.det_sin.clauses 𝓛 mem run) (λ _ (x, _) r _. DetSin x r)
      × Says trig.det_cos.ended (trig.det_cos.clauses 𝓛 mem run) (λ _ (x, _) r _. DetCos x r)
      × Says trig.recombination.ended (trig.recombination.clauses 𝓛 mem run) (λ _ _ r _. Recombination r)
      × Says complex_fft.reversal_table.ended (complex_fft.reversal_table.clauses 𝓛 mem run) (λ _ _ r _. ReversalTable r)

  -- the complex number
  abbrev pub Complexes : Type 2
  Complexes =
      Says complex.new.ended (complex.new.clauses 𝓛 mem run) (λ _ (re, (im, _)) r _. New re im r)
      × Says complex.conj.ended (complex.conj.clauses 𝓛 mem run) (λ _ (z, _) r _. Conj z r)
      × SaysByTrait complex_add.add.ended (complex_add.add.clauses 𝓛 mem run) (λ _ (a, (b, _)) r _. Add a b r)
      × SaysByTrait complex_sub.sub.ended (complex_sub.sub.clauses 𝓛 mem run) (λ _ (a, (b, _)) r _. Sub a b r)
      × SaysByTrait complex_mul.mul.ended (complex_mul.mul.clauses 𝓛 mem run) (λ _ (a, (b, _)) r _. Mul a b r)
      × Says complex.add.ended (complex.add.clauses 𝓛 mem run) (λ _ (a, (b, _)) r _. Add a b r)
      × Says complex.sub.ended (complex.sub.clauses 𝓛 mem run) (λ _ (a, (b, _)) r _. Sub a b r)
      × Says complex.mul.ended (complex.mul.clauses 𝓛 mem run) (λ _ (a, (b, _)) r _. Mul a b r)
      × Says complex.scale.ended (complex.scale.clauses 𝓛 mem run) (λ _ (z, (factor, _)) r _. Scale z factor r)
      × Says complex_fft.butterfly.ended (complex_fft.butterfly.clauses 𝓛 mem run)
      (λ _ (u, (v, (twiddle, _))) r _. Butterfly u v twiddle r)

  -- the transform, of x into out; t is the lent table and s the lent scratch
  abbrev pub Transforms : Type 2
  Transforms =
      Says complex_fft.complex_forward.ended (complex_fft.complex_forward.clauses 𝓛 mem run)
      (λ _ (x, _) r (x', _). ComplexForward x.now (number_in r) x'.now)
      × Says complex_fft.complex_inverse.ended (complex_fft.complex_inverse.clauses 𝓛 mem run)
      (λ _ (x, _) r (x', _). ComplexInverse x.now (number_in r) x'.now)
      × Says fft.forward.ended (fft.forward.clauses 𝓛 mem run)
      (λ _ (x, (out, _)) r (_, (out', _)). Forward x.now out.now (number_in r) out'.now)
      × Says fft.inverse.ended (fft.inverse.clauses 𝓛 mem run)
      (λ _ (x, (out, _)) r (_, (out', _)). Inverse x.now out.now (inverted_of r) out'.now)
      × SaysBoth fft.forward_with.ended (fft.forward_with.clauses 𝓛 mem run)
      (λ _ (t, (s, (x, (out, _)))) r (_, (_, (_, (out', _)))). ForwardWith t.now s.now x.now out.now (number_in r) out'.now)
      (λ _ (t, (s, (x, (out, _)))) r (_, (s', _)). RefusedKeeps s.now (number_in r) s'.now)
      × SaysBoth fft.inverse_with.ended (fft.inverse_with.clauses 𝓛 mem run)
      (λ _ (t, (s, (x, (out, _)))) r (_, (_, (_, (out', _)))). InverseWith t.now s.now x.now out.now (inverted_of r) out'.now)
      (λ _ (t, (s, (x, (out, _)))) r (_, (s', _)). RefusedKeeps s.now (number_in r) s'.now)
      × SaysBoth fft.inverse_half_with.ended (fft.inverse_half_with.clauses 𝓛 mem run)
      (λ _ (t, (s, (x, (later, (out, _))))) r (_, (_, (_, (_, (out', _))))). InverseHalfWith t.now s.now x.now later out.now (inverted_of r) out'.now)
      (λ _ (t, (s, (x, (later, (out, _))))) r (_, (s', _)). RefusedKeeps s.now (number_in r) s'.now)

  -- RhoCanceller: w is the weights and h the history
  abbrev pub Rho : Type 2
  Rho =
      Says rho.create.ended (rho.create.clauses 𝓛 mem run)
      (λ _ (rate, (tail, (w, (h, _)))) r (_, (_, (w', (h', _)))). rho_promises.Create rate tail w.now h.now (started_of r) w'.now h'.now)
      × Says rho.process.ended (rho.process.clauses 𝓛 mem run)
      (λ _ (s, (w, (h, (near, (far, (out, _)))))) r (s', (w', (h', (_, (_, (out', _)))))). rho_promises.Process (rho_of s.now w.now h.now) near.now far.now out.now (answered_of r s'.now) w'.now h'.now out'.now)
      × Says rho.flush.ended (rho.flush.clauses 𝓛 mem run) (λ _ (s, (w, (h, _))) r _. rho_promises.Flush (rho_of s.now w.now h.now) (answered_of r s.now))
      × Says rho.reset.ended (rho.reset.clauses 𝓛 mem run)
      (λ _ (s, (w, (h, _))) r (s', (w', (h', _))). rho_promises.Reset (rho_of s.now w.now h.now) (record { refusal = number_in r; state = s'.now }) w'.now h'.now)

  -- TauCanceller: sh is the shadow, ou the output, xs the spectra and ps their powers
  abbrev pub Tau : Type 2
  Tau =
      Says tau.create.ended (tau.create.clauses 𝓛 mem run)
      (λ _ (parts, (flag, (sh, (ou, (xs, (ps, _)))))) r (_, (_, (sh', (ou', (xs', (ps', _)))))). tau_promises.Create parts flag sh.now ou.now xs.now ps.now r sh'.now ou'.now xs'.now ps'.now)
      × Says tau.process.ended (tau.process.clauses 𝓛 mem run)
      (λ _ (s, (sh, (ou, (xs, (ps, (near, (far, (out, _)))))))) r (_, (sh', (ou', (xs', (ps', (_, (_, (out', _)))))))). tau_promises.Process (tau_of s sh.now ou.now xs.now ps.now) near.now far.now out.now r sh'.now ou'.now xs'.now ps'.now out'.now)
      × Says tau.flush.ended (tau.flush.clauses 𝓛 mem run)
      (λ _ (s, (sh, (ou, (xs, (ps, (out, _)))))) r (_, (sh', (ou', (xs', (ps', (out', _)))))). tau_promises.Flush (tau_of s sh.now ou.now xs.now ps.now) out.now r sh'.now ou'.now xs'.now ps'.now out'.now)
      × Says tau.reset.ended (tau.reset.clauses 𝓛 mem run)
      (λ _ (s, (sh, (ou, (xs, (ps, _))))) r (_, (sh', (ou', (xs', (ps', _))))). tau_promises.Reset (tau_of s sh.now ou.now xs.now ps.now) r sh'.now ou'.now xs'.now ps'.now)

  -- capi
  abbrev pub Hosts : Type 2
  Hosts =
      (capi.aspeyruni_narrow.clauses 𝓛 mem run ≡ numbers.narrow.clauses 𝓛 mem run)
      × (capi.aspeyruni_narrow_bits.clauses 𝓛 mem run ≡ numbers.narrow_bits.clauses 𝓛 mem run)
      × Says capi.aspeyruni_narrow_kind.ended (capi.aspeyruni_narrow_kind.clauses 𝓛 mem run) (λ _ (x, _) r _. NarrowKind x r)
      × (capi.aspeyruni_narrow_list.clauses 𝓛 mem run ≡ narrow_list.narrow_into.clauses 𝓛 mem run)
      × Says capi.aspeyruni_forward.ended (capi.aspeyruni_forward.clauses 𝓛 mem run)
      (λ _ (x, (out, _)) r (_, (out', _)). Forward x.now out.now r out'.now)
      × Says capi.aspeyruni_inverse.ended (capi.aspeyruni_inverse.clauses 𝓛 mem run)
      (λ _ (x, (out, _)) r (_, (out', _)). Inverse x.now out.now r out'.now)
      × Says capi.aspeyruni_complex_forward.ended (capi.aspeyruni_complex_forward.clauses 𝓛 mem run)
      (λ _ (x, _) r (x', _). ComplexForward x.now r x'.now)
      × Says capi.aspeyruni_complex_inverse.ended (capi.aspeyruni_complex_inverse.clauses 𝓛 mem run)
      (λ _ (x, _) r (x', _). ComplexInverse x.now r x'.now)
      × Says capi.aspeyruni_rho_create.ended (capi.aspeyruni_rho_create.clauses 𝓛 mem run)
      (λ _ (rate, (tail, (w, (h, _)))) r (_, (_, (w', (h', _)))). rho_promises.Create rate tail w.now h.now r w'.now h'.now)
      × Says capi.aspeyruni_rho_process.ended (capi.aspeyruni_rho_process.clauses 𝓛 mem run)
      (λ _ (s, (w, (h, (near, (far, (out, _)))))) r (_, (w', (h', (_, (_, (out', _)))))). rho_promises.Process (rho_of s w.now h.now) near.now far.now out.now r w'.now h'.now out'.now)
      × Says capi.aspeyruni_rho_flush.ended (capi.aspeyruni_rho_flush.clauses 𝓛 mem run) (λ _ (s, (w, (h, _))) r _. rho_promises.Flush (rho_of s w.now h.now) r)
      × Says capi.aspeyruni_rho_reset.ended (capi.aspeyruni_rho_reset.clauses 𝓛 mem run)
      (λ _ (s, (w, (h, _))) r (_, (w', (h', _))). rho_promises.Reset (rho_of s w.now h.now) r w'.now h'.now)
      × (capi.aspeyruni_tau_create.clauses 𝓛 mem run ≡ tau.create.clauses 𝓛 mem run)
      × Says capi.aspeyruni_tau_process.ended (capi.aspeyruni_tau_process.clauses 𝓛 mem run)
      (λ _ (s, (sh, (ou, (xs, (ps, (near, (far, (out, _)))))))) r (_, (sh', (ou', (xs', (ps', (_, (_, (out', _)))))))). TauProcess (tau_of s sh.now ou.now xs.now ps.now) near.now far.now out.now r sh'.now ou'.now xs'.now ps'.now out'.now)
      × Says capi.aspeyruni_tau_flush.ended (capi.aspeyruni_tau_flush.clauses 𝓛 mem run)
      (λ _ (s, (sh, (ou, (xs, (ps, (out, _)))))) r (_, (sh', (ou', (xs', (ps', (out', _)))))). TauFlush (tau_of s sh.now ou.now xs.now ps.now) out.now r sh'.now ou'.now xs'.now ps'.now out'.now)
      × (capi.aspeyruni_tau_reset.clauses 𝓛 mem run ≡ tau.reset.clauses 𝓛 mem run)
      × Says capi.aspeyruni_record_read.ended (capi.aspeyruni_record_read.clauses 𝓛 mem run) (λ _ (bytes, _) r _. RecordRead bytes.now r)
      × Says capi.aspeyruni_record_write.ended (capi.aspeyruni_record_write.clauses 𝓛 mem run)
      (λ _ (kind, (payload, (out, _))) r (_, (_, (out', _))). Write kind payload.now out.now r out'.now)

  -- wire, capture
  abbrev pub Bytes : Type 2
  Bytes =
      Says wire.whole_pairs.ended (wire.whole_pairs.clauses 𝓛 mem run) (λ _ (bytes, _) r _. WholePairs bytes.now r)
      × Says wire.read_near.ended (wire.read_near.clauses 𝓛 mem run)
      (λ _ (bytes, (near, _)) r (_, (near', _)). ReadNear bytes.now near.now near'.now)
      × Says wire.read_far.ended (wire.read_far.clauses 𝓛 mem run)
      (λ _ (bytes, (far, _)) r (_, (far', _)). ReadFar bytes.now far.now far'.now)
      × Says wire.keep_rest.ended (wire.keep_rest.clauses 𝓛 mem run)
      (λ _ (held, (block, _)) r (_, (block', _)). KeepRest held block.now block'.now)
      × Says wire.write_samples.ended (wire.write_samples.clauses 𝓛 mem run)
      (λ _ (samples, (bytes, _)) r (_, (bytes', _)). WriteSamples samples.now bytes.now bytes'.now)
      × Says capture.feed.ended (capture.feed.clauses 𝓛 mem run)
      (λ _ (s, (sh, (ou, (xs, (ps, (held, (bytes, _))))))) r (_, (sh', (ou', (xs', (ps', (_, (bytes', _))))))). Feed (tau_of s sh.now ou.now xs.now ps.now) held.now bytes.now r sh'.now ou'.now xs'.now ps'.now bytes'.now)
      × Says capture.finish.ended (capture.finish.clauses 𝓛 mem run)
      (λ _ (s, (sh, (ou, (xs, (ps, (bytes, _)))))) r (_, (sh', (ou', (xs', (ps', (bytes', _)))))). Finish (tau_of s sh.now ou.now xs.now ps.now) bytes.now r sh'.now ou'.now xs'.now ps'.now bytes'.now)

  -- record, of which the payload is a part of the bytes; recorded
  abbrev pub Records : Type 2
  Records =
      Says records.read.ended (records.read.clauses 𝓛 mem run) (λ _ (bytes, _) r _. Read bytes.now (found_of r))
      × Says records.payload.ended (records.payload.clauses 𝓛 mem run) (λ _ (bytes, _) r _. Payload bytes.now r.now)
      × Says records.write.ended (records.write.clauses 𝓛 mem run)
      (λ _ (kind, (payload, (out, _))) r (_, (_, (out', _))). Write kind payload.now out.now (written_of r) out'.now)
      × Says recorded.feed.ended (recorded.feed.clauses 𝓛 mem run)
      (λ _ (s, (sh, (ou, (xs, (ps, (pairs, (out, _))))))) r (_, (sh', (ou', (xs', (ps', (_, (out', _))))))). recorded_promises.Feed (tau_of s sh.now ou.now xs.now ps.now) pairs.now out.now (recorded_of s r) sh'.now ou'.now xs'.now ps'.now out'.now)
      × Says recorded.finish.ended (recorded.finish.clauses 𝓛 mem run)
      (λ _ (s, (sh, (ou, (xs, (ps, (out, _)))))) r (_, (sh', (ou', (xs', (ps', (out', _)))))). recorded_promises.Finish (tau_of s sh.now ou.now xs.now ps.now) out.now (recorded_of s r) sh'.now ou'.now xs'.now ps'.now out'.now)

  -- the release list
  abbrev pub Lists : Type 2
  Lists =
      Says line_order.at_most.ended (line_order.at_most.clauses 𝓛 mem run) (λ _ (a, (b, _)) r _. AtMost a.now b.now r)
      × Says manifest.sort.ended (manifest.sort.clauses 𝓛 mem run)
      (λ _ (text, (out, _)) r (_, (out', _)). Sort text.now out.now (sorted_by r) out'.now)
