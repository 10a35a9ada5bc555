-- From what the framing left to what a call leaves. Assumes nothing.
--     served-is        the delivered samples in the output buffer's first places, the rest as it was
--     served-waits     of pairs that fill no block
use mathlib.Core.Path.{◌≡◌}
use mathlib.Core.List.{List}
use Prim.Native.Nat.{ℕ, ◌+◌, ◌≤◌}
use lib.Ieee.{Float}
use lib.ListN.{length, take, drop, take-append-drop}
use lib.Seq.{length-take-le}
use Rattle.tau_state.specs.declared.report.Last.{Last}
use Rattle.tau_state.specs.declared.report.Last.TheVariants.{NoneRan}
use Rattle.tau_frame.specs.Pairs.{Engine, Run, pairs_of}
use Rattle.tau_frame.proofs.Waits.{waiting, wait-is}
use Rattle.tau.specs.declared.calls.Answer.{Answer}
use Rattle.tau.specs.Calls.{Called, answer_of, served_of}

pub served-is : (e : Engine) (d : ℕ) (last : Last) (out out₀ : List Float) (r : Run) → ◌≡◌ {A = Run} (record { engine = e; samples = take d out; last = last }) r
    → drop d out ≡ drop d out₀ → d ≤ length out → (a : Answer) → a ≡ answer_of 0 d e.state last
    → ◌≡◌ {A = Called} (record { answer = a; shadow = e.shadow; output = e.output; spectra = e.spectra; powers = e.powers; out = out }) (served_of r out₀)
served-is e d last out out₀ r er tail room a ea =
    let k : length (take d out) ≡ d = length-take-le d out room in
    rw (← er, ea, k, ← tail, take-append-drop d out)

pub served-waits : (refusal : ℕ) (e : Engine) (near far out : List Float) → refusal ≡ 0 → length near ≡ length far → e.state.carried + length near ≤ 255
    → ◌≡◌ {A = Called} (record {
      answer = answer_of refusal 0 (waiting e near far).state NoneRan;
      shadow = e.shadow;
      output = e.output;
      spectra = e.spectra;
      powers = e.powers;
      out = out;
    })
    (served_of (pairs_of e near far) out)
served-waits refusal e near far out none h room = rw (none, wait-is e near far h room)
