-- What is promised of records and captures, from the laws of crate record. Assumes nothing.
use mathlib.Core.Path.{◌≡◌, refl, sym, ap, ◌∙◌}
use mathlib.Core.Bool.{Bool, true, false, ◌&&◌}
use mathlib.Core.List.{List, [], ◌++◌, append-nil}
use Prim.Native.Nat.{ℕ, ◌+◌}
use native.Mathlib.Nat.{add-zero}
use native.Mathlib.Omega.{arith}
use borrow.Author.Tests.{ne_eqb}
use lib.Dec.{eqb, leb}
use lib.ListN.{length, drop}
use Rattle.laws.specs.Choice.{pick}
use Rattle.record.specs.Record.{fits_of}
use Rattle.record.specs.Reading.{header_refusal, read_refusal, read_of, payload_of}
use Rattle.record.specs.Writing.{write_refusal}
use Rattle.record.specs.Capture.{Record, Capture, joined_of, capture_of}
use Rattle.record.proofs.Records.{nothing_of, unwritten_of, read-refusal, read-yes, read_no, payload-yes, payload-no, write-refusal, write-yes, write-fits, write-no}
use Rattle.record.proofs.Records.{record-read, record-payload, payload-fits, payload-size, bytes-again}
use Rattle.record.proofs.Captures.{capture-none, capture-joined, capture-parts}
use Rattle.capi.proofs.Record.{payload-placed}
use Rattle.promises.specs.Demand1.{first_of}
use Rattle.promises.specs.Records.{KindsFit, ReadRefuses, ReadGives, ReadRefused, PayloadPlaced, WriteRefuses, WriteGives, WriteRefused, WrittenReads, ReadWrites, JoinedReads, JoinedAlone, CaptureReads}

never : (b : Bool) → (b && false) ≡ false
never true = refl
never false = refl

pub kinds-fit : KindsFit
unfolding fits_of pick
kinds-fit n = (
  refl,
  refl,
  refl,
  refl,
  never (leb n 4096),
  λ kind h.
      let a = ne_eqb kind 1 (λ e. absurd (omega arith)) in
      let b = ne_eqb kind 2 (λ e. absurd (omega arith)) in
      let c = ne_eqb kind 3 (λ e. absurd (omega arith)) in
      let d = ne_eqb kind 4 (λ e. absurd (omega arith)) in
      rw (a, b, c, d) (never (leb n 4096)),
)

-- a first refusal, and then what comes after it
then_is : (a b c : Bool) (x : ℕ) → pick (eqb (pick a (pick b (pick c 0 8) 7) 9) 0) x (pick a (pick b (pick c 0 8) 7) 9) ≡ pick a (pick b (pick c x 8) 7) 9
unfolding pick
then_is true true true x = refl
then_is true true false x = refl
then_is true false c x = refl
then_is false b c x = refl

pub read-refuses : ReadRefuses
unfolding first_of read_refusal header_refusal
read-refuses s = read-refusal s ∙ then_is _ _ _ _

pub read-gives : ReadGives
read-gives s h = let k = sym (read-refusal s) ∙ h in (read-yes s k, payload-yes s k)

pub read-refused : ReadRefused
read-refused s h =
    let no : read_refusal s ≡ 0 → ⊥ = λ e. h (read-refusal s ∙ e) in
    (read_no s no ∙ ap nothing_of (sym (read-refusal s)), payload-no s no)

pub placed : PayloadPlaced
placed = payload-placed

pub write-refuses : WriteRefuses
unfolding first_of write_refusal
write-refuses kind payload out = write-refusal kind payload out

pub write-gives : WriteGives
write-gives kind payload out h = write-yes kind payload out (sym (write-refusal kind payload out) ∙ h)

pub write-refused : WriteRefused
write-refused kind payload out h =
    let e = write-refusal kind payload out in
    write-no kind payload out (λ n. h (e ∙ n)) ∙ ap (λ (n : ℕ). unwritten_of n out) (sym e)

pub written-reads : WrittenReads
written-reads kind payload behind h = (record-read kind payload behind h, record-payload kind payload behind h)

pub read-writes : ReadWrites
read-writes s out b h room =
    let k : read_refusal s ≡ 0 = sym (read-refusal s) ∙ h in
    let size : (read_of s).size ≡ 6 + length (payload_of s) = payload-size s k in
    write-fits (read_of s).kind (payload_of s) out (payload-fits s k) (omega (arith, size, room))
    ∙ rw (← size) (ap (λ (l : List ℕ). record { refusal = 0; written = (read_of s).size; out = l ++ drop (read_of s).size out }) (bytes-again s k b))

pub joined-reads : JoinedReads
joined-reads rs s h = capture-joined rs s h

pub joined-alone : JoinedAlone
joined-alone rs h =
    let e = capture-joined rs [] h in
    ap capture_of (sym (append-nil (joined_of rs)))
    ∙ e
    ∙ ap (λ (c : Capture). record { records = rs ++ c.records; refusal = c.refusal; place = length (joined_of rs) + c.place }) capture-none
    ∙ ap (λ (l : List Record). record { records = l; refusal = 0; place = length (joined_of rs) + 0 }) (append-nil rs)
    ∙ ap (λ (n : ℕ). record { records = rs; refusal = 0; place = n }) (add-zero (length (joined_of rs)))

pub capture-reads : CaptureReads
capture-reads s b =
    let p = capture-parts s b in
    (p.fits, p.bytes, p.whole, λ h. let r = p.refused h in (r.0, read-refusal (drop (capture_of s).place s) ∙ r.1))
