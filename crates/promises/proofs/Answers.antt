-- One lemma, and its instances; and for each reading what reads the answer back. Assumes nothing.
use mathlib.Core.Path.{◌≡◌, refl, sym, ap, ◌∙◌}
use mathlib.Core.HLevel.{is_prop→PathP}
use Rattle.std.proofs.Common.{arith}
use Rattle.std.proofs.Math.Bool.{Bool-set}
use Rattle.std.specs.Prelude.{ℕ, ◌+◌, true, [], ◌∷◌, get_or, Result, Ok, Err}
use Rattle.refusal.specs.declared.Refusal.{Refusal}
use Rattle.refusal.specs.declared.Refusal.TheVariants.{Settings, WrongLength, UnequalLengths, TooManyPairs, NoRoom, StateOutOfRange, NoMark, BadHeader, CutShort}
use Rattle.refusal.specs.Refusal.{number_of, number_in}
use Rattle.fft.specs.Promises.{inverted_of}
use Rattle.rho_state.specs.declared.state.RhoCanceller.{RhoCanceller}
use Rattle.rho_state.specs.State.{empty_of}
use Rattle.rho.specs.Calls.{started_of, answered_of}
use Rattle.record.specs.declared.header.Header.{Header}
use Rattle.record.specs.declared.kind.Kind.{Kind}
use Rattle.record.specs.declared.kind.Kind.TheVariants.{Pairs, Output, Flush, Reset}
use Rattle.record.specs.Kind as kinds
use Rattle.record.specs.Record.{fits_of}
use Rattle.record.specs.Answers.{found_of, written_of}
use Rattle.tau_state.specs.declared.state.TauCanceller.{TauCanceller}
use Rattle.recorded.specs.declared.Recorded as declared
use Rattle.recorded.specs.Recorded.{recorded_of}
use Rattle.manifest.specs.declared.SortError.{SortError}
use Rattle.manifest.specs.declared.SortError.TheVariants as sort_error
use Rattle.manifest.specs.Promises.{sorted_by}
use Rattle.promises.specs.Answers.{One, Numbers, Tables, Complexes, Transforms, Rho, Tau, Hosts, Bytes, Records, Lists, TellsApart, Readings}

-- two that equal d equal each other
one : {A : Type 0} (d : A) → One A (λ r. r ≡ d)
one d r s h k = h ∙ sym k

-- and two pairs whose parts do
pair : {A B : Type 0} (d : A) (e : B) → One (A × B) (λ (r, s). (s ≡ e) × (r ≡ d))
pair {A} {B} d e r s h k = ap (λ (x : A). (x, r.1)) (h.1 ∙ sym k.1) ∙ ap (λ (y : B). (s.0, y)) (h.0 ∙ sym k.0)

pub numbers : Numbers
numbers x y z b m n kind xs out =
    (one _, one _, one _, one _, one _, one _, one _, one _, one _, one _, one _, one _, one _, one _, one _, one _, one _, one _, one _, pair _ _, one _)

pub tables : Tables
tables x = (one _, one _, one _, one _)

pub complexes : Complexes
complexes x y a b c = (one _, one _, one _, one _, one _, one _, one _)

pub transforms : Transforms
transforms x out t s later = (one _, one _, one _, one _, one _, one _, one _, λ a b h k. h refl ∙ sym (k refl))

pub rho : Rho
rho rate tail weights history e near far out = (one _, one _, λ r s h k. ap (λ c. c.answer) (h ∙ sym k), one _)

pub tau : Tau
tau parts flag shadow output spectra powers e near far out = (one _, one _, one _, one _)

pub hosts : Hosts
hosts e near far out bytes x = (one _, one _, one _, one _)

pub bytes : Bytes
bytes s out xs buf n e = (one _, one _, one _, one _, one _, one _, one _)

pub records : Records
records kind s out e = (one _, one _, one _, one _, one _)

pub lists : Lists
lists a b text out = (one _, one _)

-- what is read back from a reading is the answer again
apart : {A B : Type 0} (reading : A → B) (back : B → A) → ((r : A) → back (reading r) ≡ r) → TellsApart A B reading
apart reading back h r s p = sym (h r) ∙ ap back p ∙ h s

-- the answer of this number, with v where nothing is refused
abbrev told : {A : Type 0} → ℕ → A → Result A Refusal
told n v =
    get_or (Ok v ∷ Err Settings ∷ Err WrongLength ∷ Err UnequalLengths ∷ Err TooManyPairs ∷ Err NoRoom ∷ Err StateOutOfRange ∷ Err NoMark ∷ Err BadHeader ∷ []) n (Err CutShort)

told-err : {A : Type 0} (v : A) (e : Refusal) → told (number_of e) v ≡ Err e
told-err v Settings = refl
told-err v WrongLength = refl
told-err v UnequalLengths = refl
told-err v TooManyPairs = refl
told-err v NoRoom = refl
told-err v StateOutOfRange = refl
told-err v NoMark = refl
told-err v BadHeader = refl
told-err v CutShort = refl

number-back : (r : Result (Unit {0}) Refusal) → told (number_in r) tt ≡ r
number-back (Ok v) = refl
number-back (Err e) = told-err tt e

overs-back : (r : Result ℕ Refusal) → told (inverted_of r).refusal (inverted_of r).overs ≡ r
overs-back (Ok n) = refl
overs-back (Err e) = told-err 0 e

started-back : (r : Result RhoCanceller Refusal) → told (started_of r).refusal (started_of r).state ≡ r
started-back (Ok s) = refl
started-back (Err e) = told-err empty_of e

answered-back : (r : Result ℕ Refusal) (s : RhoCanceller)
    → ◌≡◌ {A = Result ℕ Refusal × RhoCanceller} (told (answered_of r s).refusal (answered_of r s).delivered, (answered_of r s).state) (r, s)
answered-back (Ok n) s = refl
answered-back (Err e) s = ap (λ r. (r, s)) (told-err 0 e)

written-back : (r : Result ℕ Refusal) → told (written_of r).refusal (written_of r).written ≡ r
written-back (Ok n) = refl
written-back (Err e) = told-err 0 e

recorded-back : (s : TauCanceller) (r : Result declared.Recorded Refusal)
    → told (recorded_of s r).refusal (record { written = (recorded_of s r).written; state = (recorded_of s r).state }) ≡ r
recorded-back s (Ok r) = refl
recorded-back s (Err e) = told-err _ e

-- a kind by its number
abbrev kind_told : ℕ → Kind
kind_told n = get_or (Pairs ∷ Pairs ∷ Output ∷ Flush ∷ []) n Reset

kind-back : (kind : Kind) → kind_told (kinds.number_of kind) ≡ kind
kind-back Pairs = refl
kind-back Output = refl
kind-back Flush = refl
kind-back Reset = refl

header : (h k : Header) → h.kind ≡ k.kind → h.len ≡ k.len → h ≡ k
header h k a b = λ i. record {
  kind = a i;
  len = b i;
  fits = is_prop→PathP (λ j. fits_of (kinds.number_of (a j)) (b j) ≡ true) (λ j. Bool-set _ _) h.fits k.fits i;
}

-- r, or the refusal
abbrev over : Result Header Refusal → Result (Unit {0}) Refusal → Result Header Refusal
over r (Ok v) = r
over r (Err e) = Err e

found : (r s : Result Header Refusal) → found_of r ≡ found_of s → r ≡ s
found (Ok h) (Ok k) p =
    let size : 6 + h.len ≡ 6 + k.len = ap (λ f. f.size) p in
    let len : h.len ≡ k.len = omega arith in
    ap Ok (header h k (sym (kind-back h.kind) ∙ ap (λ f. kind_told f.kind) p ∙ kind-back k.kind) len)
found (Ok h) (Err e) p = ap (over (Ok h)) (ap (λ f. told f.refusal tt) p ∙ told-err tt e)
found (Err e) (Ok h) p = sym (ap (over (Ok h)) (ap (λ f. told f.refusal tt) (sym p) ∙ told-err tt e))
found (Err e) (Err f) p = ap (over (Err e)) (sym (told-err tt e) ∙ ap (λ g. told g.refusal tt) p ∙ told-err tt f)

abbrev sort_told : ℕ → ℕ → Result ℕ SortError
sort_told k n = get_or (Ok n ∷ Err sort_error.TooLong ∷ Err sort_error.TooManyLines ∷ []) k (Err sort_error.NoRoom)

sorted-back : (r : Result ℕ SortError) → sort_told (sorted_by r).refusal (sorted_by r).written ≡ r
sorted-back (Ok n) = refl
sorted-back (Err sort_error.TooLong) = refl
sorted-back (Err sort_error.TooManyLines) = refl
sorted-back (Err sort_error.NoRoom) = refl

pub readings : Readings
readings before = (
  apart number_in (λ n. told n tt) number-back,
  apart inverted_of (λ i. told i.refusal i.overs) overs-back,
  apart started_of (λ s. told s.refusal s.state) started-back,
  apart (λ (r, s). answered_of r s) (λ a. (told a.refusal a.delivered, a.state)) (λ (r, s). answered-back r s),
  found,
  apart written_of (λ w. told w.refusal w.written) written-back,
  apart (recorded_of before) (λ r. told r.refusal (record { written = r.written; state = r.state })) (recorded-back before),
  apart sorted_by (λ s. sort_told s.refusal s.written) sorted-back,
)
