-- A record read, and a record written: the two undo each other. Assumes nothing.
--     read-yes, read_no, read-refusal     what `read_of` gives, by the refusal
--     payload-yes, payload-no             what `payload_of` gives
--     write-yes, write-fits, write-no, write-refusal     what `write_of` gives
--     record-accepted, record-read, record-payload     a record's bytes are read as what it was made of, whatever follows them
--     read-record, bytes-again     an accepted record written again gives its bytes
--     payload-fits, payload-size     its payload fits its kind, and stands behind six bytes
--     some-number, written-ok     a refusal's number is not 0, so who reads 0 and a count has an `Ok`
--     size-most, size-least     an accepted record lies within the bytes, and takes six of them at least
use mathlib.Core.Path.{◌≡◌, refl, sym, ap, ◌∙◌}
use mathlib.Core.Bool.{true}
use mathlib.Core.List.{List, [], ◌∷◌, ◌++◌}
use Prim.Native.Nat.{ℕ, suc, ◌+◌, ◌*◌, ◌/◌, ◌%◌, ◌≤◌}
use native.Mathlib.Omega.{arith}
use borrow.Author.Tests.{eq-eqb, ne_eqb, eqb-true, le-leb}
use lib.Dec.{eqb}
use lib.ListN.{length, take, drop, length-append, length-drop}
use lib.Seq.{length-take-le, take-append_seam}
use Rattle.std.specs.Prelude.{Result, Ok, Err}
use Rattle.refusal.specs.declared.Refusal.{Refusal}
use Rattle.refusal.specs.declared.Refusal.TheVariants.{Settings, WrongLength, UnequalLengths, TooManyPairs, NoRoom, StateOutOfRange, NoMark, BadHeader, CutShort}
use Rattle.refusal.specs.Refusal as refusals
use Rattle.laws.specs.Choice.{pick_yes, pick_no, pick-if}
use Rattle.laws.specs.Kinds.{All}
use Rattle.record.specs.Record.{Byte, fits_of, record_of}
use Rattle.record.specs.Reading.{Found, kind_in, length_in, read_refusal, read_of, payload_of}
use Rattle.record.specs.Writing.{Wrote, write_refusal, write_of}
use Rattle.record.specs.declared.writing.Written.{Written}
use Rattle.record.specs.Answers.{written_of}
use Rattle.record.proofs.Accepted.{Whole, accepted, whole-accepted}

abbrev pub found_of : ℕ → ℕ → Found
found_of kind size = record { refusal = 0; kind = kind; size = size }

abbrev pub nothing_of : ℕ → Found
nothing_of refusal = record { refusal = refusal; kind = 0; size = 0 }

module _ (s : List ℕ) where
  pub read-yes : read_refusal s ≡ 0 → read_of s ≡ found_of (kind_in s) (6 + length_in s)
  unfolding read_of
  read-yes h = sym (pick_yes _ _ _ (eq-eqb (read_refusal s) 0 h) refl)

  pub read_no : (read_refusal s ≡ 0 → ⊥) → read_of s ≡ nothing_of (read_refusal s)
  unfolding read_of
  read_no h = sym (pick_no _ _ _ (ne_eqb (read_refusal s) 0 h) refl)

  pub payload-yes : read_refusal s ≡ 0 → payload_of s ≡ take (length_in s) (drop 6 s)
  unfolding payload_of
  payload-yes h = sym (pick_yes _ _ _ (eq-eqb (read_refusal s) 0 h) refl)

  pub payload-no : (read_refusal s ≡ 0 → ⊥) → payload_of s ≡ []
  unfolding payload_of
  payload-no h = sym (pick_no _ _ _ (ne_eqb (read_refusal s) 0 h) refl)

-- ---- written, then read

low-high : (n : ℕ) → n % 256 + 256 * (n / 256) ≡ n
low-high n = omega arith

module _ (kind : ℕ) (payload behind : List ℕ) (fit : fits_of kind (length payload) ≡ true) where
  abbrev bytes : List ℕ
  bytes = record_of kind payload ++ behind

  says : length_in bytes ≡ length payload
  says = low-high (length payload)

  record-whole : Whole bytes
  record-whole =
      let n = length payload in
      let long : length bytes ≡ 6 + (n + length behind) = ap (λ (k : ℕ). suc (suc (suc (suc (suc (suc k)))))) (length-append payload behind) ∙ omega arith in
      record {
        six = omega (arith, long);
        mark = refl;
        mark2 = refl;
        null = refl;
        fits = ap (fits_of kind) says ∙ fit;
        all = rw (says, long) (omega arith);
      }

  pub record-accepted : read_refusal bytes ≡ 0
  record-accepted = whole-accepted bytes record-whole

  pub record-read : read_of bytes ≡ found_of kind (6 + length payload)
  record-read = read-yes bytes record-accepted ∙ ap (λ (n : ℕ). found_of kind (6 + n)) says

  pub record-payload : payload_of bytes ≡ payload
  record-payload =
      payload-yes bytes record-accepted ∙ ap (λ (n : ℕ). take n (payload ++ behind)) says ∙ take-append_seam payload behind

-- ---- read, then written

-- six bytes and the rest
again : (a b c d e f : ℕ) (l : List ℕ) (n : ℕ) → a ≡ 236 → b ≡ 14 → d ≡ 0 → n ≡ e + 256 * f → Byte e → Byte f → n ≤ length l
    → record_of c (take n l) ≡ take (6 + n) (a ∷ b ∷ c ∷ d ∷ e ∷ f ∷ l)
again a b c d e f l n p q r h i j k =
    let m : length (take n l) ≡ n = length-take-le n l k in
    let low : n % 256 ≡ e = omega arith in
    let high : n / 256 ≡ f = omega arith in
    let six : 6 + n ≡ suc (suc (suc (suc (suc (suc n))))) = omega arith in
    rw (six, m, low, high) (cc)

pub read-record : (s : List ℕ) → All Byte s → read_refusal s ≡ 0 → record_of (kind_in s) (payload_of s) ≡ take (6 + length_in s) s
read-record s h k = ap (record_of (kind_in s)) (payload-yes s k) ∙ go s h (accepted s k)
  where
    go : (s : List ℕ) → All Byte s → Whole s → record_of (kind_in s) (take (length_in s) (drop 6 s)) ≡ take (6 + length_in s) s
    go [] h w = absurd (omega (arith, w.six))
    go (a ∷ []) h w = absurd (omega (arith, w.six))
    go (a ∷ b ∷ []) h w = absurd (omega (arith, w.six))
    go (a ∷ b ∷ c ∷ []) h w = absurd (omega (arith, w.six))
    go (a ∷ b ∷ c ∷ d ∷ []) h w = absurd (omega (arith, w.six))
    go (a ∷ b ∷ c ∷ d ∷ e ∷ []) h w = absurd (omega (arith, w.six))
    go (a ∷ b ∷ c ∷ d ∷ e ∷ f ∷ l) h w =
        again a b c d e f l (e + 256 * f) w.mark w.mark2 w.null refl h.each.1.1.1.1.0 h.each.1.1.1.1.1.0 (omega (arith, w.all))

module _ (s : List ℕ) (h : read_refusal s ≡ 0) where
  pub size-most : (read_of s).size ≤ length s
  size-most = rw (read-yes s h) (accepted s h).all

  pub size-least : 6 ≤ (read_of s).size
  size-least = rw (read-yes s h) (omega arith)

  payload-long : length (take (length_in s) (drop 6 s)) ≡ length_in s
  payload-long = length-take-le (length_in s) (drop 6 s) (rw (length-drop 6 s) (omega (arith, (accepted s h).all)))

  pub payload-fits : fits_of (read_of s).kind (length (payload_of s)) ≡ true
  payload-fits = rw (read-yes s h, payload-yes s h, payload-long) (accepted s h).fits

  pub payload-size : (read_of s).size ≡ 6 + length (payload_of s)
  payload-size = rw (read-yes s h, payload-yes s h, payload-long) refl

  pub bytes-again : All Byte s → record_of (read_of s).kind (payload_of s) ≡ take (read_of s).size s
  bytes-again b = rw (read-yes s h) (read-record s b h)

pub read-refusal : (s : List ℕ) → (read_of s).refusal ≡ read_refusal s
unfolding read_of
read-refusal s = pick-if (λ (r : Found). r.refusal ≡ read_refusal s) (eqb (read_refusal s) 0) (λ e. sym (eqb-true (read_refusal s) 0 e)) (λ e. refl)

-- ---- what the writer gives

abbrev pub wrote_of : ℕ → List ℕ → List ℕ → Wrote
wrote_of kind payload out = record { refusal = 0; written = 6 + length payload; out = record_of kind payload ++ drop (6 + length payload) out }

abbrev pub unwritten_of : ℕ → List ℕ → Wrote
unwritten_of refusal out = record { refusal = refusal; written = 0; out = out }

module _ (kind : ℕ) (payload out : List ℕ) where
  abbrev refusal : ℕ
  refusal = write_refusal kind (length payload) (length out)

  pub write-yes : refusal ≡ 0 → write_of kind payload out ≡ wrote_of kind payload out
  unfolding write_of
  write-yes h = sym (pick_yes _ _ _ (eq-eqb refusal 0 h) refl)

  -- what fits and has room is written
  pub write-fits : fits_of kind (length payload) ≡ true → 6 + length payload ≤ length out → write_of kind payload out ≡ wrote_of kind payload out
  unfolding write_refusal
  write-fits fits room =
      write-yes (sym (pick_yes _ _ _ fits (pick_yes _ _ _ (le-leb (6 + length payload) (length out) room) refl)))

  pub write-no : (refusal ≡ 0 → ⊥) → write_of kind payload out ≡ unwritten_of refusal out
  unfolding write_of
  write-no h = sym (pick_no _ _ _ (ne_eqb refusal 0 h) refl)

  pub write-refusal : (write_of kind payload out).refusal ≡ refusal
  unfolding write_of
  write-refusal = pick-if (λ (r : Wrote). r.refusal ≡ refusal) (eqb refusal 0) (λ e. sym (eqb-true refusal 0 e)) (λ e. refl)

-- ---- the answers by numbers, taken back

pub some-number : (refusal : Refusal) → refusals.number_of refusal ≡ 0 → ⊥
some-number Settings h = absurd (omega (arith, h))
some-number WrongLength h = absurd (omega (arith, h))
some-number UnequalLengths h = absurd (omega (arith, h))
some-number TooManyPairs h = absurd (omega (arith, h))
some-number NoRoom h = absurd (omega (arith, h))
some-number StateOutOfRange h = absurd (omega (arith, h))
some-number NoMark h = absurd (omega (arith, h))
some-number BadHeader h = absurd (omega (arith, h))
some-number CutShort h = absurd (omega (arith, h))

pub written-ok : (r : Result ℕ Refusal) (n : ℕ) → written_of r ≡ record { refusal = 0; written = n } → r ≡ Ok n
written-ok (Ok m) n h = ap (λ (w : Written). Ok w.written) h
written-ok (Err refusal) n h = absurd (some-number refusal (ap (λ (w : Written). w.refusal) h))
