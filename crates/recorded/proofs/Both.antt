-- Two records written one behind the other. Assumes nothing.
--     both-length          how many bytes two records take up
--     is-taken             a record that fits and has room is written
--     as_wrote             and its answer, as the definition has it
--     first_ends           the first ends within the buffer
--     wrote-both           what both leave: how many bytes they take up, and the buffer
use mathlib.Core.Path.{◌≡◌, refl, sym, ap, subst, ◌∙◌}
use mathlib.Core.Bool.{true}
use mathlib.Core.List.{List, [], ◌++◌, append_assoc, append-nil}
use Prim.Native.Nat.{ℕ, ◌+◌, ◌-◌, ◌≤◌}
use native.Mathlib.Omega.{arith}
use borrow.Author.Rules.{part_to_end}
use borrow.Rule.Slice.PartMut.{post_of, put_mid, Post-is}
use lib.ListN.{length, take, drop, length-append, length-drop}
use lib.Seq.{drop-length, take_at, drop_at, drop-drop}
use Rattle.std.specs.Prelude.{Result, Ok, IsOk}
use Rattle.refusal.specs.declared.Refusal.{Refusal}
use Rattle.record.specs.Answers.{written_of}
use Rattle.record.specs.Promises.{Write}
use Rattle.record.specs.Record.{fits_of, record_of}
use Rattle.record.specs.Writing.{Wrote, write_of}
use Rattle.record.proofs.Records.{write-fits, written-ok}
use Rattle.recorded.specs.Recorded.{both_of}

module _ (kind : ℕ) (payload out : List ℕ) (r : Result ℕ Refusal) {after : List ℕ} (h : Write kind payload out (written_of r) after) where
  pub is-taken : fits_of kind (length payload) ≡ true → 6 + length payload ≤ length out → IsOk r
  is-taken fits room =
      rw (written-ok r (6 + length payload) (ap (λ (w : Wrote). record { refusal = w.refusal; written = w.written }) (h ∙ write-fits kind payload out fits room))) refl

  pub as_wrote : {n : ℕ} → r ≡ Ok n → record { refusal = 0; written = n; out = after } ≡ write_of kind payload out
  as_wrote e = subst (λ (t : Result ℕ Refusal). Write kind payload out (written_of t) after) e h

pub both-length : (kind : ℕ) (payload delivered : List ℕ) → length (both_of kind payload delivered) ≡ 12 + length payload + length delivered
both-length kind payload delivered = length-append (record_of kind payload) (record_of 2 delivered) ∙ omega arith

module _ (kind : ℕ) (payload delivered out : List ℕ) (fits : (fits_of kind (length payload) ≡ true) × (fits_of 2 (length delivered) ≡ true))
    (room : length (both_of kind payload delivered) ≤ length out) (first : Wrote) (h : first ≡ write_of kind payload out) where
  first-room : 6 + length payload ≤ length out
  first-room = let l = both-length kind payload delivered in omega (arith, l)

  first-left : first ≡ record { refusal = 0; written = 6 + length payload; out = record_of kind payload ++ drop (6 + length payload) out }
  first-left = h ∙ write-fits kind payload out fits.0 first-room

  first-written : first.written ≡ 6 + length payload
  first-written = ap (λ (w : Wrote). w.written) first-left

  first_out : first.out ≡ record_of kind payload ++ drop (6 + length payload) out
  first_out = ap (λ (w : Wrote). w.out) first-left

  first-long : length first.out ≡ length out
  first-long =
      let r = first-room in
      ap length first_out ∙ length-append (record_of kind payload) (drop (6 + length payload) out) ∙ (rw (length-drop (6 + length payload) out) (omega arith))

  pub first_ends : first.written ≤ length first.out
  first_ends = let w = first-written in let l = first-long in let r = first-room in omega (arith, w, l, r)

  -- what lies behind the first
  behind-first : take (length first.out - first.written) (drop first.written first.out) ≡ drop (6 + length payload) out
  behind-first =
      part_to_end first.out first.written
      ∙ (λ i. drop (first-written i) (first_out i))
      ∙ drop_at (record_of kind payload) (drop (6 + length payload) out) (6 + length payload) (omega arith)

  second-room : 6 + length delivered ≤ length (drop (6 + length payload) out)
  second-room = let l = both-length kind payload delivered in rw (length-drop (6 + length payload) out) (omega (arith, l))

  -- what lies behind the first has room for the second
  pub second-space : 6 + length delivered ≤ length (take (length first.out - first.written) (drop first.written first.out))
  second-space = rw behind-first second-room

  module _ (second : Wrote) (g : second ≡ write_of 2 delivered (take (length first.out - first.written) (drop first.written first.out))) where
    second-left : second ≡ record { refusal = 0; written = 6 + length delivered; out = record_of 2 delivered ++ drop (6 + length delivered) (drop (6 + length payload) out) }
    second-left = g ∙ ap (write_of 2 delivered) behind-first ∙ write-fits 2 delivered (drop (6 + length payload) out) fits.1 second-room

    both-written : first.written + second.written ≡ length (both_of kind payload delivered)
    both-written =
        let a = first-written in
        let b = ap (λ (w : Wrote). w.written) second-left in
        let l = both-length kind payload delivered in
        omega (arith, a, b, l)

    both_out : put_mid first.written (length first.out - first.written) first.out second.out
        ≡ both_of kind payload delivered ++ drop (first.written + second.written) out
    both_out =
        let a = first-written in
        let b = ap (λ (w : Wrote). w.written) second-left in
        let n : 6 + length payload + (6 + length delivered) ≡ first.written + second.written = omega (arith, a, b) in
        let front : take first.written first.out ≡ record_of kind payload =
        (λ i. take (a i) (first_out i)) ∙ take_at (record_of kind payload) (drop (6 + length payload) out) (6 + length payload) (omega arith) in
        let behind : second.out ≡ record_of 2 delivered ++ drop (first.written + second.written) out =
        ap (λ (w : Wrote). w.out) second-left
        ∙ ap (λ (x : List ℕ). record_of 2 delivered ++ x) (drop-drop (6 + length delivered) (6 + length payload) out)
        ∙ ap (λ (k : ℕ). record_of 2 delivered ++ drop k out) n in
        let last : post_of first.written (length first.out - first.written) first.out ≡ [] =
        Post-is first.written (length first.out) first.out first_ends ∙ drop-length first.out in
        (λ i. front i ++ (behind i ++ last i))
        ∙ ap (λ (x : List ℕ). record_of kind payload ++ x) (append-nil (record_of 2 delivered ++ drop (first.written + second.written) out))
        ∙ sym (append_assoc (record_of kind payload) (record_of 2 delivered) (drop (first.written + second.written) out))

    pub wrote-both : (first.written + second.written ≡ length (both_of kind payload delivered))
        × (put_mid first.written (length first.out - first.written) first.out second.out
        ≡ both_of kind payload delivered ++ drop (first.written + second.written) out)
    wrote-both = (both-written, both_out)
