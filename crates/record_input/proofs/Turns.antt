-- A turn of the loop that reads: a read leaves more to judge or the input's end; and a record that is handed out. Assumes nothing.
--     length-held      how many bytes are held
--     grew             what a read leaves
--     ends-within      a whole record ends within what is held
--     saturates        the place behind a record
--     handed           what is handed out, and what is held then
--     held-behind      which is what follows it
use mathlib.Core.Path.{◌≡◌, refl, sym, ap, ◌∙◌, subst}
use mathlib.Core.Bool.{false}
use mathlib.Core.List.{List}
use Prim.Native.Nat.{ℕ, suc, ◌+◌, ◌-◌, ◌^◌, ◌≤◌, ◌<◌, min}
use native.Mathlib.Omega.{arith}
use borrow.Author.Tests.{eqb-false}
use borrow.Rule.Slice.PartMut.{put_mid, take_put}
use lib.Dec.{eqb, ltb}
use lib.ListN.{length, take, drop, length-drop}
use lib.Seq.{length-take-le}
use denote.Ref.{Bor}
use Rattle.std.specs.Prelude.{Ok, Option, None, Some}
use Rattle.std.specs.List.{copy_within}
use Rattle.std.proofs.Common.{zero-add}
use Rattle.std.proofs.lemmas.Bool.{ltb-true, ltb-false}
use Rattle.std.proofs.lemmas.List.{drop-take, drop-drop, take-take}
use Rattle.std.proofs.lemmas.List.Edits.{take-paste}
use Rattle.laws.specs.Choice.{pick-if, pick_no}
use Rattle.record.specs.declared.header.Header.{Header}
use Rattle.record.specs.declared.kind.Kind.{Kind}
use Rattle.record.specs.Kind.{number_of}
use Rattle.record.specs.Reading.{Found, length_in, read_refusal, read_of, payload_of}
use Rattle.record.proofs.Records.{read-refusal, read-yes, payload-yes}
use Rattle.record_input.specs.declared.reading.Input.{Input}
use Rattle.record_input.specs.declared.reading.Record.{Record}
use Rattle.record_input.specs.Front.{place_after}
use Rattle.record_input.specs.Reading as says
use Rattle.record_input.specs.Reading.{bytes_at, held_of, turns_of, Grew, Passed, Handed}
use Rattle.record_input.proofs.Held.{size-within}

pub length-held : (i : Input) → length (held_of i) ≡ i.end - i.from
length-held i = length-take-le (i.end - i.from) (drop i.from i.block) (omega (arith, length-drop i.from i.block, i.lies.0, i.lies.1))

-- ---- more is read

-- what is held goes to the front
moved : (i : Input) → take (i.end - i.from) (copy_within i.block i.from i.end 0) ≡ held_of i
moved i =
    let n = i.end - i.from in
    let l : n ≤ length (drop i.from i.block) = omega (arith, length-drop i.from i.block, i.lies.0, i.lies.1) in
    ap (λ (a : ℕ). take a (copy_within i.block i.from i.end 0)) (sym (zero-add n)) ∙ take-paste i.block 0 (drop i.from i.block) n (omega arith) l

-- m is the block once what was held stands at its front, and v what the read left behind that
module _ (i : Input) (m v : List ℕ) (k : ℕ) where
  abbrev n : ℕ
  n = i.end - i.from

  abbrev then : List ℕ
  then = put_mid n (36870 - n) m v

  pub grew : (room : length then ≡ 36870) (lies : (0 ≤ n + k) × (n + k ≤ length then)) → i.ended ≡ false → n < length i.block → m ≡ copy_within i.block i.from i.end 0 → length m ≡ 36870
      → Grew i (Ok tt) (record { block = then; from = 0; end = n + k; place = i.place; ended = eqb k 0; room = room; lies = lies })
  grew room lies o l moves same =
      let after : Input = record { block = then; from = 0; end = n + k; place = i.place; ended = eqb k 0; room = room; lies = lies } in
      let before : turns_of i ≡ suc (length i.block - n) = sym (pick_no _ _ _ o refl) in
      let kept : take n (held_of after) ≡ held_of i =
      take-take n (n + k - 0) then (omega arith) ∙ take_put n (36870 - n) m v (omega arith) ∙ ap (take n) moves ∙ moved i in
      let fewer : turns_of after < turns_of i =
      rw (before, i.room, room) (pick-if (λ (x : ℕ). x < suc (36870 - n)) (eqb k 0) (λ e. omega arith) (λ f. let some = eqb-false k 0 f in omega arith)) in
      (refl, (kept, fewer))

-- ---- a record is handed out

-- the place behind a record
pub saturates : (place n : ℕ) → place < 2 ^ 64 → min (place + n) (2 ^ 64 - 1) ≡ place_after place n
unfolding place_after
saturates place n small =
    pick-if (λ (x : ℕ). min (place + n) (2 ^ 64 - 1) ≡ x) (ltb (2 ^ 64 - 1 - place) n)
    (λ e. let h = ltb-true _ _ e in omega arith) (λ e. let h = ltb-false _ _ e in omega arith)

pub ends-within : (i : Input) (k n : ℕ) → read_of (held_of i) ≡ record { refusal = 0; kind = k; size = n } → i.from + n ≤ i.end
ends-within i k n e =
    let w = size-within (held_of i) (ap (λ (f : Found). f.refusal) e) in
    let s = ap (λ (f : Found). f.size) e in
    let l = length-held i in
    omega (arith, i.lies.0)

-- h is the header of a whole record at the front of what is held
module _ (i : Input) (h : Header) (e : read_of (held_of i) ≡ record { refusal = 0; kind = number_of h.kind; size = 6 + h.len }) where
  abbrev part : List ℕ
  part = take h.len (drop (i.from + 6) i.block)

  ends : i.from + (6 + h.len) ≤ i.end
  ends = ends-within i _ _ e

  ok : read_refusal (held_of i) ≡ 0
  ok = sym (read-refusal (held_of i)) ∙ ap (λ (f : Found). f.refusal) e

  said : length_in (held_of i) ≡ h.len
  said = let s = ap (λ (f : Found). f.size) (sym (read-yes (held_of i) ok) ∙ e) in omega (arith, s)

  part-length : length part ≡ h.len
  part-length =
      let w = ends in
      length-take-le h.len (drop (i.from + 6) i.block) (omega (arith, length-drop (i.from + 6) i.block, i.lies.1))

  payload_is : part ≡ payload_of (held_of i)
  payload_is =
      let s = held_of i in
      let w = ends in
      let m = i.end - i.from - 6 in
      let six : 6 + m ≡ i.end - i.from = omega (arith, w) in
      let behind : drop 6 s ≡ take m (drop (i.from + 6) i.block) =
      ap (λ (n : ℕ). drop 6 (take n (drop i.from i.block))) (sym six) ∙ drop-take 6 m (drop i.from i.block) ∙ ap (take m) (drop-drop 6 i.from i.block) in
      ap (λ (k : ℕ). take k (drop (i.from + 6) i.block)) (sym said)
      ∙ sym (take-take (length_in s) m (drop (i.from + 6) i.block) (omega (arith, said, w)))
      ∙ ap (take (length_in s)) (sym behind)
      ∙ sym (payload-yes s ok)

  -- p is the part of the block that is lent: n bytes behind the header
  pub handed : {place size at n : ℕ} {after : Input} (kind : Kind) (p : Bor (List ℕ)) → kind ≡ h.kind → i.place ≡ place → size ≡ 6 + h.len → Passed i size after
      → p.now ≡ take n (drop at after.block) → at ≡ i.from + 6 → n ≡ h.len → Handed place (record { kind = kind; payload = p; place = i.place }) after
  handed {place} {size} {at} {n} {after} kind p named same long passed lent begin much =
      let is : p.now ≡ part = lent ∙ (λ k. take (much k) (drop (begin k) (passed.block k))) in
      let l : 6 + h.len ≡ 6 + length p.now = ap (λ (n : ℕ). 6 + n) (sym (ap length is ∙ part-length)) in
      let bytes : bytes_at i.from after ≡ held_of i = λ k. take (passed.end k - i.from) (drop i.from (passed.block k)) in
      record {
        from = i.from;
        whole = ap read_of bytes ∙ e ∙ (λ k. record { refusal = 0; kind = number_of (sym named k); size = l k });
        payload = is ∙ payload_is ∙ ap payload_of (sym bytes);
        rest = passed.from ∙ ap (λ (n : ℕ). i.from + n) (long ∙ l);
        begins = same;
        goes_on = passed.place ∙ (λ k. place_after (same k) ((long ∙ l) k));
      }

-- what is held then is what follows the record
pub held-behind : {place : ℕ} {r : Record} {after : Input} (h : Handed place r after) → held_of after ≡ drop (6 + length r.payload.now) (bytes_at h.from after)
held-behind {place} {r} {after} h =
    let n = 6 + length r.payload.now in
    let left : n + (after.end - after.from) ≡ after.end - h.from = omega (arith, h.rest, after.lies.0) in
    ap (λ (m : ℕ). take (after.end - after.from) (drop m after.block)) h.rest
    ∙ ap (take (after.end - after.from)) (sym (drop-drop n h.from after.block))
    ∙ sym (drop-take n (after.end - after.from) (drop h.from after.block))
    ∙ ap (λ (m : ℕ). drop n (take m (drop h.from after.block))) left

pub found-some : (place : ℕ) (i : Input) {o : Option Header} {h : Header} → o ≡ Some h → says.Found place (Ok o) i → says.Found place (Ok (Some h)) i
found-some place i e f = subst (λ o. says.Found place (Ok o) i) e f

pub found-none : (place : ℕ) (i : Input) {o : Option Header} → o ≡ None → says.Found place (Ok o) i → says.Ends place i
found-none place i e f = subst (λ o. says.Found place (Ok o) i) e f
