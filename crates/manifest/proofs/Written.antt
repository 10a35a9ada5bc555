-- Lines written one behind another into a buffer that is as long as they are together. Assumes nothing.
use Rattle.std.proofs.Common.{◌≡◌, ℕ, ◌+◌, ◌-◌, ◌<◌, ◌≤◌, Bool, List, [], ◌∷◌, ◌++◌, refl, sym, ap, ◌∙◌, arith, add-one, append_assoc, append-nil, Bor, slice_index_or, length, take, drop}
use lib.ListN.{get_or, length-append, length-drop, length-map, drop_of_length-le}
use lib.Seq.{take_all, take_at, drop-cons, length-take-le}
use borrow.Rule.Slice.PartMut.{put_mid, post_of}
use Rattle.manifest.specs.Lines.{joined_of}
use Rattle.manifest.specs.Steps.{lines_in, piece_of}
use Rattle.manifest.proofs.Lines.{joined-piece, joined-fits, joined-none}
use Rattle.manifest.proofs.Places.{map_at}

-- of n bytes the first `at` are written, which are those of the first k lines, and the other lines are left
abbrev pub Written : List (List ℕ) → ℕ → List ℕ → ℕ → ℕ → Type 0
Written ls n out at k = (at ≤ n) × ((e : Bool) → n ≡ length (joined_of e ls) → joined_of e ls ≡ take at out ++ joined_of e (drop k ls))

-- the line at a place of a slice
abbrev pub line_at : List (Bor (List ℕ)) → ℕ → List ℕ
line_at lent k = (slice_index_or lent k (record { ref_ptr = (0, 0); now = [] })).now

ahead : (lent : List (Bor (List ℕ))) (k : ℕ) → k < length lent → drop k (lines_in lent) ≡ line_at lent k ∷ drop (k + 1) (lines_in lent)
ahead lent k h =
    let n = length-map lent (λ (l : Bor (List ℕ)). l.now) in
    drop-cons (lines_in lent) k [] (omega arith)
    ∙ rw (map_at (λ (l : Bor (List ℕ)). l.now) lent k (record { ref_ptr = (0, 0); now = [] }) [] h, add-one k) refl

-- a slice from a place on
rest-of : (at : ℕ) (out : List ℕ) → take (length out - at) (drop at out) ≡ drop at out
rest-of at out = take_all (length out - at) (drop at out) (rw length-drop (omega arith))

module _ (lent : List (Bor (List ℕ))) (k n : ℕ) (out : List ℕ) (at : ℕ) (m : length out ≡ n) (w : Written (lines_in lent) n out at k) where
  left : (e : Bool) → n ≡ length (joined_of e (lines_in lent)) → length (joined_of e (drop k (lines_in lent))) ≡ n - at
  left e q =
      let a = ap length (w.1 e q) in
      let b = length-append (take at out) (joined_of e (drop k (lines_in lent))) in
      let w0 = w.0 in
      let c : length (take at out) ≡ at = length-take-le at out (omega arith) in
      omega arith

  room : length (take (length out - at) (drop at out)) ≡ n - at
  room = rw (rest-of at out, length-drop at out, m) refl

  pub fits : ((e : Bool) × (n ≡ length (joined_of e (lines_in lent)))) → k < length lent
      → length (line_at lent k) ≤ length (take (length out - at) (drop at out))
  fits r h =
      let a = left r.0 r.1 in
      let b = ap (λ (ls : List (List ℕ)). length (joined_of r.0 ls)) (ahead lent k h) in
      let c = joined-fits r.0 (line_at lent k) (drop (k + 1) (lines_in lent)) in
      let d = room in
      omega arith

  pub turn : {r : ℕ} {part : List ℕ} → k < length lent
      → r ≡ length (piece_of (length (take (length out - at) (drop at out))) (line_at lent k))
      → r ≤ length (take (length out - at) (drop at out))
      → part ≡ piece_of (length (take (length out - at) (drop at out))) (line_at lent k) ++ drop r (take (length out - at) (drop at out))
      → Written (lines_in lent) n (put_mid at (length out - at) out part) (at + r) (k + 1)
  turn {r} {part} h p q e =
      let piece : List ℕ = piece_of (length (take (length out - at) (drop at out))) (line_at lent k) in
      let d = room in
      let w0 = w.0 in
      let a : length (take at out) ≡ at = length-take-le at out (omega arith) in
      let b = length-append (take at out) piece in
      let behind : List ℕ = drop r (take (length out - at) (drop at out)) in
      let written : take (at + r) (put_mid at (length out - at) out part) ≡ take at out ++ piece =
      ap (λ (z : List ℕ). take (at + r) (take at out ++ (z ++ post_of at (length out - at) out))) e
      ∙ ap (take (at + r))
      (ap (λ (z : List ℕ). take at out ++ z) (append_assoc piece behind (post_of at (length out - at) out))
      ∙ sym (append_assoc (take at out) piece (behind ++ post_of at (length out - at) out)))
      ∙ take_at (take at out ++ piece) (behind ++ post_of at (length out - at) out) (at + r) (omega arith) in (
        omega arith,
        λ f g.
            let rest = joined_of f (drop (k + 1) (lines_in lent)) in
            let size = room ∙ sym (left f g) ∙ ap (λ (ls : List (List ℕ)). length (joined_of f ls)) (ahead lent k h) in
            w.1 f g
            ∙ ap (λ (ls : List (List ℕ)). take at out ++ joined_of f ls) (ahead lent k h)
            ∙ ap (λ (z : List ℕ). take at out ++ z) (joined-piece f (line_at lent k) (drop (k + 1) (lines_in lent)) _ size)
            ∙ sym (append_assoc (take at out) piece rest)
            ∙ ap (λ (z : List ℕ). z ++ rest) (sym written),
      )

  pub end : length lent ≤ k → (e : Bool) → n ≡ length (joined_of e (lines_in lent)) → out ≡ joined_of e (lines_in lent)
  end h e q =
      let l = length-map lent (λ (l : Bor (List ℕ)). l.now) in
      let d : drop k (lines_in lent) ≡ [] = drop_of_length-le (lines_in lent) {i = k} (omega arith) in
      let a : joined_of e (drop k (lines_in lent)) ≡ [] = rw d (joined-none e) in
      let b = left e q in
      let c = ap length a in
      let w0 = w.0 in
      sym (w.1 e q ∙ rw a (append-nil (take at out)) ∙ take_all at out (omega arith))
