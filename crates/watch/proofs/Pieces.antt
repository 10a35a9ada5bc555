-- The loop over the pieces: what is left to do from where it is comes to the same as all from the start. Assumes nothing.
--     Going start s w rest     so it is at w, with `rest` of the bytes s not done yet
--     begun, next, done        at the start, after a piece, and with all bytes done
use Rattle.std.proofs.Common.{◌≡◌, refl, ap, ◌∙◌, arith, List, ℕ, zero, suc, ◌≤◌, ◌<◌, le_refl, eq-eqb, ne_eqb, length, take, drop, length-drop}
use Rattle.laws.specs.Choice.{pick_yes, pick_no}
use Rattle.watch.specs.Watched.{Watched, fed_by, piece_of, pieces_of}

pub record Going (start : Watched) (s : List ℕ) (w : Watched) (rest : List ℕ) : Type 0 where
  pub turns : ℕ
  pub enough : length rest ≤ turns
  pub same : pieces_of turns w rest ≡ pieces_of (length s) start s

pub begun : (start : Watched) (s : List ℕ) → Going start s start s
begun start s = record { turns = length s; enough = le_refl (length s); same = refl }

module _ (start w v : Watched) (s rest : List ℕ) (m : ℕ) (some : 0 < m) (l : 0 < length rest) (e : m ≡ piece_of w.engine.state.carried (length rest)) (h : v ≡ fed_by w (take m rest)) where
  turn : (n : ℕ) → pieces_of n v (drop m rest) ≡ pieces_of (suc n) w rest
  unfolding pieces_of
  turn n =
      let fed : v ≡ fed_by w (take (piece_of w.engine.state.carried (length rest)) rest) = h ∙ ap (λ (k : ℕ). fed_by w (take k rest)) e in
      let left : drop m rest ≡ drop (piece_of w.engine.state.carried (length rest)) rest = ap (λ (k : ℕ). drop k rest) e in
      pick_no _ _ _ (ne_eqb (length rest) 0 (λ z. omega (arith, z, l))) (λ i. pieces_of n (fed i) (left i))

  pub next : Going start s w rest → Going start s v (drop m rest)
  next g = go g.turns g.enough g.same
    where
      go : (t : ℕ) → length rest ≤ t → pieces_of t w rest ≡ pieces_of (length s) start s → Going start s v (drop m rest)
      go zero k q = absurd (omega (arith, k, l))
      go (suc n) k q = record { turns = n; enough = let d = length-drop m rest in omega (arith, k, some, l, d); same = turn n ∙ q }

none : (n : ℕ) (w : Watched) (s : List ℕ) → length s ≤ 0 → w ≡ pieces_of n w s
unfolding pieces_of
none zero w s h = refl
none (suc n) w s h = pick_yes _ _ _ (eq-eqb (length s) 0 (omega (arith, h))) refl

pub done : (start w : Watched) (s rest : List ℕ) → length rest ≤ 0 → Going start s w rest → w ≡ pieces_of (length s) start s
done start w s rest l g = none g.turns w rest l ∙ g.same
