-- The records of a capture. Callers use these and never its text. Assumes nothing.
--     capture-none, capture-next, capture-refused     a capture of no bytes; of a record and what follows it; of what cannot be read
--     capture-joined       records end to end, and bytes behind them: these records, and then those of the bytes behind
--     Parts, capture-parts     and the other way round: the records' bytes are the capture's up to its place, and behind it there is
--                          nothing, or what is refused
use mathlib.Core.Path.{◌≡◌, refl, sym, ap, subst, ◌∙◌}
use mathlib.Core.Bool.{Bool, true, false}
use mathlib.Core.List.{List, [], ◌∷◌, ◌++◌, append_assoc}
use mathlib.Core.Logic.{◌⊎◌, inl, inr}
use Prim.Native.Nat.{ℕ, zero, suc, ◌+◌, ◌-◌, ◌≤◌, ◌<◌}
use native.Mathlib.Omega.{arith}
use borrow.Author.Tests.{eq-eqb, ne_eqb, eqb-true, eqb-false}
use lib.Dec.{eqb}
use lib.ListN.{length, take, drop, length-append, length-drop}
use lib.Seq.{drop-append_seam, take-add, drop-drop}
use Rattle.laws.specs.Choice.{pick, pick_yes, pick_no}
use Rattle.laws.specs.Kinds.{All, all_none, all_cons, all_drop}
use Rattle.record.specs.Record.{Byte}
use Rattle.record.specs.Reading.{read_refusal, read_of, payload_of}
use Rattle.record.specs.Capture.{Record, Fits, Capture, bytes_of, joined_of, ended_of, refused_of, behind, capture_in, capture_of}
use Rattle.record.proofs.Records.{read-refusal, record-accepted, record-read, record-payload, size-most, size-least, payload-fits, bytes-again}

-- ---- one turn

abbrev first_of : List ℕ → Record
first_of s = record { kind = (read_of s).kind; payload = payload_of s }

abbrev rest_of : List ℕ → List ℕ
rest_of s = drop (read_of s).size s

turn-none : (n : ℕ) → capture_in n [] ≡ ended_of
unfolding capture_in pick
turn-none zero = refl
turn-none (suc n) = refl

turn-next : (n : ℕ) (s : List ℕ) → read_refusal s ≡ 0 → capture_in (suc n) s ≡ behind (first_of s) (read_of s).size (capture_in n (rest_of s))
unfolding capture_in
turn-next n s h =
    let some : length s ≡ 0 → ⊥ = λ e. absurd (omega (arith, e, size-most s h, size-least s h)) in
    sym (pick_no _ _ _ (ne_eqb (length s) 0 some) (pick_yes _ _ _ (eq-eqb (read_of s).refusal 0 (read-refusal s ∙ h)) refl))

turn-refused : (n : ℕ) (s : List ℕ) → (length s ≡ 0 → ⊥) → (read_refusal s ≡ 0 → ⊥) → capture_in (suc n) s ≡ refused_of (read_refusal s)
unfolding capture_in
turn-refused n s some h =
    sym (pick_no _ _ _ (ne_eqb (length s) 0 some)
    (pick_no _ _ _ (ne_eqb (read_of s).refusal 0 (λ e. h (sym (read-refusal s) ∙ e))) (ap refused_of (sym (read-refusal s)))))

-- ---- which turn it is

abbrev Cases : List ℕ → Type 0
Cases s = (s ≡ []) ⊎ ((read_refusal s ≡ 0) ⊎ ((length s ≡ 0 → ⊥) × (read_refusal s ≡ 0 → ⊥)))

empty : (s : List ℕ) → length s ≡ 0 → s ≡ []
empty [] h = refl
empty (x ∷ s) h = absurd (omega arith)

cases : (s : List ℕ) → Cases s
cases s = go (eqb (length s) 0) (eqb (read_refusal s) 0) refl refl
  where
    go : (a b : Bool) → eqb (length s) 0 ≡ a → eqb (read_refusal s) 0 ≡ b → Cases s
    go true b e f = inl (empty s (eqb-true (length s) 0 e))
    go false true e f = inr (inl (eqb-true (read_refusal s) 0 f))
    go false false e f = inr (inr (eqb-false (length s) 0 e, eqb-false (read_refusal s) 0 f))

-- what is left is shorter
shorter : (s : List ℕ) (n : ℕ) → read_refusal s ≡ 0 → length s ≤ suc n → length (rest_of s) ≤ n
shorter s n h l = rw (length-drop (read_of s).size s) (omega (arith, size-least s h))

-- ---- more turns than bytes change nothing

none_left : (m n : ℕ) (s : List ℕ) → length s ≤ 0 → capture_in m s ≡ capture_in n s
none_left m n s h =
    let e = empty s (omega arith) in
    ap (capture_in m) e ∙ turn-none m ∙ sym (turn-none n) ∙ ap (capture_in n) (sym e)

more : (m n : ℕ) (s : List ℕ) → length s ≤ m → length s ≤ n → capture_in m s ≡ capture_in n s
more zero n s h k = none_left 0 n s h
more (suc m) zero s h k = none_left (suc m) 0 s k
more (suc m) (suc n) s h k = go (more m n) (cases s)
  where
    go : ((t : List ℕ) → length t ≤ m → length t ≤ n → capture_in m t ≡ capture_in n t) → Cases s → capture_in (suc m) s ≡ capture_in (suc n) s
    go ih (inl e) = none_left (suc m) (suc n) s (rw e (omega arith))
    go ih (inr (inl a)) =
        turn-next m s a ∙ ap (behind (first_of s) (read_of s).size) (ih (rest_of s) (shorter s m a h) (shorter s n a k)) ∙ sym (turn-next n s a)
    go ih (inr (inr r)) = turn-refused m s r.0 r.1 ∙ sym (turn-refused n s r.0 r.1)

-- ---- the laws

pub capture-none : capture_of [] ≡ ended_of
capture-none = turn-none 0

module _ (s : List ℕ) where
  one_more : capture_of s ≡ capture_in (suc (length s)) s
  one_more = more (length s) (suc (length s)) s (omega arith) (omega arith)

  pub capture-next : read_refusal s ≡ 0 → capture_of s ≡ behind (first_of s) (read_of s).size (capture_of (rest_of s))
  capture-next h =
      one_more
      ∙ turn-next (length s) s h
      ∙ ap (behind (first_of s) (read_of s).size) (more (length s) (length (rest_of s)) (rest_of s) (shorter s (length s) h (omega arith)) (omega arith))

  pub capture-refused : (length s ≡ 0 → ⊥) → (read_refusal s ≡ 0 → ⊥) → capture_of s ≡ refused_of (read_refusal s)
  capture-refused some h = one_more ∙ turn-refused (length s) s some h

-- ---- records end to end

-- records, and the capture of the bytes behind them
abbrev pub ahead_of : List Record → Capture → Capture
ahead_of rs c = record { records = rs ++ c.records; refusal = c.refusal; place = length (joined_of rs) + c.place }

module _ (r : Record) (s : List ℕ) (fit : Fits r) where
  abbrev t : List ℕ
  t = bytes_of r ++ s

  first-is : first_of t ≡ r
  first-is =
      let e = record-read r.kind r.payload s fit in
      let f = record-payload r.kind r.payload s fit in
      let k : (read_of t).kind ≡ r.kind = ap (λ f. f.kind) e in
      ap (λ (n : ℕ). record { kind = n; payload = payload_of t }) k ∙ ap (λ (p : List ℕ). record { kind = r.kind; payload = p }) f

  size_is : (read_of t).size ≡ 6 + length r.payload
  size_is = ap (λ f. f.size) (record-read r.kind r.payload s fit)

  rest-is : rest_of t ≡ s
  rest-is =
      ap (λ (n : ℕ). drop n t) size_is ∙ sym (drop-drop (length r.payload) 6 t) ∙ drop-append_seam r.payload s

  capture-one : capture_of t ≡ behind r (6 + length r.payload) (capture_of s)
  capture-one =
      capture-next t (record-accepted r.kind r.payload s fit)
      ∙ ap (λ (q : Record). behind q (read_of t).size (capture_of (rest_of t))) first-is
      ∙ ap (λ (n : ℕ). behind r n (capture_of (rest_of t))) size_is
      ∙ ap (λ (u : List ℕ). behind r (6 + length r.payload) (capture_of u)) rest-is

pub capture-joined : (rs : List Record) (s : List ℕ) → All Fits rs → capture_of (joined_of rs ++ s) ≡ ahead_of rs (capture_of s)
unfolding joined_of
capture-joined [] s h = let z : (n : ℕ) → 0 + n ≡ n = λ n. omega arith in rw z refl
capture-joined (r ∷ rs) s h =
    let c = capture_of s in
    let n = length r.payload in
    let long : length (bytes_of r ++ joined_of rs) ≡ 6 + n + length (joined_of rs) = length-append (bytes_of r) (joined_of rs) ∙ omega arith in
    ap capture_of (append_assoc (bytes_of r) (joined_of rs) s)
    ∙ capture-one r (joined_of rs ++ s) h.each.0
    ∙ ap (behind r (6 + n)) (capture-joined rs s (record { each = h.each.1 }))
    ∙ ap (λ (k : ℕ). record { records = r ∷ (rs ++ c.records); refusal = c.refusal; place = k }) (omega (arith, long))

-- ---- any bytes

pub record Parts (s : List ℕ) (c : Capture) : Type 0 where
  pub fits : All Fits c.records
  pub bytes : joined_of c.records ≡ take c.place s
  pub within : c.place ≤ length s
  pub whole : c.refusal ≡ 0 → c.place ≡ length s
  pub refused : (c.refusal ≡ 0 → ⊥) → (c.place < length s) × (read_refusal (drop c.place s) ≡ c.refusal)

parts_none : Parts [] ended_of
unfolding joined_of
parts_none = record { fits = all_none; bytes = refl; within = omega arith; whole = λ e. refl; refused = λ h. absurd (h refl) }

parts-refused : (s : List ℕ) → (length s ≡ 0 → ⊥) → (read_refusal s ≡ 0 → ⊥) → Parts s (refused_of (read_refusal s))
unfolding joined_of
parts-refused s some h =
    record { fits = all_none; bytes = refl; within = omega arith; whole = λ e. absurd (h e); refused = λ k. (positive (length s) some, refl) }
  where
    positive : (n : ℕ) → (n ≡ 0 → ⊥) → 0 < n
    positive zero h = absurd (h refl)
    positive (suc n) h = omega arith

parts_next : (s : List ℕ) (c : Capture) → All Byte s → read_refusal s ≡ 0 → Parts (rest_of s) c → Parts s (behind (first_of s) (read_of s).size c)
unfolding joined_of
parts_next s c b h p =
    let size = (read_of s).size in
    let left : length (rest_of s) ≡ length s - size = length-drop size s in
    record {
      fits = all_cons (payload-fits s h) p.fits;
      bytes =
          ap (λ (l : List ℕ). l ++ joined_of c.records) (bytes-again s h b)
          ∙ ap (λ (l : List ℕ). take size s ++ l) p.bytes
          ∙ sym (take-add size c.place s);
      within = omega (arith, left, p.within, size-most s h);
      whole = λ e. omega (arith, left, p.whole e, size-most s h);
      refused = λ e. let r = p.refused e in (omega (arith, left, r.0, size-most s h), ap read_refusal (sym (drop-drop c.place size s)) ∙ r.1);
    }

parts-empty : (s : List ℕ) → s ≡ [] → Parts s (capture_of s)
parts-empty s e = subst (λ (t : List ℕ). Parts t (capture_of t)) (sym e) (subst (Parts []) (sym capture-none) parts_none)

pub capture-parts : (s : List ℕ) → All Byte s → Parts s (capture_of s)
capture-parts s b = go (length s) s b (omega arith)
  where
    turn : (n : ℕ) (s : List ℕ) → All Byte s → length s ≤ suc n → ((t : List ℕ) → All Byte t → length t ≤ n → Parts t (capture_of t))
        → Cases s → Parts s (capture_of s)
    turn n s b l ih (inl e) = parts-empty s e
    turn n s b l ih (inr (inl a)) =
        let next = ih (rest_of s) (all_drop (read_of s).size b) (shorter s n a l) in
        subst (Parts s) (sym (capture-next s a)) (parts_next s (capture_of (rest_of s)) b a next)
    turn n s b l ih (inr (inr r)) = subst (Parts s) (sym (capture-refused s r.0 r.1)) (parts-refused s r.0 r.1)

    go : (n : ℕ) (s : List ℕ) → All Byte s → length s ≤ n → Parts s (capture_of s)
    go zero s b l = parts-empty s (empty s (omega arith))
    go (suc n) s b l = turn n s b l (go n) (cases s)
