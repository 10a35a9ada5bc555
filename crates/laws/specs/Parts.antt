-- A part of a buffer that is read, and put back. A buffer of parts lies part by part, each of the same size. Assumes nothing.
--     part n p w           part p of w, its n numbers from n * p on
--     with_part n p w v     w with v in the place of part p
--     part-with            part p of that is v
--     part-beside          and each other part is as it was
-- `part-is` and `with-is` join them to what code's `&w[a..a + n]` and `&mut w[a..a + n]` are, for a ≡ n * p.
use Rattle.std.specs.Prelude.{◌≡◌, List, ◌++◌, ◌⊎◌, ℕ, ◌+◌, ◌-◌, ◌*◌, ◌≤◌, ◌<◌, take, drop}
use Rattle.std.proofs.Math.Path.{refl, ap}
use Rattle.std.proofs.Common.{sym, ◌∙◌, inl, inr, length-append, ext_get_or}
use Rattle.std.proofs.Math.Nat.{add-sub_cancel_left}
use native.Mathlib.Omega.{arith}
use borrow.Rule.Slice.PartMut.{put_mid, post_of}
use Rattle.std.proofs.Math.ListN.{get_or-append, length, get_or, length-drop}
use Rattle.std.proofs.Math.Seq.{get_or-take, get_or-drop, get_or-append-add, length-take-le}

module _ {A : Type 0} where
  unfoldable pub part : ℕ → ℕ → List A → List A
  part n p w = take n (drop (n * p) w)

  unfoldable pub with_part : ℕ → ℕ → List A → List A → List A
  with_part n p w v = put_mid (n * p) n w v

  pub part-is : (n a p : ℕ) (w : List A) → a ≡ n * p → take (a + n - a) (drop a w) ≡ part n p w
  unfolding part
  part-is n a p w e = rw (add-sub_cancel_left, e) refl

  pub with-is : (n a p : ℕ) (w v : List A) → a ≡ n * p → put_mid a (a + n - a) w v ≡ with_part n p w v
  unfolding with_part
  with-is n a p w v e = rw (add-sub_cancel_left, e) refl

  -- where part p ends within w, it has its size, and w keeps its length when another is put in its place
  pub length_part : (n p : ℕ) (w : List A) → n * p + n ≤ length w → length (part n p w) ≡ n
  unfolding part
  length_part n p w h = length-take-le n (drop (n * p) w) (rest (length-drop (n * p) w))
    where
      rest : length (drop (n * p) w) ≡ length w - n * p → n ≤ length (drop (n * p) w)
      rest e = omega arith

  pub length-with : (n p : ℕ) (w v : List A) → n * p + n ≤ length w → length v ≡ n → length (with_part n p w v) ≡ length w
  unfolding with_part
  length-with n p w v h e =
      let a : length (take (n * p) w) ≡ n * p = length-take-le (n * p) w (omega arith) in
      let b : length (drop (n * p) w) ≡ length w - n * p = length-drop (n * p) w in
      let c : length (drop n (drop (n * p) w)) ≡ length (drop (n * p) w) - n = length-drop n (drop (n * p) w) in
      simp (length-append) (omega arith)

  -- ---- place by place, with d where there is none

  pub get-part : (n p : ℕ) (w : List A) (i : ℕ) (d : A) → i < n → get_or (part n p w) i d ≡ get_or w (n * p + i) d
  unfolding part
  get-part n p w i d k = get_or-take n (drop (n * p) w) i d k ∙ get_or-drop (n * p) w i d

  module _ (n p : ℕ) (w v : List A) (d : A) (fits : n * p + n ≤ length w) (sized : length v ≡ n) where
    front : length (take (n * p) w) ≡ n * p
    front = length-take-le (n * p) w (omega arith)

    with-before : (i : ℕ) → i < n * p → get_or (with_part n p w v) i d ≡ get_or w i d
    unfolding with_part
    with-before i h = get_or-append (take (n * p) w) (v ++ post_of (n * p) n w) d i (omega (arith, h, front)) ∙ get_or-take (n * p) w i d h

    behind : (j : ℕ) → get_or (with_part n p w v) (n * p + j) d ≡ get_or (v ++ post_of (n * p) n w) j d
    unfolding with_part
    behind j =
        ap (λ (a : ℕ). get_or (take (n * p) w ++ (v ++ post_of (n * p) n w)) (a + j) d) (sym front)
        ∙ get_or-append-add (take (n * p) w) (v ++ post_of (n * p) n w) j d

    with_at : (i : ℕ) → i < n → get_or (with_part n p w v) (n * p + i) d ≡ get_or v i d
    with_at i h = behind i ∙ get_or-append v (post_of (n * p) n w) d i (omega (arith, h, sized))

    with-after : (j : ℕ) → get_or (with_part n p w v) (n * p + (n + j)) d ≡ get_or w (n * p + (n + j)) d
    with-after j =
        behind (n + j)
        ∙ ap (λ (a : ℕ). get_or (v ++ post_of (n * p) n w) (a + j) d) (sym sized)
        ∙ get_or-append-add v (post_of (n * p) n w) j d
        ∙ get_or-drop n (drop (n * p) w) j d
        ∙ get_or-drop (n * p) w (n + j) d

    -- at a place that is not in part p
    with-other : (i : ℕ) → (i < n * p) ⊎ (n * p + n ≤ i) → get_or (with_part n p w v) i d ≡ get_or w i d
    with-other i (inl h) = with-before i h
    with-other i (inr h) =
        let j = i - (n * p + n) in
        let s : i ≡ n * p + (n + j) = omega arith in
        ap (λ (k : ℕ). get_or (with_part n p w v) k d) s ∙ with-after j ∙ ap (λ (k : ℕ). get_or w k d) (sym s)

    kept : (q : ℕ) → n * q + n ≤ length w → length (part n q (with_part n p w v)) ≡ n
    kept q g = length_part n q (with_part n p w v) (omega (arith, length-with n p w v fits sized, g))

    -- part p is what was put there
    pub part-with : part n p (with_part n p w v) ≡ v
    part-with =
        ext_get_or d (part n p (with_part n p w v)) v (kept p fits ∙ sym sized)
        (λ i h. let k : i < n = omega (arith, h, kept p fits) in get-part n p (with_part n p w v) i d k ∙ with_at i k)

    -- part q, which lies before part p or behind it, is as it was
    pub part-beside : (q : ℕ) → n * q + n ≤ length w → (n * q + n ≤ n * p) ⊎ (n * p + n ≤ n * q) → part n q (with_part n p w v) ≡ part n q w
    part-beside q g o =
        ext_get_or d (part n q (with_part n p w v)) (part n q w) (kept q g ∙ sym (length_part n q w g))
        (λ i h. let k : i < n = omega (arith, h, kept q g) in
        get-part n q (with_part n p w v) i d k ∙ with-other (n * q + i) (side i k o) ∙ sym (get-part n q w i d k))
      where
        side : (i : ℕ) → i < n → (n * q + n ≤ n * p) ⊎ (n * p + n ≤ n * q) → (n * q + i < n * p) ⊎ (n * p + n ≤ n * q + i)
        side i k (inl b) = inl (omega arith)
        side i k (inr b) = inr (omega arith)
