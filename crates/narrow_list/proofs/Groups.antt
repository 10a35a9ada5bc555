-- A list by groups, and a list of which the front is narrowed. Assumes nothing.
--     chunk-at                               a group of the list by groups
--     front-none, front-more, front-all      a list whose first m numbers are f of those of xs, and the rest as it was: at the start, with a part more,
--                                            and at the end of the shorter list
use Rattle.std.proofs.Common.{◌≡◌, ℕ, zero, suc, ◌+◌, ◌-◌, ◌*◌, ◌≤◌, ◌<◌, List, [], ◌∷◌, ◌++◌, length, get_or, take, drop, map, refl, sym, ap, ◌∙◌, subst, min, ◌/◌, arith, not-suc-le-zero, le_of_suc-le-suc, length-append, length-drop, drop-drop, length-take-le, length-set, ext_get_or, set}
use Rattle.std.specs.Simd.{first_chunks}
use Rattle.std.proofs.lemmas.List.{take-append-drop, map-append, length-map, take_more, take_more_set, drop-set-lt, get_or-map, take-take}
use Rattle.std.proofs.lemmas.Slice.{take-put_mid, drop-put_mid, between_is}
use Rattle.std.proofs.Math.Nat.{mul-zero}
use Rattle.std.proofs.Math.Seq.{take-add, take_all}
use borrow.Rule.Slice.PartMut.{put_mid}
use lib.Ieee.{Float, nan}
use Rattle.laws.specs.Loops.{over}
use Rattle.laws.specs.Readings.{over-placed, over-least}
use Rattle.narrow_list.proofs.OverCounts.{table-of}

pub chunk-at : {A : Type 0} (n k i : ℕ) (xs : List A) (d : List A) → i < k → get_or (first_chunks n k xs) i d ≡ take n (drop (n * i) xs)
chunk-at n zero i xs d h = absurd (not-suc-le-zero h)
chunk-at n (suc k) zero xs d h = ap (λ (i : ℕ). take n (drop i xs)) (sym (mul-zero n))
chunk-at n (suc k) (suc i) xs d h = chunk-at n k i (drop n xs) d (le_of_suc-le-suc h) ∙ ap (take n) (drop-drop (n * i) n xs ∙ ap (λ (j : ℕ). drop j xs) (omega arith))

-- group i of the first n numbers, and what is left of them
module _ (xs : List Float) (n : ℕ) (h : n ≤ length xs) where
  long : length (take n xs) ≡ n
  long = length-take-le n xs h

  pub group-is : (i : ℕ) {groups : List (List Float)} (d : List Float) → groups ≡ first_chunks 32 (length (take n xs) / 32) (take n xs) → i < length (take n xs) / 32
      → get_or groups i d ≡ take (32 * i + 32 - 32 * i) (drop (32 * i) xs)
  group-is i {groups} d e l =
      let b : 32 * i + 32 ≤ n = omega (arith, long, l) in
      let k : 32 * i + 32 - 32 * i ≡ 32 = omega arith in
      ap (λ (g : List (List Float)). get_or g i d) e
      ∙ chunk-at 32 (length (take n xs) / 32) i (take n xs) d l
      ∙ ap (take 32) (sym (between_is xs (32 * i) n))
      ∙ take-take 32 (n - 32 * i) (drop (32 * i) xs) (omega arith)
      ∙ ap (λ (j : ℕ). take j (drop (32 * i) xs)) (sym k)

  pub rest-is : (m : ℕ) {rest : List Float} → rest ≡ drop (length (take n xs) / 32 * 32) (take n xs) → m ≡ length (take n xs) / 32 * 32 → rest ≡ take (n - m) (drop m xs)
  rest-is m e q = e ∙ ap (λ (j : ℕ). drop j (take n xs)) (sym q) ∙ sym (between_is xs m n)

-- f of each, by place
pub mapped : (f : Float → Float) (xs : List Float) {ys : List Float} → length ys ≡ length xs → ((k : ℕ) → k < length xs → get_or ys k nan ≡ f (get_or xs k nan)) → ys ≡ map f xs
mapped f xs {ys} e h =
    ext_get_or nan ys (map f xs) (e ∙ sym (length-map xs f)) (λ k l. let g : k < length xs = omega (arith, e, l) in h k g ∙ sym (get_or-map f xs k nan nan g))

pub record Front (f : Float → Float) (xs o : List Float) (m : ℕ) (out : List Float) : Type 0 where
  pub changed : take m out ≡ map f (take m xs)
  pub kept : drop m out ≡ drop m o
  pub long : length out ≡ length o

pub front-none : (f : Float → Float) (xs o : List Float) → Front f xs o 0 o
front-none f xs o = record { changed = refl; kept = refl; long = refl }

-- a number more
pub front-next : (f : Float → Float) (xs o : List Float) (k : ℕ) {out : List Float} {y : Float} → Front f xs o k out → k < length xs → k < length o → y ≡ f (get_or xs k nan)
    → Front f xs o (k + 1) (set out k y)
front-next f xs o k {out} {y} front h l e = record {
  changed = take_more_set out k y (omega (arith, front.long)) ∙ rw (front.changed, e) (sym (ap (map f) (take_more xs k nan h) ∙ map-append f (take k xs) (get_or xs k nan ∷ [])));
  kept = drop-set-lt (k + 1) out k y (omega arith) ∙ sym (drop-drop 1 k out) ∙ ap (drop 1) front.kept ∙ drop-drop 1 k o;
  long = length-set out k y ∙ front.long;
}

module _ {f : Float → Float} {xs o : List Float} {m : ℕ} {out : List Float} (front : Front f xs o m out) where
  pub front-more : (e n : ℕ) (v : List Float) → m ≤ e → e ≤ length xs → e ≤ length o → e ≡ n → v ≡ map f (take (e - m) (drop m xs)) → Front f xs o n (put_mid m (e - m) out v)
  front-more e n v l h k w q = subst (λ (j : ℕ). Front f xs o j (put_mid m (e - m) out v)) w (record { changed = changed; kept = kept; long = long })
    where
      whole : m + (e - m) ≡ e
      whole = omega arith

      room : m ≤ length out
      room = omega (arith, front.long)

      part : length (take (e - m) (drop m xs)) ≡ e - m
      part = length-take-le (e - m) (drop m xs) (let d = length-drop m xs in omega arith)

      size : length v ≡ e - m
      size = ap length q ∙ length-map (take (e - m) (drop m xs)) f ∙ part

      changed : take e (put_mid m (e - m) out v) ≡ map f (take e xs)
      changed =
          take-put_mid m (e - m) out v e (omega (arith, size)) room
          ∙ rw (front.changed, q) (sym (map-append f (take m xs) (take (e - m) (drop m xs))))
          ∙ ap (map f) (sym (take-add m (e - m) xs) ∙ ap (λ (i : ℕ). take i xs) whole)

      kept : drop e (put_mid m (e - m) out v) ≡ drop e o
      kept =
          drop-put_mid m (e - m) out v e (omega arith) room size
          ∙ ap (λ (i : ℕ). drop i out) (sym whole)
          ∙ sym (drop-drop (e - m) m out)
          ∙ ap (drop (e - m)) front.kept
          ∙ drop-drop (e - m) m o
          ∙ ap (λ (i : ℕ). drop i o) whole

      long : length (put_mid m (e - m) out v) ≡ length o
      long =
          let a = length-take-le m out room in
          let c = length-drop (e - m) (drop m out) in
          let d = length-drop m out in
          let g = front.long in
          simp length-append (omega (arith, size))

  -- where xs has no more
  pub front-whole : length xs ≤ m → length o ≡ length xs → out ≡ map f xs
  front-whole h e = sym (take_all m out (omega (arith, front.long))) ∙ front.changed ∙ ap (map f) (take_all m xs h)

  pub front-all : m ≡ min (length xs) (length o) → out ≡ over (length xs) (λ k x. f (get_or xs k nan)) o
  front-all e =
      sym (take-append-drop m out)
      ∙ rw (front.changed, front.kept) (ap (λ (l : List Float). l ++ drop m o) (sym (table-of f xs m (omega arith))))
      ∙ sym (over-placed m (λ k. f (get_or xs k nan)) o (omega arith))
      ∙ ap (λ (k : ℕ). over k (λ k x. f (get_or xs k nan)) o) e
      ∙ over-least (λ k x. f (get_or xs k nan)) o (length xs)
