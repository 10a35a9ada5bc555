-- What a loop of Loops says in the words of lists: for theorems about a definition, and for a contract that is to be read without loops.
--     iter-fold                            a sum over indices is a fold over the list
--     iter-cong, over-cong, over_at-cong    two bodies that agree at each index below n give the same
--     iter-split, over-split, over_at-split            m turns, and then k more
--     over-clip, over-both, over-least     a loop that ends where the list does: turns past its end change nothing
--     over-over                            two passes are one
--     over-fill, over-copy, over-map, over-mapped     all of a list: a constant, another list, f of each, f of each of another
--     over-table, over2-table              all of a list, by place; what it held before is not mentioned
--     over-front, over-filled, over-copied, over-placed     the first n places, and the rest as it was
--     over_at-back, over_at-copied, over_at-pasted, over_at-padded       from place b on, and what lies before as it was
--     slide                                a window's second half moved to the front and a block put behind it
--     over-dropped                         all of a list: what lies from a place on in another
-- Assumes nothing.
use Rattle.std.specs.Prelude.{◌≡◌, ◌⊎◌, length, get_or, take, drop, replicate}
use Rattle.std.proofs.Math.Path.{refl, ap}
use Rattle.std.proofs.Common.{sym, ◌∙◌, inl, inr, not-suc-le-zero, le_of_suc-le-suc, le_refl, add-sub_cancel, add-zero, add-suc, le_of_lt, arith, length-drop, get_or-drop, drop-drop, length-take-le}
use mathlib.Core.List.{List, [], ◌∷◌, ◌++◌, foldl, map}
use Prim.Native.Nat.{ℕ, zero, suc, ◌+◌, ◌-◌, ◌*◌, ◌≤◌, ◌<◌, min}
use Rattle.std.proofs.Math.Nat.{add-sub_cancel_left, suc_inj, zero-add, suc-add, min-eq_left, min-eq_right}
use Rattle.std.proofs.Math.Seq.{take-length}
use Rattle.laws.specs.Choice.{lt-or-ge}
use Rattle.laws.specs.Loops.{iter, over, over_at, over2, over-end, over-whole, over_at-end, length_over}
use Rattle.laws.specs.Tables.{table, table2}

-- one turn taken off the front
iter-front : {B : Type 0} (step : ℕ → B → B) (b : B) (n : ℕ) → iter step b (suc n) ≡ iter (λ k. step (suc k)) (step 0 b) n
unfolding iter
iter-front step b zero = refl
iter-front step b (suc n) = ap (step (suc n)) (iter-front step b n)

pub iter-fold : {A B : Type 0} (z : A) (f : B → A → B) (b : B) (s : List A) → iter (λ k a. f a (get_or s k z)) b (length s) ≡ foldl f b s
unfolding iter
iter-fold z f b [] = refl
iter-fold z f b (x ∷ s) = iter-front (λ k a. f a (get_or (x ∷ s) k z)) b (length s) ∙ iter-fold z f (f b x) s

module _ {A : Type 0} where
  -- m turns, then k more
  pub iter-split : (f : ℕ → A → A) (a : A) (m k : ℕ) → iter f a (m + k) ≡ iter (λ j. f (m + j)) (iter f a m) k
  unfolding iter
  iter-split f a m zero = ap (iter f a) (add-zero m)
  iter-split f a m (suc k) = ap (iter f a) (add-suc m k) ∙ ap (f (m + k)) (iter-split f a m k)

  pub iter-cong : (f g : ℕ → A → A) (a : A) (n : ℕ) → ((k : ℕ) (x : A) → k < n → f k x ≡ g k x) → iter f a n ≡ iter g a n
  unfolding iter
  iter-cong f g a zero h = refl
  iter-cong f g a (suc n) h = h n (iter f a n) (le_refl (suc n)) ∙ ap (g n) (iter-cong f g a n (λ k x l. h k x (omega arith)))

  pub over-cong : (f g : ℕ → A → A) (d : List A) (n : ℕ) → ((k : ℕ) (x : A) → k < n → f k x ≡ g k x) → over n f d ≡ over n g d
  unfolding over
  over-cong f g d zero h = refl
  over-cong f g [] (suc n) h = refl
  over-cong f g (x ∷ d) (suc n) h =
      ap (λ (y : A). y ∷ over n (λ k. f (suc k)) d) (h 0 x (omega arith))
      ∙ ap (λ (l : List A). g 0 x ∷ l) (over-cong (λ k. f (suc k)) (λ k. g (suc k)) d n (λ k y l. h (suc k) y (omega arith)))

  pub over_at-cong : (b n : ℕ) (f g : ℕ → A → A) (d : List A) → ((k : ℕ) (x : A) → k < n → f k x ≡ g k x) → over_at b n f d ≡ over_at b n g d
  unfolding over_at
  over_at-cong zero n f g d h = over-cong f g d n h
  over_at-cong (suc b) n f g [] h = refl
  over_at-cong (suc b) n f g (x ∷ d) h = ap (λ (l : List A). x ∷ l) (over_at-cong b n f g d h)

  pub over-split : (f : ℕ → A → A) (d : List A) (m k : ℕ) → over (m + k) f d ≡ over_at m k (λ j. f (m + j)) (over m f d)
  unfolding over over_at
  over-split f d zero k = ap (λ (n : ℕ). over n f d) (zero-add k) ∙ over-cong f (λ j. f (0 + j)) d k (λ j x l. ap (λ (n : ℕ). f n x) (sym (zero-add j)))
  over-split f [] (suc m) k = ap (λ (n : ℕ). over n f []) (suc-add m k)
  over-split f (x ∷ d) (suc m) k =
      ap (λ (n : ℕ). over n f (x ∷ d)) (suc-add m k)
      ∙ ap (λ (l : List A). f 0 x ∷ l)
      (over-split (λ j. f (suc j)) d m k
      ∙ over_at-cong m k (λ j. f (suc (m + j))) (λ j. f (suc m + j)) (over m (λ j. f (suc j)) d) (λ j y l. ap (λ (n : ℕ). f n y) (sym (suc-add m j))))

  pub over_at-split : (b : ℕ) (f : ℕ → A → A) (d : List A) (m k : ℕ) → over_at b (m + k) f d ≡ over_at (b + m) k (λ j. f (m + j)) (over_at b m f d)
  unfolding over_at
  over_at-split zero f d m k = rw zero-add (over-split f d m k)
  over_at-split (suc b) f [] m k = rw suc-add refl
  over_at-split (suc b) f (x ∷ d) m k = rw suc-add (ap (λ (l : List A). x ∷ l) (over_at-split b f d m k))

  pub over-over : (f g : ℕ → A → A) (d : List A) (n : ℕ) → over n g (over n f d) ≡ over n (λ k x. g k (f k x)) d
  unfolding over
  over-over f g d zero = refl
  over-over f g [] (suc n) = refl
  over-over f g (x ∷ d) (suc n) = ap (λ (l : List A). g 0 (f 0 x) ∷ l) (over-over (λ k. f (suc k)) (λ k. g (suc k)) d n)

  pub over-fill : (v : A) (d : List A) → over (length d) (λ k x. v) d ≡ replicate (length d) v
  unfolding over
  over-fill v [] = refl
  over-fill v (x ∷ d) = ap (λ (l : List A). v ∷ l) (over-fill v d)

  pub over-copy : (z : A) (s d : List A) → length s ≡ length d → over (length d) (λ k x. get_or s k z) d ≡ s
  unfolding over
  over-copy z [] [] e = refl
  over-copy z [] (x ∷ d) e = absurd (omega arith)
  over-copy z (y ∷ s) [] e = absurd (omega arith)
  over-copy z (y ∷ s) (x ∷ d) e = ap (λ (l : List A). y ∷ l) (over-copy z s d (omega arith))

  -- ---- the first n places, and the rest as it was
  pub over-front : (n : ℕ) (f : ℕ → A → A) (d : List A) → over n f d ≡ over n f (take n d) ++ drop n d
  unfolding over
  over-front zero f d = refl
  over-front (suc n) f [] = refl
  over-front (suc n) f (x ∷ d) = ap (λ (l : List A). f 0 x ∷ l) (over-front n (λ k. f (suc k)) d)

  pub over-filled : (v : A) (n : ℕ) (d : List A) → n ≤ length d → over n (λ k x. v) d ≡ replicate n v ++ drop n d
  unfolding over
  over-filled v zero d h = refl
  over-filled v (suc n) [] h = absurd (not-suc-le-zero h)
  over-filled v (suc n) (x ∷ d) h = ap (λ (l : List A). v ∷ l) (over-filled v n d (le_of_suc-le-suc h))

  pub over-copied : (z : A) (n : ℕ) (s d : List A) → n ≤ length s → n ≤ length d → over n (λ k x. get_or s k z) d ≡ take n s ++ drop n d
  unfolding over
  over-copied z zero s d h l = refl
  over-copied z (suc n) [] d h l = absurd (not-suc-le-zero h)
  over-copied z (suc n) (y ∷ s) [] h l = absurd (not-suc-le-zero l)
  over-copied z (suc n) (y ∷ s) (x ∷ d) h l = ap (λ (r : List A). y ∷ r) (over-copied z n s d (le_of_suc-le-suc h) (le_of_suc-le-suc l))

  -- ---- from place b on: what lies before stays
  pub over_at-back : (b n : ℕ) (f : ℕ → A → A) (d : List A) → over_at b n f d ≡ take b d ++ over n f (drop b d)
  unfolding over over_at
  over_at-back zero n f d = refl
  over_at-back (suc b) zero f [] = refl
  over_at-back (suc b) (suc n) f [] = refl
  over_at-back (suc b) n f (x ∷ d) = ap (λ (l : List A). x ∷ l) (over_at-back b n f d)

  pub over_at-copied : (z : A) (b n : ℕ) (s d : List A) → n ≤ length s → b + n ≤ length d
      → over_at b n (λ k x. get_or s k z) d ≡ take b d ++ (take n s ++ drop (b + n) d)
  over_at-copied z b n s d h l =
      over_at-back b n (λ k x. get_or s k z) d
      ∙ ap (λ (r : List A). take b d ++ r) (over-copied z n s (drop b d) h (room (length-drop b d)) ∙ ap (λ (r : List A). take n s ++ r) (drop-drop n b d))
    where
      room : length (drop b d) ≡ length d - b → n ≤ length (drop b d)
      room e = omega arith

  -- a loop that has put all of s from place b on
  pub over_at-pasted : (z : A) (b k : ℕ) (s d : List A) {x : List A} → x ≡ over_at b k (λ j y. get_or s j z) d → k ≤ length s → length s ≤ k
      → b + length s ≤ length d → x ≡ take b d ++ (s ++ drop (b + length s) d)
  over_at-pasted z b k s d e l g h =
      over_at-end b (λ j y. get_or s j z) d k (length s) e l g
      ∙ over_at-copied z b (length s) s d (le_refl (length s)) h
      ∙ ap (λ (t : List A). take b d ++ (t ++ drop (b + length s) d)) (take-length s)

  -- a list of b + n places padded from b on
  pub over_at-padded : (v : A) (b n : ℕ) (d : List A) → length d ≡ b + n → over_at b n (λ k x. v) d ≡ take b d ++ replicate n v
  over_at-padded v b n d e =
      let m : length (drop b d) ≡ n = room (length-drop b d) in
      over_at-back b n (λ k x. v) d ∙ ap (λ (r : List A). take b d ++ r) (rw m at (over-fill v (drop b d)))
    where
      room : length (drop b d) ≡ length d - b → length (drop b d) ≡ n
      room q = omega arith

  -- ---- a loop that overwrites all of d: its result does not mention what d held
  pub over-table : (n : ℕ) (f : ℕ → A) (d : List A) → length d ≡ n → over n (λ k x. f k) d ≡ table n f
  unfolding over table
  over-table zero f [] e = refl
  over-table zero f (x ∷ d) e = absurd (omega arith)
  over-table (suc n) f [] e = absurd (omega arith)
  over-table (suc n) f (x ∷ d) e = ap (λ (l : List A). f 0 ∷ l) (over-table n (λ k. f (suc k)) d (suc_inj e))

  -- the first n places overwritten, by place
  pub over-placed : (n : ℕ) (f : ℕ → A) (d : List A) → n ≤ length d → over n (λ k x. f k) d ≡ table n f ++ drop n d
  over-placed n f d h = over-front n (λ k x. f k) d ∙ ap (λ (l : List A). l ++ drop n d) (over-table n f (take n d) (length-take-le n d h))

  pub over2-table : (z : A) (n : ℕ) (f g : ℕ → A) (d : List A) → length d ≡ 2 * n → over2 z n (λ k x y. f k) (λ k x y. g k) d ≡ table2 n f g
  unfolding over2 table2
  over2-table z zero f g [] e = refl
  over2-table z zero f g (x ∷ d) e = absurd (omega arith)
  over2-table z (suc n) f g [] e = absurd (omega arith)
  over2-table z (suc n) f g (x ∷ []) e = absurd (omega arith)
  over2-table z (suc n) f g (x ∷ y ∷ d) e = ap (λ (l : List A). f 0 ∷ g 0 ∷ l) (over2-table z n (λ k. f (suc k)) (λ k. g (suc k)) d (omega arith))

  pub over-map : (f : A → A) (d : List A) → over (length d) (λ k x. f x) d ≡ map f d
  unfolding over
  over-map f [] = refl
  over-map f (x ∷ d) = ap (λ (l : List A). f x ∷ l) (over-map f d)

  -- the first h places take what lies h on, and the places behind them the block
  front : (z : A) (w v : List A) → length v ≤ length w → over (length v) (λ k x. get_or v k z) w ≡ v ++ drop (length v) w
  unfolding over
  front z w [] h = refl
  front z [] (y ∷ v) h = absurd (not-suc-le-zero h)
  front z (x ∷ w) (y ∷ v) h = ap (λ (l : List A). y ∷ l) (front z w v (le_of_suc-le-suc h))

  back : (z : A) (a t b : List A) → length b ≡ length t → over_at (length a) (length b) (λ k x. get_or b k z) (a ++ t) ≡ a ++ b
  unfolding over_at
  back z [] t b e = rw e (over-copy z b t e)
  back z (x ∷ a) t b e = ap (λ (l : List A). x ∷ l) (back z a t b e)

  pub slide : (z : A) (h : ℕ) (w b : List A) → length w ≡ h + h → length b ≡ h
      → over_at h h (λ k x. get_or b k z) (over h (λ k x. get_or w (h + k) z) w) ≡ drop h w ++ b
  slide z h w b e f =
      let v = drop h w in
      let n : length v ≡ h = length-drop h w ∙ rw e (add-sub_cancel h h) in
      let one : over h (λ k x. get_or w (h + k) z) w ≡ v ++ drop h w =
      over-cong (λ k x. get_or w (h + k) z) (λ k x. get_or v k z) w h (λ k x l. sym (get_or-drop h w k z))
      ∙ (rw n at (front z w v (omega arith))) in
      ap (λ (l : List A). over_at h h (λ k x. get_or b k z) l) one ∙ (rw (n, f) at (back z v v b (f ∙ sym n)))

  -- a list of n places that takes what lies from b on
  pub over-dropped : (z : A) (b n : ℕ) (s d : List A) → length s ≡ b + n → length d ≡ n → over n (λ k x. get_or s (b + k) z) d ≡ drop b s
  over-dropped z b n s d e f =
      let v : length (drop b s) ≡ length d = length-drop b s ∙ rw (e, f) (add-sub_cancel_left b n) in
      over-cong (λ k x. get_or s (b + k) z) (λ k x. get_or (drop b s) k z) d n (λ k x l. sym (get_or-drop b s k z)) ∙ (rw f at (over-copy z (drop b s) d v))

-- each place takes f of what stands there in another list, of any type
pub over-mapped : {A B : Type 0} (z : B) (f : B → A) (s : List B) (d : List A) → length s ≡ length d → over (length d) (λ k x. f (get_or s k z)) d ≡ map f s
unfolding over
over-mapped z f [] [] e = refl
over-mapped z f [] (x ∷ d) e = absurd (omega arith)
over-mapped z f (y ∷ s) [] e = absurd (omega arith)
over-mapped {A} z f (y ∷ s) (x ∷ d) e = ap (λ (l : List A). f y ∷ l) (over-mapped z f s d (omega arith))

-- ---- a loop over a list ends where the list does: turns past its end change nothing
module _ {A : Type 0} (f : ℕ → A → A) (d : List A) where
  pub over-room : (n : ℕ) → length d ≤ n → over n f d ≡ over (length d) f d
  over-room n h = over-whole f d n refl (rw length_over h)

  -- m turns and n, both past the end
  pub over-both : (m n : ℕ) {x : List A} → x ≡ over m f d → length d ≤ m → m ≤ n → x ≡ over n f d
  over-both m n e h l = e ∙ over-room m h ∙ sym (over-room n (omega arith))

  pub over-least : (n : ℕ) → over (min n (length d)) f d ≡ over n f d
  over-least n = go (lt-or-ge (length d) n)
    where
      go : (length d < n) ⊎ (n ≤ length d) → over (min n (length d)) f d ≡ over n f d
      go (inl h) = ap (λ (k : ℕ). over k f d) (min-eq_right (le_of_lt h)) ∙ sym (over-room n (le_of_lt h))
      go (inr h) = ap (λ (k : ℕ). over k f d) (min-eq_left h)

  -- a loop to the lesser of n and the list's length
  pub over-clip : (n m k : ℕ) {x : List A} → x ≡ over k f d → k ≤ m → m ≤ k → m ≡ min n (length d) → x ≡ over n f d
  over-clip n m k e l g q = over-end f d k m e l g ∙ ap (λ (j : ℕ). over j f d) q ∙ over-least n
