-- A pass around the ring, newest first, is two straight runs. Assumes nothing.
--     slot-newer, slot-older     where lag k stands: in the first run at pos - k, in the second at the top less what it has passed
--     lag-newer, lag-older       the sample of a lag, as one of the run that it is in
--     two_runs                   a loop over all lags, by the two runs
--     estimate-runs, energy-runs, updated-runs, sound-runs     the sums, the updated weights, and whether all of them are finite
use Rattle.std.proofs.Common.{◌≡◌, ℕ, ◌+◌, ◌-◌, ◌≤◌, ◌<◌, List, [], ◌∷◌, ◌++◌, Float, Bool, true, false, ◌&&◌, length, get_or, take, drop, refl, sym, ap, ◌∙◌, le-leb, arith}
use Rattle.std.proofs.lemmas.Bool.{lt-leb}
use Rattle.std.proofs.lemmas.List.{length-take-le, length-drop, get_or-take, get_or-drop, take_at, drop_at}
use mathlib.Core.List.{foldl}
use Rattle.std.specs.List.{list_all}
use Rattle.std.proofs.lemmas.List.Folds.{list_all-append}
use Rattle.std.specs.Float.{nan, binary64}
use Rattle.std.specs.Float.Ieee.{add, mul}
use Rattle.laws.specs.Choice.{pick_yes, pick_no}
use Rattle.laws.specs.Loops.{iter, over, length_over}
use Rattle.laws.specs.Readings.{iter-cong, iter-split, iter-fold, over-cong, over-split, over-front, over_at-back}
use Rattle.numbers.specs.Finite.{plus, is_finite}
use Rattle.rho_taps.specs.Update.{nudge_of, updated_of, sound_of}
use Rattle.rho_taps.specs.Ring.{lag_slot_of, lag_of, estimate_of, window_energy_of}
use Rattle.rho_taps.specs.Runs.{newest, estimate_from, energy_from, nudged_by}
use Rattle.rho_taps.proofs.Parts.{newest-is}

pub slot-newer : (pos n k : ℕ) → k ≤ pos → pos - k ≡ lag_slot_of pos n k
unfolding lag_slot_of
slot-newer pos n k h = pick_yes _ _ _ (le-leb k pos h) refl

pub slot-older : (pos n k : ℕ) → pos < n → k < n - 1 - pos → n - 1 - k ≡ lag_slot_of pos n (pos + 1 + k)
unfolding lag_slot_of
slot-older pos n k h l = pick_no _ _ _ (lt-leb (pos + 1 + k) pos (omega arith)) (same pos n k h l)
  where
    same : (pos n k : ℕ) → pos < n → k < n - 1 - pos → n - 1 - k ≡ pos + n - (pos + 1 + k)
    same pos n k h l = omega arith

-- where the runs part
front-long : (h : List Float) (pos : ℕ) → pos < length h → length (take (pos + 1) h) ≡ pos + 1
front-long h pos b = length-take-le (pos + 1) h (omega arith)

lag-newer : (h : List Float) (pos k : ℕ) → pos < length h → k < pos + 1 → newest (take (pos + 1) h) k ≡ lag_of h pos (length h) k
lag-newer h pos k b l =
    let p : pos + 1 - 1 - k ≡ pos - k = omega arith in
    newest-is (take (pos + 1) h) h (pos + 1) (lag_slot_of pos (length h) k) k (front-long h pos b)
    (get_or-take (pos + 1) h (pos + 1 - 1 - k) nan (omega arith) ∙ ap (λ (i : ℕ). get_or h i nan) (p ∙ slot-newer pos (length h) k (omega arith)))

lag-older : (h : List Float) (pos k : ℕ) → pos < length h → k < length h - (pos + 1) → newest (drop (pos + 1) h) k ≡ lag_of h pos (length h) (pos + 1 + k)
lag-older h pos k b l =
    let p : pos + 1 + (length h - (pos + 1) - 1 - k) ≡ length h - 1 - k = omega arith in
    newest-is (drop (pos + 1) h) h (length h - (pos + 1)) (lag_slot_of pos (length h) (pos + 1 + k)) k (length-drop (pos + 1) h)
    (get_or-drop (pos + 1) h (length h - (pos + 1) - 1 - k) nan
    ∙ ap (λ (i : ℕ). get_or h i nan) (p ∙ slot-older pos (length h) k b (omega arith)))

-- a loop over all p + q lags
two_runs : {A : Type 0} (f g h : ℕ → A → A) (p q n : ℕ) → p + q ≡ n → ((k : ℕ) (x : A) → k < p → g k x ≡ f k x) → ((k : ℕ) (x : A) → k < q → h k x ≡ f (p + k) x)
    → (a : A) → iter h (iter g a p) q ≡ iter f a n
two_runs {A} f g h p q n e s t a =
    iter-cong h (λ k. f (p + k)) (iter g a p) q t
    ∙ ap (λ (x : A). iter (λ k. f (p + k)) x q) (iter-cong g f a p s)
    ∙ sym (iter-split f a p q)
    ∙ ap (iter f a) e

module _ (w h : List Float) (pos : ℕ) (b : pos < length h) where
  -- the two runs have all lags
  both-long : length (take (pos + 1) h) + length (drop (pos + 1) h) ≡ length h
  both-long = omega (arith, front-long h pos b, length-drop (pos + 1) h)

  pub estimate-runs : estimate_from (estimate_from plus (take (pos + 1) w) (take (pos + 1) h)) (drop (pos + 1) w) (drop (pos + 1) h) ≡ estimate_of w h pos (length h)
  unfolding estimate_of
  estimate-runs =
      two_runs (λ k a. add binary64 a (mul binary64 (get_or w k nan) (lag_of h pos (length h) k))) _ _ (length (take (pos + 1) h)) (length (drop (pos + 1) h)) (length h) both-long
      (λ k x l. let i : k < pos + 1 = omega (arith, front-long h pos b) in rw (get_or-take (pos + 1) w k nan i, lag-newer h pos k b i) refl)
      (λ k x l. let i : k < length h - (pos + 1) = omega (arith, length-drop (pos + 1) h) in rw (front-long h pos b, get_or-drop (pos + 1) w k nan, lag-older h pos k b i) refl)
      plus

  pub energy-runs : energy_from (energy_from plus (take (pos + 1) h)) (drop (pos + 1) h) ≡ window_energy_of h pos (length h)
  unfolding window_energy_of
  energy-runs =
      two_runs (λ k a. add binary64 a (mul binary64 (lag_of h pos (length h) k) (lag_of h pos (length h) k))) _ _ (length (take (pos + 1) h)) (length (drop (pos + 1) h)) (length h) both-long
      (λ k x l. let i : k < pos + 1 = omega (arith, front-long h pos b) in rw (lag-newer h pos k b i) refl)
      (λ k x l. let i : k < length h - (pos + 1) = omega (arith, length-drop (pos + 1) h) in rw (front-long h pos b, lag-older h pos k b i) refl)
      plus

-- ---- the update's two runs
pub updated-runs : (scale : Float) (h w : List Float) (pos : ℕ) → pos < length h → length w ≡ length h
    → nudged_by scale (take (pos + 1) h) (take (pos + 1) w) ++ nudged_by scale (drop (pos + 1) h) (drop (pos + 1) w) ≡ updated_of scale h pos (length h) w
unfolding updated_of
updated-runs scale h w pos b e =
    let f : ℕ → Float → Float = λ k x. nudge_of scale (lag_of h pos (length h) k) x in
    let whole : pos + 1 + (length h - (pos + 1)) ≡ length h = omega arith in
    ap (λ (l : List Float). l ++ nudged_by scale (drop (pos + 1) h) (drop (pos + 1) w))
    (ap (λ (n : ℕ). over n (λ k x. nudge_of scale (newest (take (pos + 1) h) k) x) (take (pos + 1) w)) (front-long h pos b)
    ∙ over-cong _ f (take (pos + 1) w) (pos + 1) (λ k x l. ap (λ (y : Float). nudge_of scale y x) (lag-newer h pos k b l)))
    ∙ ap (λ (l : List Float). over (pos + 1) f (take (pos + 1) w) ++ l)
    (ap (λ (n : ℕ). over n (λ k x. nudge_of scale (newest (drop (pos + 1) h) k) x) (drop (pos + 1) w)) (length-drop (pos + 1) h)
    ∙ over-cong _ (λ k. f (pos + 1 + k)) (drop (pos + 1) w) (length h - (pos + 1)) (λ k x l. ap (λ (y : Float). nudge_of scale y x) (lag-older h pos k b l)))
    ∙ front-back f w (pos + 1) (length h - (pos + 1)) (omega arith)
    ∙ ap (λ (n : ℕ). over n f w) whole
  where
    -- the first p places, and then the next q
    front-back : (f : ℕ → Float → Float) (w : List Float) (p q : ℕ) → p ≤ length w → over p f (take p w) ++ over q (λ k. f (p + k)) (drop p w) ≡ over (p + q) f w
    front-back f w p q b =
        let s : length (over p f (take p w)) ≡ p = length_over p f (take p w) ∙ length-take-le p w b in
        sym
        (over-split f w p q
        ∙ over_at-back p q (λ k. f (p + k)) (over p f w)
        ∙ ap (λ (l : List Float). take p l ++ over q (λ k. f (p + k)) (drop p l)) (over-front p f w)
        ∙ rw (take_at (over p f (take p w)) (drop p w) p s, drop_at (over p f (take p w)) (drop p w) p s) refl)

-- whether all are finite: one by one from the front, and of the list
and-true : (b : Bool) → b ≡ (b && true)
and-true true = refl
and-true false = refl

and_assoc : (a b c : Bool) → ((a && b) && c) ≡ (a && (b && c))
and_assoc true b c = refl
and_assoc false b c = refl

all-from : (w : List Float) (b : Bool) → foldl (λ (a : Bool) (x : Float). a && is_finite x) b w ≡ (b && list_all is_finite w)
all-from [] b = and-true b
all-from (x ∷ w) b = all-from w (b && is_finite x) ∙ and_assoc b (is_finite x) (list_all is_finite w)

pub sound-all : (w : List Float) → sound_of (length w) w ≡ list_all is_finite w
unfolding sound_of
sound-all w = iter-fold nan (λ (a : Bool) (x : Float). a && is_finite x) true w ∙ all-from w true

updated-long : (scale : Float) (h w : List Float) (pos : ℕ) → length (updated_of scale h pos (length h) w) ≡ length w
unfolding updated_of
updated-long scale h w pos = length_over (length h) (λ k x. nudge_of scale (lag_of h pos (length h) k) x) w

pub sound-runs : (scale : Float) (h w first second : List Float) (pos : ℕ) {s t : Bool} → length w ≡ length h → first ++ second ≡ updated_of scale h pos (length h) w
    → s ≡ list_all is_finite first → t ≡ list_all is_finite second → (s && t) ≡ sound_of (length h) (updated_of scale h pos (length h) w)
sound-runs scale h w first second pos e u p q =
    rw (p, q)
    (sym (list_all-append is_finite first second)
    ∙ ap (list_all is_finite) u
    ∙ sym (sound-all (updated_of scale h pos (length h) w))
    ∙ ap (λ (n : ℕ). sound_of n (updated_of scale h pos (length h) w)) (updated-long scale h w pos ∙ e))
