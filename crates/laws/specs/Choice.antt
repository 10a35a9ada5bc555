-- A branch. `pick` is an if-then-else that stays shut, so that antt finds its test and its arms in a goal by itself.
-- Assumes nothing.
--     pick b x y          x where the test b holds, else y
--     pick_yes, pick_no   which arm it is, by the test: `pick_yes _ _ _ (cc) (cc)`
--     pick-if             what both arms have, the pick has, and the test is known in each
--     both                two tests that hold together hold each
--     lt-or-ge            of two numbers the first is less, or the second is no more
--     choices             what a tree of early returns wants: `search (needs, choices)`
use Rattle.std.specs.Prelude.{◌≡◌, refl, Bool, true, false, not, ◌&&◌, ◌⊎◌, ℕ, ◌≤◌, ◌<◌, T, ltb}
use Rattle.std.proofs.Common.{sym, true≢false, inl, inr, ltb→lt, nltb→le, lt-ltb, le-ltb, le-leb, eq-eqb, ne_eqb}
use Rattle.std.proofs.lemmas.Bool.{lt-leb}

unfoldable pub pick : {A : Type 0} → Bool → A → A → A
pick true x y = x
pick false x y = y

module _ {A : Type 0} (b : Bool) (x y : A) {z : A} where
  pub pick_yes : b ≡ true → z ≡ x → z ≡ pick b x y
  unfolding pick
  pick_yes e h = rw e h

  pub pick_no : b ≡ false → z ≡ y → z ≡ pick b x y
  unfolding pick
  pick_no e h = rw e h

pub pick-if : {A : Type 0} (Q : A → Type 0) (b : Bool) {x y : A} → (b ≡ true → Q x) → (b ≡ false → Q y) → Q (pick b x y)
unfolding pick
pick-if Q true h k = h refl
pick-if Q false h k = k refl

pub both : (a b : Bool) → (a && b) ≡ true → (a ≡ true) × (b ≡ true)
both true b h = (refl, h)
both false b h = absurd (true≢false (sym h))

pub lt-or-ge : (a b : ℕ) → (a < b) ⊎ (b ≤ a)
lt-or-ge a b = go (ltb a b) (ltb→lt a b) (nltb→le a b)
  where
    go : (t : Bool) → (T t → a < b) → (T (not t) → b ≤ a) → (a < b) ⊎ (b ≤ a)
    go true p q = inl (p tt)
    go false p q = inr (q tt)

pub ruleset choices = (
  pick_yes,
  pick_no,
  lt-ltb,
  le-ltb,
  le-leb,
  lt-leb,
  eq-eqb,
  ne_eqb,
)
