-- A sum that is no NaN has no term that is one. Assumes nothing.
--     all    32 samples summed in eight lanes of four
use mathlib.Core.Path.{◌≡◌}
use mathlib.Core.Bool.{false, not}
use mathlib.Core.List.{List}
use Prim.Native.Nat.{ℕ, ◌+◌, ◌<◌}
use lib.Dec.{T}
use lib.Ieee.{Float, nan, binary32, add, ne, is_nan}
use lib.ListN.{get_or}
use Rattle.numbers.proofs.Tests.{no_nan, terms}
use Rattle.narrow_list.specs.Lanes.{tree}
use Rattle.narrow_list.proofs.Lanes as lanes

module _ (xs : List Float) where
  abbrev pub lane : ℕ → Float
  lane k = add binary32 (add binary32 (get_or xs k nan) (get_or xs (k + 8) nan)) (add binary32 (get_or xs (k + 16) nan) (get_or xs (k + 24) nan))

  pub all : (s : List Float) → ((k : ℕ) → k < 8 → get_or s k nan ≡ lane k) → ne (tree (add binary32) (λ k. get_or s k nan)) (tree (add binary32) (λ k. get_or s k nan)) ≡ false → (k : ℕ) → k < 32 → T (not (is_nan (get_or xs k nan)))
  all s e n =
      lanes.all (add binary32) (λ x. T (not false)) (λ x. T (not (is_nan x))) (λ x y a b. tt) (λ x y a b. terms binary32 x y)
      (λ k. get_or xs k nan) (λ k. get_or s k nan) (λ k l. tt) e (no_nan _ n)
