-- One place more of a list is as a function says, where the list is set there. Assumes nothing.
use Rattle.std.proofs.Common.{◌≡◌, ℕ, ◌+◌, ◌<◌, List, length, slice_index, slice_set, ◌∙◌, arith}
use Rattle.std.proofs.lemmas.List.{get_or-set_same, get_or-set_other}
use borrow.Author.Count.{below_more}

pub one_more : (f : ℕ → ℕ) (xs : List ℕ) (k v : ℕ) → k < length xs → ((j : ℕ) → j < k → slice_index xs j ≡ f j) → v ≡ f k
    → (j : ℕ) → j < k + 1 → slice_index (slice_set xs k v) j ≡ f j
one_more f xs k v b h e =
    below_more (λ j. slice_index (slice_set xs k v) j ≡ f j) k
    (λ j l. get_or-set_other xs k j v 0 (omega arith) ∙ h j l)
    (get_or-set_same xs k v 0 b ∙ e)
