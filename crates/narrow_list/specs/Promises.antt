-- What each public function promises: what it is given, then its answer, then what a lent buffer holds after. The contracts cite these names,
-- and crate promises proves that each admits one answer (Answers).
use Rattle.std.specs.Prelude.{◌≡◌, List, ℕ, Float, length, get_or, take}
use Rattle.std.specs.Float.{nan}
use Rattle.laws.specs.Loops.{over}
use Rattle.numbers.specs.Narrowing.{narrow_of}
use Rattle.narrow_list.specs.Overs.{over_count, scaled_by}

-- the answer: how many of the numbers that were narrowed went over
abbrev pub NarrowInto : List Float → List Float → ℕ → List Float → Type 0
NarrowInto xs out r after = (after ≡ over (length xs) (λ k x. narrow_of (get_or xs k nan)) out) × (r ≡ over_count (take (length out) xs))

abbrev pub OversScaled : List Float → Float → ℕ → Type 0
OversScaled xs scale r = r ≡ over_count (scaled_by scale xs)
