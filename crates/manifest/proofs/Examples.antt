-- The definitions at small texts, by computation: 97 and 98 are the letters a and b, 10 is the newline, 13 the carriage return.
-- Assumes nothing.
use mathlib.Core.Path.{◌≡◌, refl}
use mathlib.Core.Bool.{true, false}
use mathlib.Core.List.{[], ◌∷◌}
use Rattle.laws.specs.Choice.{pick}
use Rattle.manifest.specs.Lines.{on_first, lines_of, ends_in_newline, joined_of}

no_line : lines_of [] ≡ []
unfolding lines_of
no_line = refl

one_line : lines_of (97 ∷ 10 ∷ []) ≡ (97 ∷ []) ∷ []
unfolding lines_of on_first pick
one_line = refl

last-bare : lines_of (98 ∷ 10 ∷ 97 ∷ []) ≡ (98 ∷ []) ∷ (97 ∷ []) ∷ []
unfolding lines_of on_first pick
last-bare = refl

empty-lines : lines_of (10 ∷ 10 ∷ []) ≡ [] ∷ [] ∷ []
unfolding lines_of pick
empty-lines = refl

carriage-return : lines_of (97 ∷ 13 ∷ 10 ∷ []) ≡ (97 ∷ 13 ∷ []) ∷ []
unfolding lines_of on_first pick
carriage-return = refl

ends : ends_in_newline (97 ∷ 10 ∷ []) ≡ true
unfolding ends_in_newline
ends = refl

ends-bare : ends_in_newline (98 ∷ 10 ∷ 97 ∷ []) ≡ false
unfolding ends_in_newline
ends-bare = refl

joined : joined_of true ((97 ∷ []) ∷ (98 ∷ []) ∷ []) ≡ 97 ∷ 10 ∷ 98 ∷ 10 ∷ []
unfolding joined_of pick
joined = refl

joined-bare : joined_of false ([] ∷ (97 ∷ []) ∷ (98 ∷ []) ∷ []) ≡ 10 ∷ 97 ∷ 10 ∷ 98 ∷ []
unfolding joined_of pick
joined-bare = refl
