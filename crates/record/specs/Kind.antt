-- The kinds of records by their numbers. Definitions only.
--     number_of kind    a kind's number
--     Names n r         the answer r to a number n: the kind that it names, or BadHeader where it names none
use Rattle.std.specs.Prelude.{◌≡◌, ℕ, Result, ◌<◌, ◌⊎◌, MatchResult}
use Rattle.refusal.specs.declared.Refusal.{Refusal}
use Rattle.refusal.specs.declared.Refusal.TheVariants.{BadHeader}
use Rattle.record.specs.declared.kind.Kind.{Kind}
use Rattle.record.specs.declared.kind.Kind.TheVariants.{Pairs, Output, Flush, Reset}

abbrev pub number_of : Kind → ℕ
number_of Pairs = 1
number_of Output = 2
number_of Flush = 3
number_of Reset = 4

abbrev pub Names : ℕ → Result Kind Refusal → Type 0
Names n r = MatchResult r (λ kind. n ≡ number_of kind) (λ refusal. (refusal ≡ BadHeader) × ((n ≡ 0) ⊎ (4 < n)))
