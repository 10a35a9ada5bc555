-- What the six bytes before a payload say. Definitions only.
--     Made kind len r    the answer r to who makes a header: it has this kind and this length, or they do not fit
--     IsHeader s r       the answer r to who reads one from the bytes s
use Rattle.std.specs.Prelude.{◌≡◌, false, List, ℕ, Result, MatchResult}
use Rattle.refusal.specs.declared.Refusal.{Refusal}
use Rattle.refusal.specs.declared.Refusal.TheVariants.{BadHeader}
use Rattle.refusal.specs.Refusal as refusals
use Rattle.record.specs.declared.kind.Kind.{Kind}
use Rattle.record.specs.declared.header.Header.{Header}
use Rattle.record.specs.Kind.{number_of}
use Rattle.record.specs.Record.{fits_of}
use Rattle.record.specs.Reading.{kind_in, length_in, header_refusal}

abbrev pub Made : Kind → ℕ → Result Header Refusal → Type 0
Made kind len r = MatchResult r (λ h. (h.kind ≡ kind) × (h.len ≡ len)) (λ refusal. (refusal ≡ BadHeader) × (fits_of (number_of kind) len ≡ false))

pub record Says (s : List ℕ) (h : Header) : Type 0 where
  pub refusal : header_refusal s ≡ 0
  pub kind : number_of h.kind ≡ kind_in s
  pub len : h.len ≡ length_in s

abbrev pub IsHeader : List ℕ → Result Header Refusal → Type 0
IsHeader s r = MatchResult r (Says s) (λ refusal. header_refusal s ≡ refusals.number_of refusal)
