-- What is put together in a string of fixed room stands in it, part behind part. Assumes nothing.
use Rattle.std.proofs.Common.{◌≡◌, ◌∷◌, [], ◌++◌, ℕ, List, Option, None, Some, IfSome, Result, Ok, Err, IsOk, OnOk, ◌∙◌, ap, rules}
use Rattle.std.specs.Fmt.{WritesText, option_append}
use Rattle.std.proofs.lemmas.Fmt.{contents_after_writes}
use Rattle.arrayvec.specs.ArrayString.{ArrayString}
use Rattle.pipe.specs.Said.{line_of}

abbrev Took : ArrayString → List ℕ → ArrayString → Type 0
Took s bytes t = t.bytes ≡ s.bytes ++ bytes

on-ok : {T E : Type 0} (r : Result T E) (P : Type 0) → IsOk r → OnOk r P → P
on-ok (Ok x) P e h = h
on-ok (Err x) P e h = search rules

pub line-written : {T E : Type 0} (r : Result T E) (name : List ℕ) (why : Option (List ℕ)) (s t : ArrayString) → IsOk r → s.bytes ≡ []
    → OnOk r (WritesText Took s (option_append (Some name) (option_append (Some (58 ∷ 32 ∷ [])) (option_append why (Some (10 ∷ []))))) t)
    → IfSome why (λ text. t.bytes ≡ line_of name text)
line-written r name None s t ok e h = tt
line-written r name (Some text) s t ok e h =
    contents_after_writes Took (λ z. z.bytes) (λ w bs v p. p) s _ t (on-ok r _ ok h) ∙ ap (λ l. l ++ line_of name text) e
