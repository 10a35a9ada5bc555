-- A read behind the bytes that are held, and one that failed. Assumes nothing.
use Rattle.std.proofs.Common.{◌≡◌, ℕ, ◌+◌, ◌-◌, ◌≤◌, List, [], ◌++◌, arith, length, take, slice_range, sym, ap, ◌∙◌, subst, le_refl, drop_at, length-take-le, Option, None, Some}
use Rattle.std.proofs.lemmas.Slice.{take-put_mid_below}
use Rattle.std.specs.Io.KnownBytes.{Consumes, Keeps}
use Rattle.std.proofs.KnownBytes.{Consumes-trans}
use borrow.Rule.Slice.PartMut.{put_mid, post_of}
use lib.Seq.{take-add, take-append-le}

take_split : (a b : ℕ) (old new : List ℕ) → a ≤ b → take a new ≡ take a old → take a old ++ slice_range new a b ≡ take b new
take_split a b old new h front =
    let same : a + (b - a) ≡ b = omega arith in
    ap (λ l. l ++ slice_range new a b) (sym front) ∙ sym (take-add a (b - a) new) ∙ ap (λ n. take n new) same

slice_range-put_mid : (a k n : ℕ) (xs ys : List ℕ) → a ≤ length xs → n ≤ length ys → slice_range (put_mid a k xs ys) a (a + n) ≡ take n ys
slice_range-put_mid a k n xs ys within fits =
    let same : (a + n) - a ≡ n = omega arith in
    let after = post_of a k xs in
    ap (take ((a + n) - a)) (drop_at (take a xs) (ys ++ after) a (length-take-le a xs within)) ∙ ap (λ m. take m (ys ++ after)) same ∙ take-append-le n ys after fits

-- what was held, and n bytes more that a read put behind it, is what the input has lost
pub behind : (a b c : Option (List ℕ)) (held n : ℕ) (old part : List ℕ) → held ≤ length old → n ≤ length part
    → Consumes a b (take held old) → Consumes b c (take n part) → Consumes a c (take (held + n) (put_mid held (length old - held) old part))
behind a b c held n old part within fits first second =
    let room = length old - held in
    let added = slice_range-put_mid held room n old part within fits in
    let joined = take_split held (held + n) old (put_mid held room old part) (omega arith) (take-put_mid_below _ _ _ _ _ (le_refl _) within) in
    subst (Consumes a c) (ap (λ l. take held old ++ l) (sym added) ∙ joined) (Consumes-trans a b c _ _ first second)

-- of a read that failed no byte is lost
pub none_lost : (a b : Option (List ℕ)) → Keeps a b → Consumes a b []
none_lost None b h = tt
none_lost (Some xs) None h = h
none_lost (Some xs) (Some ys) h = sym h
