-- Whether two floats are the same, as data: a test that antt computes, for the rule of a table. Assumes nothing.
use Rattle.std.specs.Prelude.{◌≡◌, Bool, true, false, ◌&&◌, T, ℤ, pos, negsuc, ◌==◌, refl, Float}
use Rattle.std.proofs.Common.{ap, eqb→eq}
use Rattle.std.specs.Bool.{beq}
use Rattle.std.specs.Float.{nan, inf, fin}
use Rattle.std.specs.Float.Ieee.Fits.{and_l, and_r}

abbrev same_z : ℤ → ℤ → Bool
same_z (pos a) (pos b) = a == b
same_z (pos a) (negsuc b) = false
same_z (negsuc a) (pos b) = false
same_z (negsuc a) (negsuc b) = a == b

-- the same float, as data
abbrev pub same : Float → Float → Bool
same nan nan = true
same nan (inf t) = false
same nan (fin t n d) = false
same (inf s) nan = false
same (inf s) (inf t) = beq s t
same (inf s) (fin t n d) = false
same (fin s m e) nan = false
same (fin s m e) (inf t) = false
same (fin s m e) (fin t n d) = beq s t && (m == n && same_z e d)

beq-eq : (s t : Bool) → T (beq s t) → s ≡ t
beq-eq true true h = refl
beq-eq true false h = absurd h
beq-eq false true h = absurd h
beq-eq false false h = refl

same_z-eq : (a b : ℤ) → T (same_z a b) → a ≡ b
same_z-eq (pos a) (pos b) h = ap pos (eqb→eq a b h)
same_z-eq (pos a) (negsuc b) h = absurd h
same_z-eq (negsuc a) (pos b) h = absurd h
same_z-eq (negsuc a) (negsuc b) h = ap negsuc (eqb→eq a b h)

pub same-eq : (x y : Float) → T (same x y) → x ≡ y
same-eq nan nan h = refl
same-eq nan (inf t) h = absurd h
same-eq nan (fin t n d) h = absurd h
same-eq (inf s) nan h = absurd h
same-eq (inf s) (inf t) h = ap inf (beq-eq s t h)
same-eq (inf s) (fin t n d) h = absurd h
same-eq (fin s m e) nan h = absurd h
same-eq (fin s m e) (inf t) h = absurd h
same-eq (fin s m e) (fin t n d) h =
    let k = and_r (beq s t) (m == n && same_z e d) h in
    let p : s ≡ t = beq-eq s t (and_l (beq s t) (m == n && same_z e d) h) in
    let q : m ≡ n = eqb→eq m n (and_l (m == n) (same_z e d) k) in
    let r : e ≡ d = same_z-eq e d (and_r (m == n) (same_z e d) k) in
    cc
